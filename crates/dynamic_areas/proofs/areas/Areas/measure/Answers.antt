use Rattle.std.proofs.Common.{sym, rules}
use Rattle.os_heap.specs.Memory.{free_pages}
use Rattle.os_heap.specs.Store.{store_of}
use Rattle.dynamic_areas.proofs.KeptLemmas.{area_heap}
use Rattle.dynamic_areas.proofs.RoomLemmas.{found_room}
use Rattle.dynamic_areas.proofs.areas.Areas.measure.Goals as goal
use Rattle.dynamic_areas.specs.Changing.{change_answer}

pub growth_room-requires : goal.growth_room-requires
growth_room-requires c =
    let e = rw c.list.ensures.value at c.in-Some.ensures in
    (found_room c.args.number c.args.self.now.areas c.in-Some.area.now c.requires.ground.table.rooms (sym e)).within

pub loose_pages-requires-clause-state : goal.loose_pages-requires-clause-state
loose_pages-requires-clause-state c = area_heap (store_of c.args.map.now) (free_pages c.args.map.now) c.args.self.now c.requires

pub loose_pages-requires-clause-room : goal.loose_pages-requires-clause-room
loose_pages-requires-clause-room c =
    let e = rw c.list.ensures.value at c.in-Some.ensures in
    found_room c.args.number c.args.self.now.areas c.in-Some.area.now c.requires.ground.table.rooms (sym e)

pub returns-in_default : goal.returns-in_default
unfolding change_answer
returns-in_default c = search rules

pub returns-then-is_growth : goal.returns-then-is_growth
unfolding change_answer
returns-then-is_growth c = search rules

pub returns-else-is_growth : goal.returns-else-is_growth
unfolding change_answer
returns-else-is_growth c = search rules
