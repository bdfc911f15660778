use Rattle.std.proofs.Common.{arith, rules}
use Rattle.dynamic_areas.proofs.RoomLemmas.{held_small}
use Rattle.dynamic_areas.proofs.areas.Areas.read.Goals as goal
use Rattle.dynamic_areas.specs.Areas.{extent_asked}

pub overflow_mul-result : goal.overflow_mul-result
overflow_mul-result c = omega (arith, held_small c.args.self.now.areas c.asked_number.result c.in_ok-area.area.now c.requires c.in_ok-area.ensures)

pub returns-in_err-area : goal.returns-in_err-area
unfolding extent_asked
returns-in_err-area c = search rules

pub returns-then-word-ge128 : goal.returns-then-word-ge128
unfolding extent_asked
returns-then-word-ge128 c = search rules

pub returns-else-word-ge128 : goal.returns-else-word-ge128
unfolding extent_asked
returns-else-word-ge128 c = search rules
