use Rattle.std.proofs.Common.{arith}
use Rattle.instances.proofs.RoomLemmas.{held_small}
use Rattle.swi_dispatch_plans.proofs.store.areas.print_area.Goals as goal

pub overflow_mul-area : goal.overflow_mul-area
overflow_mul-area c = omega (arith, held_small _ _ _ c.requires.area_store.ground.table c.in_ok-area.ensures)
