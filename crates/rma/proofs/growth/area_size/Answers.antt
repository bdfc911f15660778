use Rattle.std.proofs.Common.{arith}
use Rattle.dynamic_areas.proofs.RoomLemmas.{held_small}
use Rattle.rma.proofs.growth.area_size.Goals as goal

pub overflow_mul-result : goal.overflow_mul-result
overflow_mul-result c = omega (arith, held_small c.args.areas.now.areas 1 c.in-Ok.area.now c.requires c.in-Ok.ensures)
