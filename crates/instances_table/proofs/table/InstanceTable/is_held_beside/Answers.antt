-- By the lemmas of `RoomViews`.
use Rattle.std.proofs.Common.{arith}
use Rattle.instances_table.proofs.RoomViews.{beside_view}
use Rattle.instances_table.proofs.table.InstanceTable.is_held_beside.Goals as goal

pub returns : goal.returns
returns c = grind (arith, beside_view)
