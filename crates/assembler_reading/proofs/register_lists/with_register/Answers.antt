-- A bit that is clear can be added, by `fits`.
use Rattle.std.proofs.Common.{arith}
use Rattle.assembler_reading.proofs.Ranges.{fits}
use Rattle.assembler_reading.specs.RegisterLists.{list_with_register}
use Rattle.assembler_reading.proofs.register_lists.with_register.Goals as goal

pub overflow_cast-bits : goal.overflow_cast-bits
unfolding list_with_register
overflow_cast-bits c = grind (arith, fits)

pub returns-then-contains : goal.returns-then-contains
unfolding list_with_register
returns-then-contains c = grind (arith, fits)

pub returns-else-contains : goal.returns-else-contains
unfolding list_with_register
returns-else-contains c = grind (arith, fits)
