-- As the definition says.
use Rattle.std.proofs.Common.{arith}
use Rattle.std.proofs.lemmas.Grind.{common_steps}
use Rattle.debugger.proofs.registers.show_core.Goals as goal

pub returns : goal.returns
returns g c = grind (arith, common_steps)
