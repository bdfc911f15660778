-- As the definition says.
use Rattle.std.proofs.Common.{arith}
use Rattle.std.proofs.lemmas.Grind.{common_steps}
use Rattle.debugger.specs.views.Banks.{registers_from_8_text}
use Rattle.debugger.proofs.views.banks.show_registers_from_8.Goals as goal

pub returns : goal.returns
unfolding registers_from_8_text
returns g c = grind (arith, common_steps)
