-- As the definition says.
use Rattle.std.proofs.Common.{arith}
use Rattle.std.proofs.lemmas.Grind.{common_steps}
use Rattle.debugger.specs.views.Banks.{banked_register_text}
use Rattle.debugger.proofs.views.banks.show_register.Goals as goal

pub returns : goal.returns
unfolding banked_register_text
returns g c = grind (arith, common_steps)
