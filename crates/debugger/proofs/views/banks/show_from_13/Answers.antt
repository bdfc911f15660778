-- As the definition says.
use Rattle.std.proofs.Common.{arith}
use Rattle.std.proofs.lemmas.Grind.{common_steps}
use Rattle.debugger.specs.views.Banks.{bank_line_from_13}
use Rattle.debugger.proofs.views.banks.show_from_13.Goals as goal

pub returns : goal.returns
unfolding bank_line_from_13
returns g c = grind (arith, common_steps)
