-- As the definition says.
use Rattle.std.proofs.Common.{arith}
use Rattle.std.proofs.lemmas.Grind.{common_steps}
use Rattle.trace_effects.specs.Columns.{columns_text}
use Rattle.trace_effects.proofs.columns.push_line.Goals as goal

pub returns : goal.returns
unfolding columns_text
returns g c = grind (arith, common_steps)
