-- As the definition says.
use Rattle.std.proofs.Common.{arith}
use Rattle.std.proofs.lemmas.Grind.{common_steps}
use Rattle.debug_tables.specs.Answers.{refused_text}
use Rattle.debug_runs.proofs.endings.print_refused.Goals as goal

pub returns : goal.returns
unfolding refused_text
returns g c = grind (arith, common_steps)
