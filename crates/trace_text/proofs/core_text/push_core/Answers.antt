-- As the definition says.
use Rattle.std.proofs.Common.{arith}
use Rattle.std.proofs.lemmas.Grind.{common_steps}
use Rattle.trace_text.specs.Core.{core_words}
use Rattle.trace_text.proofs.core_text.push_core.Goals as goal

pub returns : goal.returns
unfolding core_words
returns g c = grind (arith, common_steps)
