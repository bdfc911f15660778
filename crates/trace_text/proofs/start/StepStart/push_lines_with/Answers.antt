-- As the definition says.
use Rattle.std.proofs.Common.{arith}
use Rattle.std.proofs.lemmas.Grind.{common_steps}
use Rattle.profile.proofs.OutputLemmas.{Appends-join}
use Rattle.trace_text.specs.Step.{lines_with}
use Rattle.trace_text.proofs.start.StepStart.push_lines_with.Goals as goal

pub returns : goal.returns
unfolding lines_with
returns g c = grind (arith, common_steps, Appends-join)
