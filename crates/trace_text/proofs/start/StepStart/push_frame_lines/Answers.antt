-- As the definition says.
use Rattle.std.proofs.Common.{arith}
use Rattle.std.proofs.lemmas.Grind.{common_steps}
use Rattle.profile.proofs.OutputLemmas.{Appends-join}
use Rattle.trace_text.specs.Step.{frame_lines_below}
use Rattle.trace_text.proofs.start.StepStart.push_frame_lines.Goals as goal

pub returns : goal.returns
unfolding frame_lines_below
returns g c = grind (arith, common_steps, Appends-join)
