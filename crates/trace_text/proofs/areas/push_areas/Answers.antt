-- As the definition says.
use Rattle.std.proofs.Common.{arith}
use Rattle.std.proofs.lemmas.Grind.{common_steps}
use Rattle.trace_text.specs.Areas.{area_lines}
use Rattle.trace_text.proofs.areas.push_areas.Goals as goal

pub returns : goal.returns
unfolding area_lines
returns g c = grind (arith, common_steps)
