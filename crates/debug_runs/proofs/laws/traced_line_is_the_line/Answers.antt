use Rattle.std.proofs.Common.{Some, None}
use Rattle.debug_runs.proofs.TracedLemmas.{same_line}
use Rattle.debug_runs.proofs.laws.traced_line_is_the_line.Goals as goal

pub returns : goal.returns
returns c modes labels limit s r = same_line modes labels (Some limit) None s r
