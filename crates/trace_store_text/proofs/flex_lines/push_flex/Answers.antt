-- As the definition says, by the blocks that are listed.
use Rattle.std.proofs.Common.{arith}
use Rattle.std.proofs.lemmas.Grind.{common_steps}
use Rattle.trace_store_text.proofs.FlexLemmas.{lines_listed}
use Rattle.trace_store_text.proofs.flex_lines.push_flex.Goals as goal

pub returns : goal.returns
returns g c = rw (lines_listed c.args.before.now c.args.after.now c.args.old.now c.args.new.now) (grind (arith, common_steps))
