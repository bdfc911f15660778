-- As the definition says, by the recorded ranges.
use Rattle.std.proofs.Common.{arith}
use Rattle.std.proofs.lemmas.Grind.{common_steps}
use Rattle.trace_store_text.proofs.HeapLemmas.{heaps_by_region}
use Rattle.trace_store_text.proofs.heap_lines.push_heaps.Goals as goal

pub returns : goal.returns
returns g c = rw (heaps_by_region c.args.before.now c.args.after.now) (grind (arith, common_steps))
