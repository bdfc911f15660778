-- By the lemmas of `byte_steps`.
use Rattle.std.proofs.Common.{arith}
use Rattle.debug_labels.proofs.MemoryLemmas.{byte_steps}
use Rattle.debug_modes.proofs.expectations.dump.show_bytes.Goals as goal

pub loop-left-preserved : goal.loop-left-preserved
loop-left-preserved g c = grind (arith, byte_steps)

pub returns : goal.returns
returns g c = grind (arith, byte_steps)
