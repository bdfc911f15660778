-- By the lemmas of `dump_steps`.
use Rattle.std.proofs.Common.{arith}
use Rattle.debug_modes.proofs.ExpectationsLemmas.DumpLemmas.{dump_steps}
use Rattle.debug_modes.proofs.expectations.dump.show_dump.Goals as goal

pub loop-left-preserved : goal.loop-left-preserved
loop-left-preserved g c = grind (arith, dump_steps)

pub returns : goal.returns
returns g c = grind (arith, dump_steps)
