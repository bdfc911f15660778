-- By the lemmas of `message_steps`.
use Rattle.std.proofs.Common.{arith}
use Rattle.debug_modes.proofs.ExpectationsLemmas.DumpLemmas.{message_steps}
use Rattle.debug_modes.proofs.expectations.why.push_message.Goals as goal

pub loop-left-preserved : goal.loop-left-preserved
loop-left-preserved g c = grind (arith, message_steps)

pub returns-then-byte-eq0 : goal.returns-then-byte-eq0
returns-then-byte-eq0 g c = grind (arith, message_steps)

pub returns : goal.returns
returns g c = grind (arith, message_steps)
