use Rattle.law_machine.proofs.LiveBytesLemmas.FlexBytes.{flex_calls_change}
use Rattle.law_machine.proofs.live_bytes.laws.flex_calls_change_anchors.Goals as goal

pub returns : goal.returns
returns c = flex_calls_change
