use Rattle.law_machine.proofs.OtherBytesLemmas.FlexCalls.{flex_calls_keep_others}
use Rattle.law_machine.proofs.other_bytes.laws.flex_calls_keep_others.Goals as goal

pub returns : goal.returns
returns c = flex_calls_keep_others
