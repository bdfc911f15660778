use Rattle.law_machine.proofs.OtherBytesLemmas.AreaCalls.{area_calls_keep_others}
use Rattle.law_machine.proofs.other_bytes.laws.area_calls_keep_others.Goals as goal

pub returns : goal.returns
returns c = area_calls_keep_others
