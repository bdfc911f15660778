use Rattle.law_machine.proofs.OtherBytesLemmas.Pages.{page_calls_keep_others}
use Rattle.law_machine.proofs.other_bytes.laws.page_calls_keep_others.Goals as goal

pub returns : goal.returns
returns c = page_calls_keep_others
