use Rattle.law_machine.proofs.LiveBytesLemmas.Outside.{pokes_change}
use Rattle.law_machine.proofs.live_bytes.laws.pokes_change_one_word.Goals as goal

pub returns : goal.returns
returns c = pokes_change
