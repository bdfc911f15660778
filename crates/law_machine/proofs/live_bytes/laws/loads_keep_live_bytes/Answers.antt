use Rattle.law_machine.proofs.LiveBytesLemmas.Outside.{loads_keep}
use Rattle.law_machine.proofs.live_bytes.laws.loads_keep_live_bytes.Goals as goal

pub returns : goal.returns
returns c = loads_keep
