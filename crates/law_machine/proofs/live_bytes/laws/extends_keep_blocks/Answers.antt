use Rattle.law_machine.proofs.LiveBytesLemmas.Extending.{extends_keep}
use Rattle.law_machine.proofs.live_bytes.laws.extends_keep_blocks.Goals as goal

pub returns : goal.returns
returns c = extends_keep
