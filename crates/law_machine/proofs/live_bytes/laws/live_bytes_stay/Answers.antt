use Rattle.law_machine.proofs.LiveBytesLemmas.Moves.{live_bytes_stay}
use Rattle.law_machine.proofs.live_bytes.laws.live_bytes_stay.Goals as goal

pub returns : goal.returns
returns c = live_bytes_stay
