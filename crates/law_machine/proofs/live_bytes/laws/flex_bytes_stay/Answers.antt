use Rattle.law_machine.proofs.LiveBytesLemmas.FlexMoves.{flex_bytes_stay}
use Rattle.law_machine.proofs.live_bytes.laws.flex_bytes_stay.Goals as goal

pub returns : goal.returns
returns c = flex_bytes_stay
