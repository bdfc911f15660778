use Rattle.law_machine.proofs.HeapAloneLemmas.LiveMoves.{moves_keep}
use Rattle.law_machine.proofs.heap_alone.laws.moves_keep_live_bytes.Goals as goal

pub returns : goal.returns
returns c = moves_keep
