use Rattle.law_machine.proofs.HeapAloneLemmas.LiveBytes.{instructions_change_stored}
use Rattle.law_machine.proofs.heap_alone.laws.instructions_change_stored_bytes.Goals as goal

pub returns : goal.returns
returns c = instructions_change_stored
