use Rattle.law_machine.proofs.HeapAloneLemmas.LiveClaims.{claims_keep}
use Rattle.law_machine.proofs.heap_alone.laws.claims_keep_live_bytes.Goals as goal

pub returns : goal.returns
returns c = claims_keep
