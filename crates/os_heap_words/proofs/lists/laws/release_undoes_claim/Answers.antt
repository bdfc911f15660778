use Rattle.os_heap_words.proofs.ListsLemmas.ReleaseOfClaim.{gives_back}
use Rattle.os_heap_words.proofs.lists.laws.release_undoes_claim.Goals as goal

pub returns : goal.returns
returns c = gives_back
