use Rattle.store_copies.proofs.LawLemmas.{are_true}
use Rattle.store_copies.proofs.laws.changes_are_true.Goals as goal

pub returns : goal.returns
returns c = are_true
