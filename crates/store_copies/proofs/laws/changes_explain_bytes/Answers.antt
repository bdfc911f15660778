use Rattle.store_copies.proofs.LawLemmas.{explains}
use Rattle.store_copies.proofs.laws.changes_explain_bytes.Goals as goal

pub returns : goal.returns
returns c = explains
