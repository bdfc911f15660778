use Rattle.trace_store_text.proofs.ItemsLemmas.LawLemmas.{explains}
use Rattle.trace_store_text.proofs.items.laws.items_are_explained.Goals as goal

pub returns : goal.returns
returns c = explains
