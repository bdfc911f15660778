use Rattle.trace_store_text.proofs.ItemsLemmas.LawLemmas.{are_true}
use Rattle.trace_store_text.proofs.items.laws.items_are_true.Goals as goal

pub returns : goal.returns
returns c = are_true
