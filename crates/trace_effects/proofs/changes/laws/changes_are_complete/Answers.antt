use Rattle.trace_effects.proofs.ChangesLemmas.LawLemmas.{are_complete}
use Rattle.trace_effects.proofs.changes.laws.changes_are_complete.Goals as goal

pub returns : goal.returns
returns c = are_complete
