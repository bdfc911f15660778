use Rattle.trace_effects.proofs.ChangesLemmas.LawLemmas.{are_true}
use Rattle.trace_effects.proofs.changes.laws.changes_are_true.Goals as goal

pub returns : goal.returns
returns c = are_true
