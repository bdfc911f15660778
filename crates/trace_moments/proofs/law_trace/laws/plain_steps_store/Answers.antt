use Rattle.trace_moments.proofs.LawTraceLemmas.PlainLemmas.{kept}
use Rattle.trace_moments.proofs.law_trace.laws.plain_steps_store.Goals as goal

pub returns : goal.returns
returns c = kept c.stores_are_shown.ensures
