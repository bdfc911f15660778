use Rattle.trace_moments.proofs.LawTraceLemmas.StoreLemmas.{reported}
use Rattle.trace_moments.proofs.law_trace.laws.stores_are_shown.Goals as goal

pub returns : goal.returns
returns c = reported c.steps_leave_bytes.ensures
