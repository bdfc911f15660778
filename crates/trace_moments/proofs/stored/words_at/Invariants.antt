use Rattle.trace_moments.proofs.StoredLemmas.{AreFirstListed}
use Rattle.trace_moments.proofs.stored.words_at.Given as goal

-- those so far are listed
abbrev pub invariant-loop-index : goal.invariant-loop-index
invariant-loop-index l = AreFirstListed l.fn.words l.index l.all.items
