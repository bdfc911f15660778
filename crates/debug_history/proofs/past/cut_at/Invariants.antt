use Rattle.debug_history.proofs.PastLemmas.{IsCutBehind, IsCutFrom}
use Rattle.debug_history.proofs.past.cut_at.Given as goal

-- the acts that were passed stay, and so many steps of the others; what is behind these is behind the cut
abbrev pub invariant-loop-index : goal.invariant-loop-index
invariant-loop-index l = record {
  until : IsCutFrom l.acts l.step l.index l.left;
  behind : IsCutBehind l.acts l.step l.index l.left;
}
