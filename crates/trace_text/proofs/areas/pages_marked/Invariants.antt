use Rattle.std.proofs.Common.{◌≡◌, drop}
use Rattle.trace_text.specs.Areas.{pages_marked}
use Rattle.trace_text.proofs.areas.pages_marked.Given as goal

-- no mark that was passed has the number
abbrev pub invariant-loop-mark : goal.invariant-loop-mark
invariant-loop-mark l = pages_marked (drop l.mark-index l.marks) l.number ≡ pages_marked l.marks l.number
