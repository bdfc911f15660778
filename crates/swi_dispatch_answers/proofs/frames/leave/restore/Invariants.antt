use Rattle.std.proofs.Common.{◌≡◌, ◌-◌}
use Rattle.swi_dispatch_answers.specs.frames.Leaving.{state_with_saved_words}
use Rattle.swi_dispatch_answers.proofs.frames.leave.restore.Given as goal

abbrev pub invariant-loop-number : goal.invariant-loop-number
invariant-loop-number l = state_with_saved_words l.number (13 - l.number) l.saved l.cpu ≡ state_with_saved_words l.first (13 - l.first) l.saved l.fn.cpu
