use Rattle.std.proofs.Common.{◌≡◌}
use Rattle.debug_program.proofs.talk.push_missing_ends.Given as goal

-- no line so far made the writer fail
abbrev pub invariant-loop-line : goal.invariant-loop-line
invariant-loop-line g l = record { same_flag : g.W.Sink.has_failed l.sink ≡ g.W.Sink.has_failed l.fn.sink }
