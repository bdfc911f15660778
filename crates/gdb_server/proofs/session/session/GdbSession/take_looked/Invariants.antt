use Rattle.std.proofs.Common.{◌≡◌}
use Rattle.profile.specs.text_sink.TextSink.{sink_text_of}
use Rattle.gdb_server.specs.session.Session.{gdb_state}
use Rattle.gdb_server.specs.session.Steps.{looks_at}
use Rattle.gdb_server.proofs.SessionLemmas.StepLemmas.{AreStepsLeft}
use Rattle.gdb_server.proofs.session.session.GdbSession.take_looked.Given as goal

abbrev pub invariant-loop-left : goal.invariant-loop-left
invariant-loop-left l = record {
  steps : AreStepsLeft (looks_at (gdb_state l.fn.self l.images) l.fn.going l.seen) (gdb_state l.fn.self l.images) (gdb_state l.self l.images)
      (sink_text_of l.fn.printed) (sink_text_of l.printed) l.fn.count l.left;
}

abbrev pub decreases-loop-left : goal.decreases-loop-left
decreases-loop-left l = l.left
