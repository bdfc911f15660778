use Rattle.std.proofs.Common.{◌++◌, ℕ, List, ap, ◌∙◌}
use Rattle.profile.specs.text_sink.TextSink.{sink_text_of}
use Rattle.gdb_server.specs.session.Runs.{stop_shown_with, user_text}
use Rattle.gdb_server.specs.session.Session.{gdb_state}
use Rattle.gdb_server.specs.session.State.{GdbState}
use Rattle.gdb_server.proofs.SessionLemmas.RunLemmas.{answered_as}
use Rattle.gdb_server.proofs.session.session.GdbSession.stopped.Goals as goal

pub returns-clause-reported : goal.returns-clause-reported
returns-clause-reported c images =
    let g : GdbState = gdb_state c.args.self.now images in
    answered_as _ _ _ _ (ap (λ (x : List ℕ). stop_shown_with g x c.args.stop)
    (c.in_ok-push_stop.ensures.text ∙ ap (λ (at : ℕ). sink_text_of c.args.reported ++ user_text c.args.stop at) (c.pc.ensures images)))
    (c.stopped_with.ensures.reported images)
