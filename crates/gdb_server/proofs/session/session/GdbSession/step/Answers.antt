use Rattle.std.proofs.Common.{ℕ, List, subst}
use Rattle.gdb_packets.specs.declared.going.Going.TheVariants as going
use Rattle.profile.specs.text_sink.TextSink.{sink_text_of}
use Rattle.gdb_server.specs.session.Session.{gdb_state, IsAfterSteps}
use Rattle.gdb_server.specs.session.State.{GdbState}
use Rattle.gdb_server.specs.session.Steps.{gdb_steps}
use Rattle.gdb_server.proofs.SessionLemmas.RunLemmas.{answered_as, step_stops}
use Rattle.gdb_server.proofs.session.session.GdbSession.step.Goals as goal

pub returns-clause-reported : goal.returns-clause-reported
returns-clause-reported c =
    let images = c.args.images.now in
    let g : GdbState = gdb_state c.args.self.now images in
    let now : GdbState = gdb_state c.take_steps.new.self images in
    let text : List ℕ = sink_text_of c.take_steps.new.printed in
    let taken = subst (λ (x : List ℕ). IsAfterSteps g now x text c.in_ok-stop.stop (gdb_steps g going.Once 1))
    c.new-reported.ensures c.in_ok-stop.ensures.taken in
    answered_as _ _ _ _ (step_stops g now text c.in_ok-stop.stop c.stepped.result taken c.stepped.ensures)
    (c.stopped.ensures.reported images)
