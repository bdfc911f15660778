use Rattle.std.proofs.Common.{[], ap, sym, ◌∙◌, arith}
use Rattle.gdb_machine.specs.declared.stops.GdbStop.{GdbStop}
use Rattle.gdb_server.specs.session.Back.{step_back_after}
use Rattle.gdb_server.specs.session.Runs.{gdb_stop_shown}
use Rattle.gdb_server.specs.session.Session.{gdb_state}
use Rattle.gdb_server.specs.session.State.{GdbState}
use Rattle.gdb_server.proofs.SessionLemmas.BackLemmas.{stays_at_begin, steps_once}
use Rattle.gdb_server.proofs.SessionLemmas.RunLemmas.{answered_as}
use Rattle.gdb_server.proofs.session.session.GdbSession.step_back.Goals as goal

pub returns-in-WatchedBack-clause-reported : goal.returns-in-WatchedBack-clause-reported
returns-in-WatchedBack-clause-reported c =
    let images = c.args.images.now in
    let g : GdbState = gdb_state c.args.self.now images in
    answered_as _ _ _ _ (ap (λ (w : GdbStop). gdb_stop_shown g [] w) (c.stop_here-stop.ensures images)
    ∙ sym (ap (λ (w : GdbStop). step_back_after w g) c.in-WatchedBack.is))
    (c.stand.ensures.reported images)

pub returns-then-steps-eq0-clause-reported : goal.returns-then-steps-eq0-clause-reported
returns-then-steps-eq0-clause-reported c =
    let images = c.args.images.now in
    let g : GdbState = gdb_state c.args.self.now images in
    answered_as _ _ _ _ (stays_at_begin g c.steps_back-steps.result c.in_default.not-WatchedBack (c.steps_back-steps.ensures images)
    (omega (arith, c.if-steps-eq0.true)))
    (c.stand-then-steps-eq0.ensures.reported images)

pub returns-else-steps-eq0-clause-reported : goal.returns-else-steps-eq0-clause-reported
returns-else-steps-eq0-clause-reported c =
    let images = c.args.images.now in
    let g : GdbState = gdb_state c.args.self.now images in
    answered_as _ _ _ _ (steps_once g c.steps_back-steps.result c.in_default.not-WatchedBack
    (c.steps_back-steps.ensures images) (omega (arith, c.if-steps-eq0.false)))
    c.step_back_to.ensures.reported
