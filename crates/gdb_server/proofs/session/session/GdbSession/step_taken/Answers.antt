use Rattle.std.proofs.Common.{ap, sym, ◌∙◌}
use Rattle.std.specs.Prelude.{Some}
use Rattle.gdb_machine.specs.StepEnds.{last_stop}
use Rattle.gdb_machine.specs.declared.stops.GdbStop.{GdbStop}
use Rattle.gdb_server.specs.session.Runs.{taken_after, unless_stepped}
use Rattle.gdb_server.specs.session.Session.{gdb_state}
use Rattle.gdb_server.specs.session.State.{GdbState}
use Rattle.gdb_server.proofs.SessionLemmas.BackLemmas.{not_stepped}
use Rattle.gdb_server.proofs.session.session.GdbSession.step_taken.Goals as goal

pub returns-in-Stepped : goal.returns-in-Stepped
returns-in-Stepped c images =
    let g : GdbState = gdb_state c.args.self.now images in
    let last = c.last_stop.ensures ∙ ap last_stop (c.last.ensures images) in
    ap (λ (why : GdbStop). Some why) (c.stop_here.ensures images ∙ ap (unless_stepped g) (sym c.in-Stepped.is ∙ last))
    ∙ sym (ap (λ (why : GdbStop). taken_after why g) c.in-Watched.is)

pub returns-in_default-last_stop : goal.returns-in_default-last_stop
returns-in_default-last_stop c images =
    let g : GdbState = gdb_state c.args.self.now images in
    let last = c.last_stop.ensures ∙ ap last_stop (c.last.ensures images) in
    ap (λ (why : GdbStop). Some why) (not_stepped g c.last_stop.result c.in_default-last_stop.not-Stepped ∙ ap (unless_stepped g) last)
    ∙ sym (ap (λ (why : GdbStop). taken_after why g) c.in-Watched.is)
