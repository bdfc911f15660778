use Rattle.std.proofs.Common.{[], ap, subst}
use Rattle.std.specs.Prelude.{IfOk}
use Rattle.gdb_machine.specs.declared.stops.GdbStop.TheVariants as reason
use Rattle.gdb_server.specs.session.Runs.{gdb_stop_shown}
use Rattle.gdb_server.specs.session.Session.{gdb_state, IsGdbAnswered}
use Rattle.gdb_server.specs.session.State.{GdbState, GdbAnswered}
use Rattle.gdb_server.specs.declared.session.session.GdbAnswer.{GdbAnswer}
use Rattle.gdb_server.proofs.session.session.GdbSession.run_program.Goals as goal

pub returns-clause-reported : goal.returns-clause-reported
returns-clause-reported c =
    let g : GdbState = gdb_state c.args.self.now c.args.images.now in
    subst (λ (a : GdbAnswered). IfOk c.stand.result
    (λ (answer : GdbAnswer). IsGdbAnswered (gdb_state c.stand.new.self c.begin_anew.new.images) answer a))
    (ap (λ (s : GdbState). gdb_stop_shown s [] reason.Stepped) c.in_ok-begin_anew.ensures.state)
    (c.stand.ensures.reported c.begin_anew.new.images)
