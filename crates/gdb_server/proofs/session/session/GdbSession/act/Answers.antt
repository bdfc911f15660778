use Rattle.gdb_server.specs.session.Session.{gdb_state}
use Rattle.gdb_server.proofs.SessionLemmas.ChangeLemmas.{other_act}
use Rattle.gdb_server.proofs.SessionLemmas.RunLemmas.{answered_as}
use Rattle.gdb_server.proofs.session.session.GdbSession.act.Goals as goal

pub returns-in_default-clause-reported : goal.returns-in_default-clause-reported
returns-in_default-clause-reported c =
    let images = c.args.images.now in
    answered_as _ _ _ _ (other_act (gdb_state c.args.self.now images) c.args.request.now
    c.in_default.not-Continue c.in_default.not-ContinueWith c.in_default.not-Step c.in_default.not-StepWith c.in_default.not-StepRange
    c.in_default.not-HostAnswer c.in_default.not-Line c.in_default.not-RunProgram c.in_default.not-Restart
    c.in_default.not-StepBack c.in_default.not-ContinueBack)
    (c.change.ensures.reported images)
