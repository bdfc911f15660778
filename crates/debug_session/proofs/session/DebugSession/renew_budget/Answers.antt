use Rattle.std.proofs.Common.{ap}
use Rattle.debug_tables.specs.State.{ScriptState}
use Rattle.debug_session.specs.Session.{debug_state}
use Rattle.debug_session.proofs.session.DebugSession.renew_budget.Goals as goal

pub returns-clause-reported : goal.returns-clause-reported
returns-clause-reported c images =
    ap (λ (s : ScriptState). record (debug_state c.args.self.now images) { script = s }) (c.set_budget.ensures images)
