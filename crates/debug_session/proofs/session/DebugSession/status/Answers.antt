use Rattle.debug_session.specs.Session.{debug_state}
use Rattle.debug_session.proofs.OwnLemmas.{untested_status}
use Rattle.debug_session.proofs.session.DebugSession.status.Goals as goal

pub returns-then-is_untested : goal.returns-then-is_untested
returns-then-is_untested c images =
    untested_status (debug_state c.args.self.now images) c.is_untested.result c.last.result c.stop_status.result
    c.is_untested.ensures c.if-is_untested.true (c.last.ensures images) c.stop_status.ensures
