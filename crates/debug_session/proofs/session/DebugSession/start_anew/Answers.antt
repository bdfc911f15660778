use Rattle.debug_session.specs.Session.{debug_state}
use Rattle.debug_session.proofs.OwnLemmas.{made_anew}
use Rattle.debug_session.proofs.session.DebugSession.start_anew.Goals as goal

pub returns-clause-made : goal.returns-clause-made
returns-clause-made c images =
    made_anew (debug_state c.args.self.now images) _ _ _ _ (c.in_ok-start_anew.ensures.made images) c.begin.ensures
