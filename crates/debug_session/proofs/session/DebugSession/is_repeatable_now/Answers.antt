use Rattle.std.proofs.Common.{◌∙◌, sym}
use Rattle.debug_session.specs.Naming.{naming_of}
use Rattle.debug_session.specs.Session.{debug_state}
use Rattle.debug_session.proofs.NamingLemmas.{repeats_numbered}
use Rattle.debug_session.proofs.session.DebugSession.is_repeatable_now.Goals as goal

pub returns-clause-reported : goal.returns-clause-reported
returns-clause-reported c images = c.is_repeatable_line-2.ensures
    ∙ repeats_numbered (naming_of (debug_state c.args.self.now images)) c.args.line.now c.as_slice.result.now
    (sym c.is_known_line.ensures ∙ c.if-is_known_line.false)
    (c.as_slice.ensures.value ∙ c.in_ok-numbered.ensures images)
