use Rattle.debug_lines.specs.Repeats.{count_and_line}
use Rattle.debug_session.specs.Naming.{naming_of}
use Rattle.debug_session.specs.Session.{debug_state}
use Rattle.debug_session.proofs.NamingLemmas.{not_repeated, repeated_if_may}
use Rattle.debug_session.proofs.session.DebugSession.if_repeatable.Goals as goal

pub returns-then-branch-clause-reported : goal.returns-then-branch-clause-reported
returns-then-branch-clause-reported c images =
    repeated_if_may (naming_of (debug_state c.args.self.now images)) (count_and_line c.args.repeated)
    c.in_ok-is_repeatable_now.field-0 (c.in_ok-is_repeatable_now.ensures.reported images) c.if-branch.true

pub returns-else-branch-clause-reported : goal.returns-else-branch-clause-reported
returns-else-branch-clause-reported c images =
    not_repeated (naming_of (debug_state c.args.self.now images)) (count_and_line c.args.repeated)
    c.in_ok-is_repeatable_now.field-0 (c.in_ok-is_repeatable_now.ensures.reported images) c.if-branch.false
