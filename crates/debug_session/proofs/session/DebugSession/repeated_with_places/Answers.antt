use Rattle.std.proofs.Common.{◌≡◌, ℕ, List, Option, Some, subst, sym, ◌∙◌}
use Rattle.std.specs.Prelude.{IfOk, option_map}
use Rattle.debug_lines.specs.Repeats.{count_and_line}
use Rattle.debug_session.specs.Naming.{naming_of}
use Rattle.debug_session.specs.Session.{debug_state}
use Rattle.debug_session.proofs.NamingLemmas.{with_places}
use Rattle.debug_session.proofs.session.DebugSession.repeated_with_places.Goals as goal

pub returns-clause-reported : goal.returns-clause-reported
returns-clause-reported c images =
    subst (λ (o : Option (ℕ × List ℕ)). IfOk c.if_repeatable.result (λ found. option_map count_and_line found ≡ o))
    (with_places (naming_of (debug_state c.args.self.now images)) c.args.words.now (Some (count_and_line c.in-Some.repeated))
    (sym c.is_known_line.ensures ∙ c.if-is_known_line.false) c.in-Some.ensures)
    (c.if_repeatable.ensures.reported images)
