use Rattle.std.proofs.Common.{◌≡◌, ℕ, List, Option, subst}
use Rattle.std.specs.Prelude.{IfOk, option_map}
use Rattle.std.specs.Option.{option_or}
use Rattle.debug_lines.specs.Repeats.{count_and_line}
use Rattle.debug_session.specs.Naming.{naming_of, repeated_with_places}
use Rattle.debug_session.specs.Session.{debug_state}
use Rattle.debug_session.proofs.session.DebugSession.repeated_now.Goals as goal

pub returns-in-None-clause-reported : goal.returns-in-None-clause-reported
returns-in-None-clause-reported c images =
    let n = naming_of (debug_state c.args.self.now images) in
    subst (λ (o : Option (ℕ × List ℕ)). IfOk c.repeated_with_places.result (λ repeated. option_map count_and_line repeated
    ≡ option_or o (repeated_with_places n c.args.words.now))) c.in-None.ensures.reported (c.repeated_with_places.ensures.reported images)
