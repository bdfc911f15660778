-- What is shown of the steps stands behind what was shown.
use Rattle.std.proofs.Common.{◌≡◌, ◌++◌, ◌∙◌, ℕ, List, Result, Ok, Err, ap}
use Rattle.std.specs.Prelude.{OnOk, if◌then◌else◌}
use Rattle.std.specs.Result.{is_ok}
use Rattle.debug_modules.proofs.EnteringLemmas.{anyhow}
use Rattle.debug_session.proofs.session.DebugSession.push_steps.Goals as goal

pushed : {A E : Type 0} (r : Result A E) (old new more text : List ℕ) → new ≡ (if is_ok r then old ++ more else old) → more ≡ text
    → OnOk r (new ≡ old ++ text)
pushed (Ok a) old new more text is same = is ∙ ap (λ (xs : List ℕ). old ++ xs) same
pushed (Err e) old new more text is same = record {}

pub returns-clause-state : goal.returns-clause-state
returns-clause-state c =
    anyhow c.extend_from_slice.result _ c.in_ok-shown.ensures.reported.state

pub returns-clause-text : goal.returns-clause-text
returns-clause-text c =
    pushed c.extend_from_slice.result c.args.text.now.items c.extend_from_slice.new.self.items c.as_slice.result.now _
    c.extend_from_slice.ensures.items (c.as_slice.ensures.value ∙ c.in_ok-shown.ensures.reported.reported)
