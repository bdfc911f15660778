-- Answers one after the other.
use Rattle.std.proofs.Common.{◌≡◌, List, Option, Result, Ok, Err, ℕ, sym, refl, subst}
use Rattle.std.specs.Prelude.{OnOk}
use Rattle.std.specs.Io.KnownBytes.{Appends}
use Rattle.profile.proofs.OutputLemmas.{Appends-join}
use Rattle.command_shell.specs.State.{ScriptState, Answered, IsAnswered, answer, then_answered}

-- an answer, and then one that goes on from its state
pub shows_then : {U E : Type 0} (r : Result U E) (a b c : Option (List ℕ)) (now mid : ScriptState) (first : Answered)
    (next : ScriptState → Answered)
    → Appends a b first.text → mid ≡ first.state → OnOk r (IsAnswered b c now (next mid))
    → OnOk r (IsAnswered a c now (then_answered first next))
shows_then (Ok u) a b c now mid first next before at after =
    let reported : IsAnswered b c now (next first.state) =
    subst (λ (w : ScriptState). IsAnswered b c now (next w)) at after in
    record { text = Appends-join a b c first.text (next first.state).text before reported.text; state = reported.state }
shows_then (Err e) a b c now mid first next before at after = tt

-- the same answer, written another way
pub shows_same : {U E : Type 0} (r : Result U E) (b c : Option (List ℕ)) (now : ScriptState) (reported same : Answered)
    → same ≡ reported
    → OnOk r (IsAnswered b c now reported) → OnOk r (IsAnswered b c now same)
shows_same r b c now reported same e h = subst (λ (t : Answered). OnOk r (IsAnswered b c now t)) (sym e) h

-- a text that leaves the state as it is
pub shows_text : {U E : Type 0} (r : Result U E) (b c : Option (List ℕ)) (w : ScriptState) (text : List ℕ)
    → OnOk r (Appends b c text)
    → OnOk r (IsAnswered b c w (answer w text))
shows_text (Ok u) b c w text h = record { text = h; state = refl }
shows_text (Err e) b c w text h = tt
