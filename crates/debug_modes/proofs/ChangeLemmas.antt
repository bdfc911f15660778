-- What a line leaves of the stubs and of the watches, by what the call on their table leaves.
use Rattle.std.proofs.Common.{◌≡◌, ℕ, List, ap, ◌∙◌, rules, Vec, Global}
use Rattle.std.specs.Prelude.{Result, Ok, Err, IfOk, OnErr}
use Rattle.profile.specs.Outcome.{Leaves}
use Rattle.command_shell.specs.Answers.{refused_text}
use Rattle.debug_modes.specs.Changes.{IsModeAnswer, stubs_answer, watches_answer}
use Rattle.debug_modes.specs.declared.modes.DebugModes.{DebugModes}
use Rattle.debug_tables.specs.StubNames.{stub_error_name}
use Rattle.debug_tables.specs.WordWatches.{watch_error_name}
use Rattle.debug_lines.specs.Stub.{Stub}
use Rattle.debug_tables.specs.declared.stubs.StubError.{StubError}
use Rattle.command_shell.specs.declared.watches.WordWatchError.{WordWatchError}

-- whatever a call answers
pub on_err : {T E P : Type 0} (r : Result T E) → P → OnErr r P
on_err (Ok x) p = search rules
on_err (Err e) p = p

abbrev pub with_stubs : DebugModes → List Stub → DebugModes
with_stubs m stubs = record m { steps = record m.steps { stubs = stubs } }

abbrev pub with_watches : DebugModes → List ℕ → DebugModes
with_watches m watches = record m { steps = record m.steps { watches = watches } }

pub stubs_changed : (m : DebugModes) (text : List ℕ) (r : Result (List Stub) StubError) (u : Unit {0}) (new : List Stub)
    (reported : List ℕ) → Leaves {U = Unit {0}} m.steps.stubs r (Ok u) new → reported ≡ text
    → IsModeAnswer (stubs_answer m text r) (with_stubs m new) reported
stubs_changed m text (Ok stubs) u new reported is shows = record { state = ap (with_stubs m) is; answer = shows }
stubs_changed m text (Err e) u new reported is shows = absurd is

pub stubs_stay : (m : DebugModes) (r : Result (List Stub) StubError) (e : StubError) (new : List Stub)
    → Leaves {U = Unit {0}} m.steps.stubs r (Err e) new → with_stubs m new ≡ m
stubs_stay m (Ok stubs) e new is = absurd is
stubs_stay m (Err f) e new is = ap (with_stubs m) is.1

stubs_refused : (m : DebugModes) (text : List ℕ) (r : Result (List Stub) StubError) (e : StubError) (new : List Stub)
    (reported : List ℕ) → Leaves {U = Unit {0}} m.steps.stubs r (Err e) new → reported ≡ refused_text (stub_error_name e)
    → IsModeAnswer (stubs_answer m text r) (with_stubs m new) reported
stubs_refused m text (Ok stubs) e new reported is shows = absurd is
stubs_refused m text (Err f) e new reported is shows = record {
  state = ap (with_stubs m) is.1;
  answer = shows ∙ ap (λ (x : StubError). refused_text (stub_error_name x)) is.0;
}

pub stubs_refused_if : {E : Type 0} (m : DebugModes) (text : List ℕ) (r : Result (List Stub) StubError) (e : StubError)
    (new : List Stub) (result : Result (Vec ℕ Global) E) (name : List ℕ)
    → Leaves {U = Unit {0}} m.steps.stubs r (Err e) new → name ≡ stub_error_name e
    → IfOk result (λ reported. reported.items ≡ refused_text name)
    → IfOk result (λ reported. IsModeAnswer (stubs_answer m text r) (with_stubs m new) reported.items)
stubs_refused_if m text r e new (Ok reported) name is named shows =
    stubs_refused m text r e new reported.items is (shows ∙ ap refused_text named)
stubs_refused_if m text r e new (Err x) name is named shows = shows

pub watches_changed : (m : DebugModes) (text : List ℕ) (r : Result (List ℕ) WordWatchError) (u : Unit {0}) (new : List ℕ)
    (reported : List ℕ) → Leaves {U = Unit {0}} m.steps.watches r (Ok u) new → reported ≡ text
    → IsModeAnswer (watches_answer m text r) (with_watches m new) reported
watches_changed m text (Ok watches) u new reported is shows = record { state = ap (with_watches m) is; answer = shows }
watches_changed m text (Err e) u new reported is shows = absurd is

pub watches_stay : (m : DebugModes) (r : Result (List ℕ) WordWatchError) (e : WordWatchError) (new : List ℕ)
    → Leaves {U = Unit {0}} m.steps.watches r (Err e) new → with_watches m new ≡ m
watches_stay m (Ok watches) e new is = absurd is
watches_stay m (Err f) e new is = ap (with_watches m) is.1

watches_refused : (m : DebugModes) (text : List ℕ) (r : Result (List ℕ) WordWatchError) (e : WordWatchError) (new : List ℕ)
    (reported : List ℕ) → Leaves {U = Unit {0}} m.steps.watches r (Err e) new → reported ≡ refused_text (watch_error_name e)
    → IsModeAnswer (watches_answer m text r) (with_watches m new) reported
watches_refused m text (Ok watches) e new reported is shows = absurd is
watches_refused m text (Err f) e new reported is shows = record {
  state = ap (with_watches m) is.1;
  answer = shows ∙ ap (λ (x : WordWatchError). refused_text (watch_error_name x)) is.0;
}

pub watches_refused_if : {E : Type 0} (m : DebugModes) (text : List ℕ) (r : Result (List ℕ) WordWatchError) (e : WordWatchError)
    (new : List ℕ) (result : Result (Vec ℕ Global) E) (name : List ℕ)
    → Leaves {U = Unit {0}} m.steps.watches r (Err e) new → name ≡ watch_error_name e
    → IfOk result (λ reported. reported.items ≡ refused_text name)
    → IfOk result (λ reported. IsModeAnswer (watches_answer m text r) (with_watches m new) reported.items)
watches_refused_if m text r e new (Ok reported) name is named shows =
    watches_refused m text r e new reported.items is (shows ∙ ap refused_text named)
watches_refused_if m text r e new (Err x) name is named shows = shows
