-- A service call, turn by turn.
use Rattle.std.proofs.Common.{◌≡◌, ℕ, zero, suc, ◌+◌, ◌%◌, ◌/◌, ◌<◌, ◌≤◌, Bool, true, false, List, [], ◌∷◌, Option, Some, None, refl, sym, subst, ap, ◌∙◌, arith, inl, inr}
use Rattle.std.proofs.lemmas.Bool.Decides.{nat_tests}
use Rattle.std.specs.Prelude.{◌==◌, if◌then◌else◌}
use Rattle.debug_modules.specs.Services.{ServiceState, served_at, served_by, served_from, served_if, service_begun}
use Rattle.debug_modules.specs.declared.services.ServiceCode.{ServiceCode}
use Rattle.debug_runs.specs.Labels.{ImageLabels}
use Rattle.debug_modules.proofs.ServiceLemmas.{none_served, served_suc}
use Rattle.debug_modules.specs.Laws.{AreServiceTurns, IsNextTurn, NoneBetween, ServiceCallsInTurn, Turn, behind_turns, service_code_at}

-- a place passed over, or with its turn
at_over : (labels : List ImageLabels) (number : ℕ) (title : List ℕ) (place : ℕ) (v : ServiceState) → v.is_over ≡ true
    → served_at labels number title place v ≡ v
at_over labels number title place v over =
    ap (λ (b : Bool). if b then v else served_if labels number v (service_code_at v title place)) over

at_code : (labels : List ImageLabels) (number : ℕ) (title : List ℕ) (place : ℕ) (v : ServiceState) (o : Option ServiceCode)
    → v.is_over ≡ false → service_code_at v title place ≡ o → served_at labels number title place v ≡ served_if labels number v o
at_code labels number title place v o unclaimed is =
    ap (λ (b : Bool). if b then v else served_if labels number v (service_code_at v title place)) unclaimed
    ∙ ap (served_if labels number v) is

over_stays : (more : ℕ) (labels : List ImageLabels) (number : ℕ) (title : List ℕ) (place : ℕ) (v : ServiceState) → v.is_over ≡ true
    → served_from more labels number title place v ≡ v
over_stays zero labels number title place v over = none_served labels number title place v
over_stays (suc more) labels number title place v over =
    served_suc more labels number title place v
    ∙ ap (λ (u : ServiceState). served_from more labels number title (place + 1) u) (at_over labels number title place v over)
    ∙ over_stays more labels number title (place + 1) v over

same_place : (a b : ℕ) → (a == b) ≡ true → a ≡ b
same_place a b is = grind (arith, nat_tests, is)

later_place : (a b : ℕ) → (a == b) ≡ false → a ≤ b → a + 1 ≤ b
later_place a b is before = grind (arith, nat_tests, is, before)

-- one place more without code
none_at : (v : ServiceState) (title : List ℕ) (from end place : ℕ) (is : Bool) → (from == place) ≡ is → service_code_at v title from ≡ None
    → NoneBetween v title (from + 1) end → from ≤ place → place < end → service_code_at v title place ≡ None
none_at v title from end place true is none others after before =
    subst (λ (n : ℕ). service_code_at v title n ≡ None) (same_place from place is) none
none_at v title from end place false is none others after before = others place (later_place from place is after) before

none_more : (v : ServiceState) (title : List ℕ) (from end : ℕ) → service_code_at v title from ≡ None
    → NoneBetween v title (from + 1) end → NoneBetween v title from end
none_more v title from end none others =
    λ place after before. none_at v title from end place (from == place) refl none others after before

turns_earlier : (labels : List ImageLabels) (number : ℕ) (title : List ℕ) (from : ℕ) (v : ServiceState) (ts : List Turn)
    → service_code_at v title from ≡ None → AreServiceTurns labels number title (from + 1) v ts → AreServiceTurns labels number title from v ts
turns_earlier labels number title from v [] none are = elim are [
  | inl over ↦ inl over
  | inr others ↦ inr (none_more v title from 4096 none others)
]
turns_earlier labels number title from v (t ∷ ts) none are =
    let next = are.0 in (
      record {
        before = next.before;
        unclaimed = next.unclaimed;
        further = (let further = next.further in omega (arith, further));
        within = next.within;
        none_between = none_more v title from t.place none next.none_between;
        stands = next.stands;
        after = next.after;
      },
      are.1,
    )

-- the turns from a place on
abbrev TurnsFrom : List ImageLabels → ℕ → List ℕ → ℕ → ℕ → ServiceState → Type 0
TurnsFrom labels number title more place v = (ts : List Turn) × (AreServiceTurns labels number title place v ts
    × (served_from more labels number title place v ≡ behind_turns v ts))

turns_by : (labels : List ImageLabels) (number : ℕ) (title : List ℕ) (more place : ℕ) (v : ServiceState) (over : Bool) (o : Option ServiceCode)
    → ((u : ServiceState) → TurnsFrom labels number title more (place + 1) u) → place < 4096 → v.is_over ≡ over
    → service_code_at v title place ≡ o → TurnsFrom labels number title (suc more) place v
turns_by labels number title more place v true o others within over is =
    ([], (inl over, over_stays (suc more) labels number title place v over))
turns_by labels number title more place v false (Some c) others within unclaimed is =
    let now = served_by labels number c v in
    let rest = others now in
    let t : Turn = record { place = place; code = c; before = v; after = now } in
    let next : IsNextTurn labels number title place v t = record {
      before = refl;
      unclaimed = unclaimed;
      further = omega arith;
      within = within;
      none_between = λ k after before. absurd (omega (arith, after, before));
      stands = is;
      after = refl;
    } in (
      t ∷ rest.0,
      (
        (next, rest.1.0),
        served_suc more labels number title place v
            ∙ ap (λ (u : ServiceState). served_from more labels number title (place + 1) u)
            (at_code labels number title place v (Some c) unclaimed is) ∙ rest.1.1,
      ),
    )
turns_by labels number title more place v false None others within unclaimed is =
    let rest = others v in (
      rest.0,
      (
        turns_earlier labels number title place v rest.0 is rest.1.0,
        served_suc more labels number title place v
            ∙ ap (λ (u : ServiceState). served_from more labels number title (place + 1) u)
            (at_code labels number title place v None unclaimed is) ∙ rest.1.1,
      ),
    )

turns_from : (labels : List ImageLabels) (number : ℕ) (title : List ℕ) (more place : ℕ) (v : ServiceState) → place + more ≡ 4096
    → TurnsFrom labels number title more place v
turns_from labels number title zero place v ends =
    ([], (inr (λ k after before. absurd (omega (arith, ends, after, before))), none_served labels number title place v))
turns_from labels number title (suc more) place v ends =
    let within : place < 4096 = omega (arith, ends) in
    let on : place + 1 + more ≡ 4096 = omega (arith, ends) in
    turns_by labels number title more place v v.is_over (service_code_at v title place)
    (λ u. turns_from labels number title more (place + 1) u on) within refl refl

pub service_calls_in_turn : ServiceCallsInTurn
service_calls_in_turn m labels budget s p number service title =
    let begun = service_begun m budget s p service in
    let all = turns_from labels number title 4096 0 begun (omega arith) in
    (all.0, (all.1.0, ap (λ (v : ServiceState). v.taken) all.1.1))
