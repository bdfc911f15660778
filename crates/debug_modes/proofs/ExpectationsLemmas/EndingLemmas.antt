-- Where the end of steps begins in an answer, found from the answer's end on.
use Rattle.std.proofs.Common.{◌≡◌, ℕ, zero, suc, ◌+◌, ◌-◌, ◌<◌, ◌≤◌, true, false, Bool, List, [], ◌∷◌, length, take, drop, Option, Some, None, ap, refl, arith, ◌∙◌, sym}
use Rattle.std.specs.Prelude.{unwrap_or}
use Rattle.std.proofs.lemmas.List.{drop_all, length-drop, length-take-le, take_all}
use Rattle.debug_modes.specs.expectations.Endings.{begins_ending, ending_of, output_before_ending, output_of, output_with}

-- at a place where one begins, and none begins after it
ending_at : (answer : List ℕ) (p : ℕ) → p < length answer → begins_ending (drop p answer) ≡ true
    → output_before_ending (drop (suc p) answer) ≡ None → output_before_ending answer ≡ Some (take p answer)
unfolding output_before_ending
ending_at [] p inside begins none = absurd (omega (arith, inside))
ending_at (b ∷ rest) zero inside begins none = rw (begins, none) refl
ending_at (b ∷ rest) (suc p) inside begins none =
    ap (output_with b (begins_ending (b ∷ rest))) (ending_at rest p (omega (arith, inside)) begins none)

pub output_until : (answer : List ℕ) (p : ℕ) → p < length answer → begins_ending (drop p answer) ≡ true
    → output_before_ending (drop (suc p) answer) ≡ None → output_of answer ≡ take p answer
output_until answer p inside begins none =
    ap (λ (o : Option (List ℕ)). unwrap_or o answer) (ending_at answer p inside begins none)

-- where none begins, nor after it
pub none_from : (answer : List ℕ) (p : ℕ) → p < length answer → begins_ending (drop p answer) ≡ false
    → output_before_ending (drop (suc p) answer) ≡ None → output_before_ending (drop p answer) ≡ None
unfolding output_before_ending
none_from [] p inside begins none = absurd (omega (arith, inside))
none_from (b ∷ rest) zero inside begins none = rw (begins, none) refl
none_from (b ∷ rest) (suc p) inside begins none = none_from rest p (omega (arith, inside)) begins none

pub none_at_end : (answer : List ℕ) (p : ℕ) → length answer ≤ p → output_before_ending (drop p answer) ≡ None
unfolding output_before_ending
none_at_end answer p all = ap output_before_ending (drop_all p answer all)

pub whole_output : (answer : List ℕ) (p : ℕ) → p ≡ 0 → output_before_ending (drop p answer) ≡ None → output_of answer ≡ answer
whole_output answer p first none =
    let whole : output_before_ending answer ≡ None = ap (λ (n : ℕ). output_before_ending (drop n answer)) (sym first) ∙ none in
    ap (λ (o : Option (List ℕ)). unwrap_or o answer) whole

-- the same by a place and the one after it
pub until_step : (answer : List ℕ) (p q : ℕ) → q ≡ p + 1 → q ≤ length answer → begins_ending (drop p answer) ≡ true
    → output_before_ending (drop q answer) ≡ None → output_of answer ≡ take p answer
until_step answer p q next inside begins none =
    let after : q ≡ suc p = omega (arith, next) in
    output_until answer p (omega (arith, next, inside)) begins
    (ap (λ (n : ℕ). output_before_ending (drop n answer)) (sym after) ∙ none)

pub none_step : (answer : List ℕ) (p q : ℕ) → q ≡ p + 1 → q ≤ length answer → begins_ending (drop p answer) ≡ false
    → output_before_ending (drop q answer) ≡ None → output_before_ending (drop p answer) ≡ None
none_step answer p q next inside begins none =
    let after : q ≡ suc p = omega (arith, next) in
    none_from answer p (omega (arith, next, inside)) begins
    (ap (λ (n : ℕ). output_before_ending (drop n answer)) (sym after) ∙ none)

-- a slice up to the end
begins_there : (answer : List ℕ) (p : ℕ) (begins : Bool)
    → begins ≡ begins_ending (take (length answer - p) (drop p answer)) → begins_ending (drop p answer) ≡ begins
begins_there answer p begins is = sym (ap begins_ending (take_all (length answer - p) (drop p answer) (omega (arith, length-drop p answer)))) ∙ sym is

pub found_before : (answer : List ℕ) (place : ℕ) (begins : Bool) → 0 < place → place ≤ length answer
    → begins ≡ begins_ending (take (length answer - (place - 1)) (drop (place - 1) answer)) → begins ≡ true
    → output_before_ending (drop place answer) ≡ None → take (place - 1) answer ≡ output_of answer
found_before answer place begins some inside is true' none =
    sym (until_step answer (place - 1) place (omega (arith, some)) inside (begins_there answer (place - 1) begins is ∙ true') none)

pub none_before : (answer : List ℕ) (place : ℕ) (begins : Bool) → 0 < place → place ≤ length answer
    → begins ≡ begins_ending (take (length answer - (place - 1)) (drop (place - 1) answer)) → begins ≡ false
    → output_before_ending (drop place answer) ≡ None → output_before_ending (drop (place - 1) answer) ≡ None
none_before answer place begins some inside is false' none =
    none_step answer (place - 1) place (omega (arith, some)) inside (begins_there answer (place - 1) begins is ∙ false') none

-- what follows on the output
pub ending_behind : (answer : List ℕ) (place : ℕ) → place ≤ length answer → take place answer ≡ output_of answer
    → drop place answer ≡ ending_of answer
ending_behind answer place inside is =
    ap (λ (n : ℕ). drop n answer) (sym (length-take-le place answer inside) ∙ ap length is)
