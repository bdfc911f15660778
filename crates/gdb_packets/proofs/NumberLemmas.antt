-- How the value of digits goes on.
use Rattle.std.proofs.Common.{◌≡◌, ℕ, ◌+◌, ◌≤◌, ◌<◌, List, [], ◌∷◌, length, drop, get_or, Option, Some, None, ap, ◌∙◌, arith, refl, sym, drop-cons, add-one, length-drop}
use Rattle.std.specs.Prelude.{option_and_then}
use Rattle.gdb_packets.specs.Digits.{digit_value}
use Rattle.gdb_packets.specs.Numbers.{number_onto, packet_number, with_digit}

pub no_digits : (text : List ℕ) → length text ≡ 0 → packet_number text ≡ None
no_digits [] none = refl
no_digits (digit ∷ digits) none = absurd (omega (arith, none))

pub some_digits : (text : List ℕ) → 0 < length text → packet_number text ≡ number_onto 0 text
some_digits [] some = absurd (omega (arith, some))
some_digits (digit ∷ digits) some = refl

pub onto : (value digit : ℕ) (digits : List ℕ)
    → number_onto value (digit ∷ digits) ≡ option_and_then (λ next. number_onto next digits) (with_digit value (digit_value digit))
unfolding number_onto
onto value digit digits = refl

at_place : (i : ℕ) (all : List ℕ) → i < length all → drop i all ≡ get_or all i 0 ∷ drop (i + 1) all
at_place i all within = drop-cons all i 0 within ∙ ap (λ (k : ℕ). get_or all i 0 ∷ drop k all) (sym (add-one i))

onto_place : (value i : ℕ) (all : List ℕ) → i < length all
    → number_onto value (drop i all)
    ≡ option_and_then (λ next. number_onto next (drop (i + 1) all)) (with_digit value (digit_value (get_or all i 0)))
onto_place value i all within =
    ap (number_onto value) (at_place i all within) ∙ onto value (get_or all i 0) (drop (i + 1) all)

-- a digit more
pub goes_on : (value next i : ℕ) (all : List ℕ) → i < length all
    → with_digit value (digit_value (get_or all i 0)) ≡ Some next
    → number_onto value (drop i all) ≡ number_onto next (drop (i + 1) all)
goes_on value next i all within e =
    onto_place value i all within
    ∙ ap (λ (o : Option ℕ). option_and_then (λ n. number_onto n (drop (i + 1) all)) o) e

-- no digit, or too large a number
pub breaks_off : (value i : ℕ) (all : List ℕ) → i < length all
    → with_digit value (digit_value (get_or all i 0)) ≡ None → number_onto value (drop i all) ≡ None
breaks_off value i all within e =
    onto_place value i all within
    ∙ ap (λ (o : Option ℕ). option_and_then (λ n. number_onto n (drop (i + 1) all)) o) e

none_left : (value : ℕ) (digits : List ℕ) → length digits ≡ 0 → number_onto value digits ≡ Some value
unfolding number_onto
none_left value [] none = refl
none_left value (digit ∷ digits) none = absurd (omega (arith, none))

pub last_digit : (value i : ℕ) (all : List ℕ) → length all ≤ i → number_onto value (drop i all) ≡ Some value
last_digit value i all past = none_left value (drop i all) (omega (arith, length-drop i all, past))

pub ruleset number_steps = (no_digits, some_digits, goes_on, breaks_off, last_digit)
