-- How the value of digits goes on, by the digits so far and those that are left, up to a limit.
use Rattle.std.proofs.Common.{◌≡◌, ℕ, ◌+◌, ◌*◌, ◌≤◌, ◌<◌, Bool, true, false, List, [], ◌∷◌, length, drop, get_or, Option, Some, None, sym, ap, ◌∙◌, arith, refl, length-drop}
use Rattle.std.proofs.Math.Nat.{mul-le-mul_left}
use Rattle.std.proofs.lemmas.Bool.Decides.{nat_tests}
use Rattle.std.specs.Prelude.{nat_lt, min, ◌&&◌, if◌then◌else◌}
use Rattle.std.specs.Char.{is_digit, digit_value}
use Rattle.std.specs.List.{list_all}
use Rattle.std.specs.Str.Parse.{digits_value_after}
use Rattle.assembler.specs.Directives.{spare_size_of, size_with_digit}
use Rattle.assembler_reading.proofs.Digits.{at_place, is_some}

-- digits after those of `size`
unfoldable pub digits_onto : ℕ → ℕ → List ℕ → Option ℕ
digits_onto radix size ds =
    if list_all (λ c. is_digit c radix) ds then Some (min (digits_value_after radix size ds) 1048577) else None

-- one digit more of a number past the limit is past it too
same_step : (radix size digit : ℕ) → 1 ≤ radix → min (min size 1048577 * radix + digit) 1048577 ≡ min (size * radix + digit) 1048577
same_step radix size digit some =
    let here : size * 1 ≤ size * radix = mul-le-mul_left size some in
    let there : 1048577 * 1 ≤ 1048577 * radix = mul-le-mul_left 1048577 some in
    cases (nat_lt size 1048577) refl here there
  where
    cases : (b : Bool) → nat_lt size 1048577 ≡ b → size * 1 ≤ size * radix → 1048577 * 1 ≤ 1048577 * radix
        → min (min size 1048577 * radix + digit) 1048577 ≡ min (size * radix + digit) 1048577
    cases true e here there =
        let low : min size 1048577 ≡ size = grind (arith, nat_tests, e) in rw low refl
    cases false e here there =
        let high : min size 1048577 ≡ 1048577 = grind (arith, nat_tests, e) in
        let past : 1048577 ≤ size = grind (arith, nat_tests, e) in
        rw high (omega arith)

same_size : (radix size other : ℕ) (ds : List ℕ) → 1 ≤ radix → min size 1048577 ≡ min other 1048577
    → min (digits_value_after radix size ds) 1048577 ≡ min (digits_value_after radix other ds) 1048577
same_size radix size other [] some e = e
same_size radix size other (d ∷ ds) some e =
    same_size radix (size * radix + digit_value d) (other * radix + digit_value d) ds some
    (sym (same_step radix size (digit_value d) some)
    ∙ ap (λ (n : ℕ). min (n * radix + digit_value d) 1048577) e
    ∙ same_step radix other (digit_value d) some)

pub no_digits : (radix : ℕ) (digits : List ℕ) → length digits ≡ 0 → spare_size_of radix digits ≡ None
unfolding spare_size_of
no_digits radix [] none = refl
no_digits radix (d ∷ ds) none = absurd (omega (arith, none))

pub first_digits : (radix size : ℕ) (digits : List ℕ) → 0 < length digits → size ≡ 0 → spare_size_of radix digits ≡ digits_onto radix size digits
unfolding spare_size_of digits_onto
first_digits radix size [] some zero = absurd (omega (arith, some))
first_digits radix size (d ∷ ds) some zero = rw (zero, is_some (length (d ∷ ds)) some) refl

last_digit : (radix size : ℕ) (ds : List ℕ) → length ds ≡ 0 → size ≤ 1048577 → digits_onto radix size ds ≡ Some size
unfolding digits_onto
last_digit radix size [] none low = let e : min size 1048577 ≡ size = omega arith in rw e refl
last_digit radix size (d ∷ ds) none low = absurd (omega (arith, none))

min_twice : (n : ℕ) → min (min n 1048577) 1048577 ≡ min n 1048577
min_twice n = omega arith

goes_on_by : (p : Bool) (n next radix : ℕ) (ds : List ℕ) → 1 ≤ radix → (if p then Some (min n 1048577) else None) ≡ Some next
    → (if p && list_all (λ c. is_digit c radix) ds then Some (min (digits_value_after radix n ds) 1048577) else None)
    ≡ (if list_all (λ c. is_digit c radix) ds then Some (min (digits_value_after radix next ds) 1048577) else None)
goes_on_by true n next radix ds some e =
    let is : min n 1048577 ≡ next = cc in
    let same : min n 1048577 ≡ min next 1048577 = sym (min_twice n) ∙ ap (λ (k : ℕ). min k 1048577) is in
    rw (same_size radix n next ds some same) refl
goes_on_by false n next radix ds some e = absurd (cc)

goes_on : (radix size next d : ℕ) (ds : List ℕ) → 1 ≤ radix → size_with_digit radix size d ≡ Some next → digits_onto radix size (d ∷ ds) ≡ digits_onto radix next ds
unfolding size_with_digit digits_onto
goes_on radix size next d ds some e = goes_on_by (is_digit d radix) (size * radix + digit_value d) next radix ds some e

breaks_off_by : (p : Bool) (n radix : ℕ) (ds : List ℕ) (total : ℕ) → (if p then Some n else None) ≡ None
    → (if p && list_all (λ c. is_digit c radix) ds then Some total else None) ≡ None
breaks_off_by true n radix ds total e = absurd (cc)
breaks_off_by false n radix ds total e = refl

breaks_off : (radix size d : ℕ) (ds : List ℕ) → size_with_digit radix size d ≡ None → digits_onto radix size (d ∷ ds) ≡ None
unfolding size_with_digit digits_onto
breaks_off radix size d ds e =
    breaks_off_by (is_digit d radix) (min (size * radix + digit_value d) 1048577) radix ds
    (min (digits_value_after radix (size * radix + digit_value d) ds) 1048577) e

-- the same at a place of all digits
pub goes_on_at : (radix size next i : ℕ) (all : List ℕ) → i < length all → 2 ≤ radix → size_with_digit radix size (get_or all i 0) ≡ Some next
    → digits_onto radix size (drop i all) ≡ digits_onto radix next (drop (i + 1) all)
goes_on_at radix size next i all within some e =
    ap (digits_onto radix size) (at_place i all within) ∙ goes_on radix size next (get_or all i 0) (drop (i + 1) all) (omega arith) e

pub breaks_off_at : (radix size i : ℕ) (all : List ℕ) → i < length all → size_with_digit radix size (get_or all i 0) ≡ None
    → digits_onto radix size (drop i all) ≡ None
breaks_off_at radix size i all within e =
    ap (digits_onto radix size) (at_place i all within) ∙ breaks_off radix size (get_or all i 0) (drop (i + 1) all) e

pub last_at : (radix size i : ℕ) (all : List ℕ) → length all ≤ i → size ≤ 1048577 → digits_onto radix size (drop i all) ≡ Some size
last_at radix size i all past low = last_digit radix size (drop i all) (omega (arith, length-drop i all, past)) low

pub ruleset size_steps = (no_digits, first_digits, goes_on_at, breaks_off_at, last_at)
