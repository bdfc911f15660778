-- How the value of digits goes on, by the digits so far and those that are left.
use Rattle.std.proofs.Common.{◌≡◌, ℕ, ◌+◌, ◌*◌, ◌%◌, ◌≤◌, ◌<◌, ◌^◌, Bool, true, false, List, [], ◌∷◌, length, drop, get_or, Option, Some, None, sym, ap, ◌∙◌, arith, refl, drop-cons, add-one, length-drop}
use Rattle.std.proofs.lemmas.Bool.Decides.{nat_tests}
use Rattle.std.proofs.lemmas.Nat.{mul-mod_first}
use Rattle.std.specs.Prelude.{nat_lt, if◌then◌else◌}
use Rattle.std.specs.Char.{is_digit, digit_value}
use Rattle.std.specs.List.{list_all}
use Rattle.std.specs.Str.Parse.{digits_value_after}
use Rattle.assembler_text.specs.naming.Expressions.{numeral, value_with_digit}

-- digits after those of `value`
unfoldable pub digits_onto : ℕ → ℕ → List ℕ → Option ℕ
digits_onto radix value ds =
    if list_all (λ c. is_digit c radix) ds then Some (digits_value_after radix value ds % 2 ^ 32) else None

same_sum : (x y d : ℕ) → x % 2 ^ 32 ≡ y % 2 ^ 32 → (x + d) % 2 ^ 32 ≡ (y + d) % 2 ^ 32
same_sum x y d e = omega arith

same_product : (a b r : ℕ) → a % 2 ^ 32 ≡ b % 2 ^ 32 → (a * r) % 2 ^ 32 ≡ (b * r) % 2 ^ 32
same_product a b r e = sym (mul-mod_first a r (2 ^ 32)) ∙ ap (λ (m : ℕ). (m * r) % 2 ^ 32) e ∙ mul-mod_first b r (2 ^ 32)

-- numbers that are the same modulo 2^32 stay so after further digits
pub same_value : (radix a b : ℕ) (ds : List ℕ) → a % 2 ^ 32 ≡ b % 2 ^ 32
    → digits_value_after radix a ds % 2 ^ 32 ≡ digits_value_after radix b ds % 2 ^ 32
same_value radix a b [] e = e
same_value radix a b (d ∷ ds) e =
    same_value radix (a * radix + digit_value d) (b * radix + digit_value d) ds
    (same_sum (a * radix) (b * radix) (digit_value d) (same_product a b radix e))

pub no_digits : (radix : ℕ) (digits : List ℕ) → length digits ≡ 0 → numeral radix digits ≡ None
unfolding numeral
no_digits radix [] none = refl
no_digits radix (d ∷ ds) none = absurd (omega (arith, none))

pub is_some : (n : ℕ) → 0 < n → nat_lt 0 n ≡ true
is_some n some = grind (arith, nat_tests, some)

pub first_digits : (radix value : ℕ) (digits : List ℕ) → 0 < length digits → value ≡ 0 → numeral radix digits ≡ digits_onto radix value digits
unfolding numeral digits_onto
first_digits radix value [] some zero = absurd (omega (arith, some))
first_digits radix value (d ∷ ds) some zero = rw (zero, is_some (length (d ∷ ds)) some) refl

pub last_digit : (radix value : ℕ) (ds : List ℕ) → length ds ≡ 0 → value < 2 ^ 32 → digits_onto radix value ds ≡ Some value
unfolding digits_onto
last_digit radix value [] none low = let same : value % 2 ^ 32 ≡ value = omega arith in rw same refl
last_digit radix value (d ∷ ds) none low = absurd (omega (arith, none))

by_test : (p : Bool) (n next : ℕ) → (if p then Some n else None) ≡ Some next → (p ≡ true) × (n ≡ next)
by_test true n next e = (refl, cc)
by_test false n next e = absurd (cc)

by_no_test : (p : Bool) (n : ℕ) → (if p then Some n else None) ≡ None → p ≡ false
by_no_test true n e = absurd (cc)
by_no_test false n e = refl

modulo_twice : (a b : ℕ) → a % 2 ^ 32 ≡ b → b % 2 ^ 32 ≡ a % 2 ^ 32
modulo_twice a b e = omega arith

pub goes_on : (radix value next d : ℕ) (ds : List ℕ) → value_with_digit radix value d ≡ Some next → digits_onto radix value (d ∷ ds) ≡ digits_onto radix next ds
unfolding value_with_digit digits_onto
goes_on radix value next d ds e =
    let test : (is_digit d radix ≡ true) × ((value * radix + digit_value d) % 2 ^ 32 ≡ next) =
    by_test (is_digit d radix) ((value * radix + digit_value d) % 2 ^ 32) next e in
    let same : digits_value_after radix (value * radix + digit_value d) ds % 2 ^ 32 ≡ digits_value_after radix next ds % 2 ^ 32 =
    same_value radix (value * radix + digit_value d) next ds (sym (modulo_twice (value * radix + digit_value d) next test.1)) in
    rw (test.0, same) refl

pub breaks_off : (radix value d : ℕ) (ds : List ℕ) → value_with_digit radix value d ≡ None → digits_onto radix value (d ∷ ds) ≡ None
unfolding value_with_digit digits_onto
breaks_off radix value d ds e = rw (by_no_test (is_digit d radix) ((value * radix + digit_value d) % 2 ^ 32) e) refl

-- the same at a place of all digits
pub at_place : (i : ℕ) (all : List ℕ) → i < length all → drop i all ≡ get_or all i 0 ∷ drop (i + 1) all
at_place i all within = drop-cons all i 0 within ∙ ap (λ (k : ℕ). get_or all i 0 ∷ drop k all) (sym (add-one i))

pub goes_on_at : (radix value next i : ℕ) (all : List ℕ) → i < length all → value_with_digit radix value (get_or all i 0) ≡ Some next
    → digits_onto radix value (drop i all) ≡ digits_onto radix next (drop (i + 1) all)
goes_on_at radix value next i all within e =
    ap (digits_onto radix value) (at_place i all within) ∙ goes_on radix value next (get_or all i 0) (drop (i + 1) all) e

pub breaks_off_at : (radix value i : ℕ) (all : List ℕ) → i < length all → value_with_digit radix value (get_or all i 0) ≡ None
    → digits_onto radix value (drop i all) ≡ None
breaks_off_at radix value i all within e =
    ap (digits_onto radix value) (at_place i all within) ∙ breaks_off radix value (get_or all i 0) (drop (i + 1) all) e

pub last_at : (radix value i : ℕ) (all : List ℕ) → length all ≤ i → value < 2 ^ 32 → digits_onto radix value (drop i all) ≡ Some value
last_at radix value i all past low = last_digit radix value (drop i all) (omega (arith, length-drop i all, past)) low

pub ruleset numeral_steps = (no_digits, first_digits, goes_on_at, breaks_off_at, last_at)
