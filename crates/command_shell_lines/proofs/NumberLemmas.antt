-- How the value of digits goes on, by the digits so far and those that are left.
use Rattle.std.proofs.Common.{◌≡◌, ℕ, ◌+◌, ◌*◌, ◌≤◌, ◌<◌, ◌^◌, Bool, true, false, List, [], ◌∷◌, length, drop, get_or, Option, Some, None, sym, ap, ◌∙◌, arith, refl, drop-cons, add-one, length-drop}
use Rattle.std.proofs.Math.Nat.{mul-le-mul_left}
use Rattle.std.proofs.lemmas.Bool.Decides.{nat_tests}
use Rattle.std.specs.Prelude.{nat_lt, ◌&&◌, if◌then◌else◌}
use Rattle.std.specs.Char.{is_digit, digit_value}
use Rattle.std.specs.List.{list_all}
use Rattle.std.specs.Str.Parse.{digits_value_after}
use Rattle.command_shell_lines.specs.Numbers.{digits_number, script_number_with_digit}

-- digits after those of `value`
unfoldable pub digits_onto : ℕ → ℕ → List ℕ → Option ℕ
digits_onto radix value ds =
    if list_all (λ c. is_digit c radix) ds && nat_lt (digits_value_after radix value ds) (2 ^ 32)
    then Some (digits_value_after radix value ds) else None

grows : (radix value : ℕ) (ds : List ℕ) → 2 ≤ radix → value ≤ digits_value_after radix value ds
grows radix value [] some = omega arith
grows radix value (d ∷ ds) some =
    let more : value * 2 ≤ value * radix = mul-le-mul_left value some in
    omega (arith, more, grows radix (value * radix + digit_value d) ds some)

pub no_digits : (radix : ℕ) (digits : List ℕ) → length digits ≡ 0 → digits_number radix digits ≡ None
unfolding digits_number
no_digits radix [] none = refl
no_digits radix (d ∷ ds) none = absurd (omega (arith, none))

is_some : (n : ℕ) → 0 < n → nat_lt 0 n ≡ true
is_some n some = grind (arith, nat_tests, some)

pub first_digits : (radix value : ℕ) (digits : List ℕ) → 0 < length digits → value ≡ 0
    → digits_number radix digits ≡ digits_onto radix value digits
unfolding digits_number digits_onto
first_digits radix value [] some zero = absurd (omega (arith, some))
first_digits radix value (d ∷ ds) some zero = rw (zero, is_some (length (d ∷ ds)) some) refl

pub last_digit : (radix value : ℕ) (ds : List ℕ) → length ds ≡ 0 → value < 2 ^ 32
    → digits_onto radix value ds ≡ Some value
unfolding digits_onto
last_digit radix value [] none low = grind (arith, nat_tests, low)
last_digit radix value (d ∷ ds) none low = absurd (omega (arith, none))

by_tests : (p q : Bool) (n next : ℕ) → (if p && q then Some n else None) ≡ Some next → (p ≡ true) × (n ≡ next)
by_tests true true n next e = (refl, cc)
by_tests true false n next e = absurd (cc)
by_tests false q n next e = absurd (cc)

pub goes_on : (radix value next d : ℕ) (ds : List ℕ) → script_number_with_digit radix value d ≡ Some next
    → digits_onto radix value (d ∷ ds) ≡ digits_onto radix next ds
unfolding digits_onto
goes_on radix value next d ds e =
    let n = value * radix + digit_value d in
    let tests : (is_digit d radix ≡ true) × (n ≡ next) = by_tests (is_digit d radix) (nat_lt n (2 ^ 32)) n next e in
    rw (tests.0, tests.1) refl

none_by : (p q all low : Bool) (n total : ℕ) → (q ≡ false → low ≡ false) → (if p && q then Some n else None) ≡ None
    → (if (p && all) && low then Some total else None) ≡ None
none_by false q all low n total high e = refl
none_by true true all low n total high e = absurd (cc)
none_by true false true low n total high e = rw (high refl) refl
none_by true false false low n total high e = refl

stays_high : (n total : ℕ) → n ≤ total → nat_lt n (2 ^ 32) ≡ false → nat_lt total (2 ^ 32) ≡ false
stays_high n total more high = grind (arith, nat_tests, more, high)

pub breaks_off : (radix value d : ℕ) (ds : List ℕ) → 2 ≤ radix → script_number_with_digit radix value d ≡ None
    → digits_onto radix value (d ∷ ds) ≡ None
unfolding digits_onto
breaks_off radix value d ds some e =
    none_by (is_digit d radix) (nat_lt (value * radix + digit_value d) (2 ^ 32)) (list_all (λ c. is_digit c radix) ds)
    (nat_lt (digits_value_after radix (value * radix + digit_value d) ds) (2 ^ 32))
    (value * radix + digit_value d) (digits_value_after radix (value * radix + digit_value d) ds)
    (stays_high (value * radix + digit_value d) (digits_value_after radix (value * radix + digit_value d) ds)
    (grows radix (value * radix + digit_value d) ds some)) e

-- the same at a place of all digits
at_place : (i : ℕ) (all : List ℕ) → i < length all → drop i all ≡ get_or all i 0 ∷ drop (i + 1) all
at_place i all within = drop-cons all i 0 within ∙ ap (λ (k : ℕ). get_or all i 0 ∷ drop k all) (sym (add-one i))

pub goes_on_at : (radix value next i : ℕ) (all : List ℕ) → i < length all
    → script_number_with_digit radix value (get_or all i 0) ≡ Some next
    → digits_onto radix value (drop i all) ≡ digits_onto radix next (drop (i + 1) all)
goes_on_at radix value next i all within e =
    ap (digits_onto radix value) (at_place i all within)
    ∙ goes_on radix value next (get_or all i 0) (drop (i + 1) all) e

pub breaks_off_at : (radix value i : ℕ) (all : List ℕ) → i < length all → 2 ≤ radix
    → script_number_with_digit radix value (get_or all i 0) ≡ None
    → digits_onto radix value (drop i all) ≡ None
breaks_off_at radix value i all within some e =
    ap (digits_onto radix value) (at_place i all within)
    ∙ breaks_off radix value (get_or all i 0) (drop (i + 1) all) some e

pub last_at : (radix value i : ℕ) (all : List ℕ) → length all ≤ i → value < 2 ^ 32
    → digits_onto radix value (drop i all) ≡ Some value
last_at radix value i all past low = last_digit radix value (drop i all) (omega (arith, length-drop i all, past)) low

pub ruleset number_steps = (no_digits, first_digits, goes_on_at, breaks_off_at, last_at)
