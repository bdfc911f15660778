-- The lowest register of a list, which is its lowest set bit, and the list without it.
use Rattle.std.proofs.Common.{◌≡◌, ◌≢◌, ℕ, zero, suc, length, ◌+◌, ◌-◌, ◌/◌, ◌%◌, ◌^◌, ◌<◌, true, false, cond, nat_eq, [], ◌∷◌, ◌++◌, ap, sym, ◌∙◌, refl, arith, inl, inr, bit_and}
use Rattle.std.specs.Int.{w64, bit_at, trailing_zeros}
use Rattle.std.proofs.lemmas.Bool.{cases_lt}
use Rattle.std.proofs.lemmas.Bool.Decides.{nat_tests}
use Rattle.std.proofs.lemmas.Nat.{and_le_l}
use Rattle.std.proofs.lemmas.Nat.Bits.{bit_at-suc, bit_at-trailing_zeros, bit_at-zero, bit_at_above, bit_at_and, bit_at_lowest}
use Rattle.arm_decode.specs.Word.{bit_of}
use Rattle.arm_core.specs.Listed.{listed_below, registers_of_list}

none_below : (n x : ℕ) → ((i : ℕ) → i < n → bit_of x i ≡ false) → listed_below n x ≡ []
unfolding listed_below
none_below zero x h = refl
none_below (suc n) x h = rw (h n (omega arith), none_below n x (λ i below. h i (omega arith))) refl

-- two lists that have the same registers but one, which only the first has, and as its lowest
record IsSplit (x y k : ℕ) : Type 0 where
  has : bit_of x k ≡ true
  lowest : (i : ℕ) → i < k → bit_of x i ≡ false
  without : bit_of y k ≡ false
  others : (i : ℕ) → i < 64 → i ≢ k → bit_of y i ≡ bit_of x i

split_below : (x y k d : ℕ) → IsSplit x y k → d + k < 64 → listed_below (suc (d + k)) x ≡ k ∷ listed_below (suc (d + k)) y
unfolding listed_below
split_below x y k zero is within =
    let same : 0 + k ≡ k = omega arith in
    let none : listed_below k x ≡ [] = none_below k x is.lowest in
    let none' : listed_below k y ≡ [] = none_below k y (λ i below. is.others i (omega arith) (omega arith) ∙ is.lowest i below) in
    rw (same, is.has, is.without, none, none') refl
split_below x y k (suc d) is within =
    let next : suc d + k ≡ suc (d + k) = omega arith in
    let above : bit_of y (suc (d + k)) ≡ bit_of x (suc (d + k)) = is.others (suc (d + k)) (omega arith) (omega arith) in
    rw (next, above) (ap (λ rs. rs ++ cond (bit_of x (suc (d + k))) (suc (d + k) ∷ []) []) (split_below x y k d is (omega arith)))

bit_set : (x i : ℕ) → x / 2 ^ i % 2 ≡ 1 → bit_of x i ≡ true
bit_set x i h = ap (λ (b : ℕ). nat_eq b 1) h

bit_clear : (x i : ℕ) → x / 2 ^ i % 2 ≡ 0 → bit_of x i ≡ false
bit_clear x i h = ap (λ (b : ℕ). nat_eq b 1) h

some_half : (k y : ℕ) → bit_at (y / 2) k ≡ 1 → 0 < y / 2
some_half k y one = elim (cases_lt 0 (y / 2)) [
  | inl some ↦ some
  | inr none ↦ let e : y / 2 ≡ 0 = omega arith in absurd (omega (arith, one, ap (λ z. bit_at z k) e, bit_at-zero k))
]

-- the bits of a number less one: at its lowest set bit, and above that
pred_at : (k x : ℕ) → bit_at x k ≡ 1 → ((i : ℕ) → i < k → bit_at x i ≡ 0) → bit_at (x - 1) k ≡ 0
pred_at zero x one low = omega (arith, bit_at_lowest x, bit_at_lowest (x - 1))
pred_at (suc k) x one low =
    let even : x % 2 ≡ 0 = sym (bit_at_lowest x) ∙ low 0 (omega arith) in
    let some : 0 < x / 2 = some_half k x (sym (bit_at-suc x k) ∙ one) in
    let half : (x - 1) / 2 ≡ x / 2 - 1 = omega arith in
    bit_at-suc (x - 1) k ∙ ap (λ y. bit_at y k) half
    ∙ pred_at k (x / 2) (sym (bit_at-suc x k) ∙ one) (λ i below. sym (bit_at-suc x i) ∙ low (suc i) (omega arith))

pred_above : (k x i : ℕ) → bit_at x k ≡ 1 → ((i : ℕ) → i < k → bit_at x i ≡ 0) → k < i → bit_at (x - 1) i ≡ bit_at x i
pred_above k x zero one low above = absurd (omega arith)
pred_above zero x (suc i) one low above =
    let odd : x % 2 ≡ 1 = sym (bit_at_lowest x) ∙ one in
    let half : (x - 1) / 2 ≡ x / 2 = omega arith in
    bit_at-suc (x - 1) i ∙ ap (λ y. bit_at y i) half ∙ sym (bit_at-suc x i)
pred_above (suc k) x (suc i) one low above =
    let even : x % 2 ≡ 0 = sym (bit_at_lowest x) ∙ low 0 (omega arith) in
    let some : 0 < x / 2 = some_half k x (sym (bit_at-suc x k) ∙ one) in
    let half : (x - 1) / 2 ≡ x / 2 - 1 = omega arith in
    bit_at-suc (x - 1) i ∙ ap (λ y. bit_at y i) half
    ∙ pred_above k (x / 2) i (sym (bit_at-suc x k) ∙ one) (λ j below. sym (bit_at-suc x j) ∙ low (suc j) (omega arith)) (omega arith)
    ∙ sym (bit_at-suc x i)

abbrev pub without : ℕ → ℕ
without x = bit_and x (x - 1)

without_at : (k x : ℕ) → bit_at x k ≡ 1 → ((i : ℕ) → i < k → bit_at x i ≡ 0) → bit_at (without x) k ≡ 0
without_at k x one low = omega (arith, bit_at_and x (x - 1) k, pred_at k x one low)

without_other : (k x i : ℕ) → bit_at x k ≡ 1 → ((i : ℕ) → i < k → bit_at x i ≡ 0) → i ≢ k → bit_at (without x) i ≡ bit_at x i
without_other k x i one low other = elim (cases_lt i k) [
  | inl below ↦ omega (arith, bit_at_and x (x - 1) i, low i below)
  | inr from ↦ omega (arith, bit_at_and x (x - 1) i, pred_above k x i one low (omega arith))
]

pub lowest_below : (x : ℕ) → 0 < x → x < 2 ^ 16 → trailing_zeros w64 x < 16
lowest_below x some few =
    let found = bit_at-trailing_zeros w64 x some (omega arith) in
    elim (cases_lt (trailing_zeros w64 x) 16) [
      | inl below ↦ below
      | inr past ↦ absurd (omega (arith, found.1, bit_at_above x 16 (trailing_zeros w64 x) few past))
    ]

-- a list without R15
pub low_list : (x : ℕ) → x < 2 ^ 16 → bit_of x 15 ≡ false → x < 2 ^ 15
low_list x few clear = grind (arith, nat_tests)

pub lowest_low : (x : ℕ) → 0 < x → x < 2 ^ 15 → trailing_zeros w64 x < 15
lowest_low x some few =
    let found = bit_at-trailing_zeros w64 x some (omega arith) in
    elim (cases_lt (trailing_zeros w64 x) 15) [
      | inl below ↦ below
      | inr past ↦ absurd (omega (arith, found.1, bit_at_above x 15 (trailing_zeros w64 x) few past))
    ]

pub without_low : (x : ℕ) → x < 2 ^ 15 → without x < 2 ^ 15
without_low x few = omega (arith, and_le_l x (x - 1))

pub without_below : (x : ℕ) → x < 2 ^ 16 → without x < 2 ^ 16
without_below x few = omega (arith, and_le_l x (x - 1))

is_split : (x : ℕ) → 0 < x → x < 2 ^ 16 → IsSplit x (without x) (trailing_zeros w64 x)
is_split x some few =
    let k = trailing_zeros w64 x in
    let found = bit_at-trailing_zeros w64 x some (omega arith) in
    let within : k < 64 = omega (arith, lowest_below x some few) in
    record {
      has = bit_set x k found.1;
      lowest = λ i below. bit_clear x i (found.2 i below);
      without = bit_clear (without x) k (without_at k x found.1 found.2);
      others = λ i below other. ap (λ (b : ℕ). nat_eq b 1) (without_other k x i found.1 found.2 other);
    }

pub listed_split : (x : ℕ) → 0 < x → x < 2 ^ 16 → registers_of_list x ≡ trailing_zeros w64 x ∷ registers_of_list (without x)
unfolding registers_of_list
listed_split x some few =
    let k = trailing_zeros w64 x in
    let below : k < 16 = lowest_below x some few in
    let all : suc ((15 - k) + k) ≡ 16 = omega arith in
    rw (sym all) (split_below x (without x) k (15 - k) (is_split x some few) (omega arith))

pub listed_empty : registers_of_list 0 ≡ []
unfolding registers_of_list
listed_empty = none_below 16 0 (λ i below. refl_bit i) where
  refl_bit : (i : ℕ) → bit_of 0 i ≡ false
  refl_bit i = let e : 0 / 2 ^ i % 2 ≡ 0 = omega arith in bit_clear 0 i e

pub ruleset splitting = (lowest_below, lowest_low, without_below, without_low, listed_split)

-- one register more
pub length_next : (x y r : ℕ) → registers_of_list x ≡ r ∷ registers_of_list y → length (registers_of_list x) ≡ length (registers_of_list y) + 1
length_next x y r e = omega (arith, ap length e)
