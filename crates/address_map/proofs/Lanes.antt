-- A number written into one lane of a byte, and what the lanes hold then.
use Rattle.std.proofs.Common.{◌≡◌, ◌≢◌, ℕ, zero, suc, ◌+◌, ◌-◌, ◌*◌, ◌/◌, ◌%◌, ◌<◌, ◌≤◌, ◌==◌, true, false, cond, List, length, get_or, set, replicate, arith, refl, sym, ap, ◌∙◌, inl, inr}
use Rattle.std.proofs.lemmas.Bool.{cases_eq, cases_lt, eq-eqb, ne_eqb, cond-true, cond-false}
use Rattle.std.proofs.lemmas.Bool.Decides.{nat_tests}
use Rattle.std.proofs.lemmas.List.{get_or-set_same, get_or-set_other, get_or-replicate, get_or_past, length-replicate}
use Rattle.address_map.specs.declared.class.Class.{Class}
use Rattle.address_map.specs.declared.class.Class.TheVariants.{Plain, Heap, FlexHeader, Anchor}
use Rattle.address_map.specs.Bytes.{in_range}
use Rattle.address_map.specs.Classes.{class_number, class_of_number, weight, lane}

pub number_small : (class : Class) → class_number class < 4
number_small Plain = omega arith
number_small Heap = omega arith
number_small FlexHeader = omega arith
number_small Anchor = omega arith

pub class_read : (class : Class) → class_of_number (class_number class) ≡ class
class_read Plain = refl
class_read Heap = refl
class_read FlexHeader = refl
class_read Anchor = refl

-- the number that a lane holds is a part of the byte
pub lane_below : (b i : ℕ) → lane b i * weight i ≤ b
lane_below b i = grind (arith, nat_tests)

pub byte_fits : (b n i : ℕ) → b < 256 → n < 4 → b - lane b i * weight i + n * weight i < 256
byte_fits b n i fits small = grind (arith, nat_tests)

pub lane_set : (b n i j : ℕ) → b < 256 → n < 4 → i < 4 → j < 4
    → lane (b - lane b i * weight i + n * weight i) j ≡ cond (j == i) n (lane b j)
lane_set b n i j fits small low below = grind (arith, nat_tests)

-- a class written into a lane of a list of bytes: that word has it, and each other word the one it
-- had
pub class_set : (items : List ℕ) (word b : ℕ) (class : Class) → word / 4 < length items → get_or items (word / 4) 0 ≡ b → b < 256
    → (k : ℕ) → class_of_number (lane (get_or (set items (word / 4) (b - lane b (word % 4) * weight (word % 4) + class_number class * weight (word % 4))) (k / 4) 0) (k % 4))
    ≡ cond (k == word) class (class_of_number (lane (get_or items (k / 4) 0) (k % 4)))
class_set items word b class below is fits k =
    let new : ℕ = b - lane b (word % 4) * weight (word % 4) + class_number class * weight (word % 4) in
    elim (cases_eq (k / 4) (word / 4)) [
      | inl byte ↦
          let there : lane new (k % 4) ≡ cond (k % 4 == word % 4) (class_number class) (lane b (k % 4)) =
          lane_set b (class_number class) (word % 4) (k % 4) fits (number_small class) (omega arith) (omega arith) in
          let read : get_or (set items (word / 4) new) (k / 4) 0 ≡ new =
          ap (λ (j : ℕ). get_or (set items (word / 4) new) j 0) byte ∙ get_or-set_same items (word / 4) new 0 below in
          let old : get_or items (k / 4) 0 ≡ b = ap (λ (j : ℕ). get_or items j 0) byte ∙ is in
          elim (cases_eq (k % 4) (word % 4)) [
            | inl same ↦
                let e : k ≡ word = omega arith in
                let t : (k == word) ≡ true = eq-eqb k word e in
                let u : (k % 4 == word % 4) ≡ true = eq-eqb (k % 4) (word % 4) same in
                ap (λ (x : ℕ). class_of_number (lane x (k % 4))) read ∙ (ap class_of_number (there ∙ cond-true _ _ _ u) ∙ (class_read class ∙ sym (cond-true _ _ _ t)))
            | inr differ ↦
                let t : (k == word) ≡ false = ne_eqb k word (λ e. differ (ap (λ (x : ℕ). x % 4) e)) in
                let u : (k % 4 == word % 4) ≡ false = ne_eqb (k % 4) (word % 4) differ in
                ap (λ (x : ℕ). class_of_number (lane x (k % 4))) read ∙ (ap class_of_number (there ∙ cond-false _ _ _ u)
                ∙ (ap (λ (x : ℕ). class_of_number (lane x (k % 4))) (sym old) ∙ sym (cond-false _ _ _ t)))
          ]
      | inr other ↦
          let t : (k == word) ≡ false = ne_eqb k word (λ e. other (ap (λ (x : ℕ). x / 4) e)) in
          ap (λ (x : ℕ). class_of_number (lane x (k % 4))) (get_or-set_other items (word / 4) (k / 4) new 0 other) ∙ sym (cond-false _ _ _ t)
    ]

-- a byte made zero: its words are plain
pub class_cleared : (items : List ℕ) (byte k : ℕ) → byte < length items
    → class_of_number (lane (get_or (set items byte 0) (k / 4) 0) (k % 4)) ≡ cond (k / 4 == byte) Plain (class_of_number (lane (get_or items (k / 4) 0) (k % 4)))
class_cleared items byte k below =
    elim (cases_eq (k / 4) byte) [
      | inl here ↦
          let read : get_or (set items byte 0) (k / 4) 0 ≡ 0 = ap (λ (j : ℕ). get_or (set items byte 0) j 0) here ∙ get_or-set_same items byte 0 0 below in
          let zero_lane : lane 0 (k % 4) ≡ 0 = grind (arith, nat_tests) in
          ap (λ (x : ℕ). class_of_number (lane x (k % 4))) read ∙ (ap class_of_number zero_lane ∙ sym (cond-true _ _ _ (eq-eqb (k / 4) byte here)))
      | inr other ↦ ap (λ (x : ℕ). class_of_number (lane x (k % 4))) (get_or-set_other items byte (k / 4) 0 0 other) ∙ sym (cond-false _ _ _ (ne_eqb (k / 4) byte other))
    ]

pub cleared_more : (first done k : ℕ) (old now : Class) → now ≡ cond (in_range (4 * first) (4 * done) k) Plain old
    → cond (k / 4 == first + done) Plain now ≡ cond (in_range (4 * first) (4 * (done + 1)) k) Plain old
cleared_more first done k old now so_far = rw so_far (grind (arith, nat_tests))

-- a byte of zero: its words are plain
pub class_zero : (items : List ℕ) (k : ℕ) → get_or items (k / 4) 0 ≡ 0 → class_of_number (lane (get_or items (k / 4) 0) (k % 4)) ≡ Plain
class_zero items k is =
    let zero_lane : lane 0 (k % 4) ≡ 0 = grind (arith, nat_tests) in
    ap (λ (x : ℕ). class_of_number (lane x (k % 4))) is ∙ ap class_of_number zero_lane

-- a lane whose number is below 2: its word is plain or a heap's
pub class_low : (items : List ℕ) (k : ℕ) → lane (get_or items (k / 4) 0) (k % 4) < 2 → class_of_number (lane (get_or items (k / 4) 0) (k % 4)) ≢ Anchor
class_low items k low = low_class (lane (get_or items (k / 4) 0) (k % 4)) low where
  low_class : (n : ℕ) → n < 2 → class_of_number n ≢ Anchor
  low_class zero few is = cc
  low_class (suc zero) few is = cc
  low_class (suc (suc n)) few is = absurd (omega arith)

zero_there : (n i : ℕ) → get_or (replicate {A = ℕ} n 0) i 0 ≡ 0
zero_there n i = elim (cases_lt i n) [
  | inl below ↦ get_or-replicate n i 0 0 below
  | inr past ↦ get_or_past (replicate {A = ℕ} n 0) i 0 (omega (arith, length-replicate {A = ℕ} n 0, past))
]

-- bytes that are 0 are the marks of plain words
pub zeros_plain : (items : List ℕ) (n k : ℕ) → items ≡ replicate {A = ℕ} n 0 → class_of_number (lane (get_or items (k / 4) 0) (k % 4)) ≡ Plain
zeros_plain items n k e =
    let zero : get_or items (k / 4) 0 ≡ 0 = ap (λ (xs : List ℕ). get_or xs (k / 4) 0) e ∙ zero_there n (k / 4) in
    rw zero (grind (arith, nat_tests))
