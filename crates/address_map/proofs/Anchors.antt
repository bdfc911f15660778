-- Whether a range has an anchor: byte by byte, and by the marks of a page's words.
use Rattle.std.proofs.Common.{◌≡◌, ◌≢◌, ℕ, ◌+◌, ◌-◌, ◌*◌, ◌/◌, ◌%◌, ◌<◌, ◌≤◌, Some, None, is_some, Bool, true, false, zero, suc, ap, sym, ◌∙◌, subst, refl, arith, inl, inr}
use Rattle.std.proofs.lemmas.Bool.{both_ways, cases_Bool, cases_eq, false≢true, false_from_ne_true, or_from, or_left, or_right}
use Rattle.address_map.specs.Classes.{is_anchor}
use Rattle.address_map.specs.Marks.{class_at}
use Rattle.address_map.specs.Memory.{anchor_of, class_of, place}
use Rattle.address_map.specs.Records.{anchor_among, HasNoAnchor}
use Rattle.address_map.specs.declared.class.Class.{Class}
use Rattle.address_map.specs.declared.class.Class.TheVariants as class
use Rattle.address_map.specs.declared.map.AddressMap.{AddressMap}
use Rattle.address_map.proofs.Bytes.{is_mapped-page}
use Rattle.address_map.proofs.Lending.{place_ahead}
use Rattle.address_map.proofs.Words.{class_found, class_none, none_there}

pub among_none : (anchor : ℕ → Bool) (at len : ℕ) → ((a : ℕ) → at ≤ a → a < at + len → anchor a ≡ false) → anchor_among anchor at len ≡ false
unfolding anchor_among
among_none anchor at zero none = refl
among_none anchor at (suc n) none =
    or_from (anchor at) (anchor_among anchor (at + 1) n) (none at (omega arith) (omega arith))
    (among_none anchor (at + 1) n (λ a low high. none a (omega (arith, low)) (omega (arith, high))))

pub among_some : (anchor : ℕ → Bool) (at len a : ℕ) → at ≤ a → a < at + len → anchor a ≡ true → anchor_among anchor at len ≡ true
unfolding anchor_among
among_some anchor at zero a low high is = absurd (omega arith)
among_some anchor at (suc n) a low high is = elim (cases_eq a at) [
  | inl here ↦ or_left (anchor at) (anchor_among anchor (at + 1) n) (subst (λ (x : ℕ). anchor x ≡ true) here is)
  | inr later ↦ or_right (anchor at) (anchor_among anchor (at + 1) n) (among_some anchor (at + 1) n a (omega arith) (omega arith) is)
]

pub none_among : (anchor : ℕ → Bool) (at len a : ℕ) → anchor_among anchor at len ≡ false → at ≤ a → a < at + len → anchor a ≡ false
none_among anchor at len a none low high =
    false_from_ne_true (anchor a) (λ is. both_ways (anchor_among anchor at len) none (among_some anchor at len a low high is))

-- the same of a map's marks
other_class : (own : Class) → own ≢ class.Anchor → is_anchor own ≡ false
other_class class.Plain other = refl
other_class class.Heap other = refl
other_class class.FlexHeader other = refl
other_class class.Anchor other = absurd (other refl)

pub marks_none : (m : AddressMap) (at len : ℕ) → HasNoAnchor (class_of m) at len → false ≡ anchor_among (anchor_of m) at len
marks_none m at len none = sym (among_none (anchor_of m) at len (λ a low high. other_class (class_of m a) (none a low high)))

pub marks_some : (m : AddressMap) (at len a : ℕ) → at ≤ a → a < at + len → anchor_of m a ≡ true → true ≡ anchor_among (anchor_of m) at len
marks_some m at len a low high is = sym (among_some (anchor_of m) at len a low high is)

pub unanchored : (m : AddressMap) (at len : ℕ) → anchor_among (anchor_of m) at len ≡ false → HasNoAnchor (class_of m) at len
unanchored m at len none a low high is = false≢true (sym (none_among (anchor_of m) at len a none low high) ∙ ap is_anchor is)

-- a range with an anchor makes a wider one have it
pub among_wider : (anchor : ℕ → Bool) (at len from n : ℕ) → at ≤ from → from + n ≤ at + len → anchor_among anchor from n ≡ true → anchor_among anchor at len ≡ true
among_wider anchor at len from n low high some = elim (cases_Bool (anchor_among anchor at len)) [
  | inl wide ↦ wide
  | inr none ↦ absurd (false≢true (sym (among_none anchor from n (λ a above below. none_among anchor at len a none (omega (arith, low, above)) (omega (arith, high, below)))) ∙ some))
]

-- Words of one page, by the marks where they lie: none of these marks is an anchor's, or the page
-- isn't mapped.
pub low_words : (m : AddressMap) (a k len : ℕ) → place m a ≡ Some k → a % 4096 + len ≤ 4096
    → ((j : ℕ) → 4 * (k / 16) ≤ j → j < 4 * ((k + len + 15) / 16) → class_at m.marks j ≢ class.Anchor) → HasNoAnchor (class_of m) a len
low_words m a k len h page low b from to is =
    let j : ℕ = b - a in
    let same : a + j ≡ b = omega (arith, from) in
    let there : place m b ≡ Some (k + j) = subst (λ (x : ℕ). place m x ≡ Some (k + j)) same (place_ahead m a j k h (omega (arith, page, to, from))) in
    low ((k + j) / 4) (omega arith) (omega (arith, to, from)) (sym (class_found m b (k + j) there) ∙ is)

pub unmapped_words : (m : AddressMap) (a len : ℕ) → place m a ≡ None → a % 4096 + len ≤ 4096 → HasNoAnchor (class_of m) a len
unmapped_words m a len h page b from to is =
    let none : place m b ≡ None = none_there (place m b) (is_mapped-page m b a (omega (arith, page, from, to)) ∙ ap is_some h) in
    let plain : class_of m b ≡ class.Plain = class_none m b none in
    cc (is, plain)
