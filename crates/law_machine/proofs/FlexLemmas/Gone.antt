-- Which words are anchors once the blocks after one have moved.
use Rattle.std.proofs.Common.{◌≡◌, ℕ, Bool, ◌+◌, ◌-◌, ◌<◌, ◌≤◌, true, false, nat_eq, List, [], ◌∷◌, ◌++◌, arith, sym, ◌∙◌, ap, inl, inr, ◌⊎◌, subst}
use Rattle.std.proofs.lemmas.Bool.{eqb-true, eq-eqb, false_from_ne_true, false≢true, ne_eqb, or_cases, or_left, or_right}
use Rattle.flex_store.specs.Blocks.{Block, has_anchor, bytes_taken_by, bytes_taken_by_all}
use Rattle.flex_store.specs.Shifts.{following, gone_to, Shifts}
use Rattle.flex_store.specs.State.{AreAnchorWords}
use Rattle.flex_store.proofs.Fitting.{own_outside}
use Rattle.flex_store.proofs.Following.{Above, ArePlaced, Before, Behind, Below, has_following, IsMove, Move, outer_place, Past, Place}
use Rattle.flex_store.proofs.Words.{outside_behind, words_left}
use Rattle.os_heap.proofs.RangeTests.{same_tests}

-- an anchor where it went
pub has_gone : (ss : Shifts) (ys : List Block) (a : ℕ) → has_anchor ys a ≡ true → has_anchor (following ss ys) (gone_to ss a) ≡ true
has_gone ss [] a has = absurd (false≢true has)
has_gone ss (b ∷ ys) a has = elim (or_cases (nat_eq a b.anchor) (has_anchor ys a) has) [
  | inl here ↦ or_left (nat_eq (gone_to ss a) (gone_to ss b.anchor)) (has_anchor (following ss ys) (gone_to ss a))
      (eq-eqb (gone_to ss a) (gone_to ss b.anchor) (ap (gone_to ss) (eqb-true a b.anchor here)))
  | inr later ↦ or_right (nat_eq (gone_to ss a) (gone_to ss b.anchor)) (has_anchor (following ss ys) (gone_to ss a)) (has_gone ss ys a later)
]

-- what goes where
pub record IsGone (k : Move) (start : ℕ) (front after : List Block) (b : Block) (ss : Shifts) : Type 0 where
  pub place : k.at ≡ start + bytes_taken_by_all front
  pub old : k.old ≡ k.at + bytes_taken_by b.size
  pub last : k.last ≡ k.old + bytes_taken_by_all after
  pub behind : (w : ℕ) → k.old ≤ w → w < k.last → gone_to ss w ≡ k.new + (w - k.old)
  pub below : (w : ℕ) → w + 4 ≤ k.at → gone_to ss w ≡ w
  pub above : (w : ℕ) → k.end ≤ w → gone_to ss w ≡ w

module _ (mapped : ℕ → Bool) (start end : ℕ) (front after : List Block) (b : Block) (k : Move) (is : IsMove k) (ss : Shifts)
    (places : ArePlaced k start front after ss after) (words : AreAnchorWords mapped start end (front ++ b ∷ after)) (end_is : k.end ≡ end)
    (v : IsGone k start front after b ss) where
  pub own_out : (b.anchor + 4 ≤ k.at) ⊎ (k.end ≤ b.anchor)
  own_out = own_outside mapped start end front after b k is ss places words v.place end_is

  pub front_out : (p : ℕ) → has_anchor front p ≡ true → (p + 4 ≤ k.at) ⊎ (k.end ≤ p)
  front_out p has = elim (outside_behind mapped start end front p (words_left mapped start end front (b ∷ after) words) has) [
    | inl before ↦ inl (omega (arith, before, v.place))
    | inr past ↦ inr (omega (arith, past, end_is))
  ]

  -- words before the blocks, and after the store
  pub outer_anchor : (w : ℕ) → (w + 4 ≤ k.at) ⊎ (k.end ≤ w) → has_anchor (following ss after) w ≡ has_anchor after w
  outer_anchor w out = same_tests (has_anchor (following ss after) w) (has_anchor after w)
      (λ has.
      let f = has_following ss after w has in
      let own : Place k start front after f.0 w = subst (λ (g : ℕ). Place k start front after f.0 g) f.1.1 (places f.0 f.1.0) in
      ap (has_anchor after) (outer_place k start front after f.0 w is own out) ∙ f.1.0)
      (λ has. ap (has_anchor (following ss after)) (sym (elim out [ inl low ↦ v.below w low | inr past ↦ v.above w past ])) ∙ has_gone ss after w has)

  pub below_same : (w : ℕ) → w + 4 ≤ k.at → has_anchor (following ss after) w ≡ has_anchor after w
  below_same w low = outer_anchor w (inl low)

  -- words after it
  moved_back : (q w g : ℕ) → k.old ≤ w → w + 4 ≤ k.last → g ≡ k.new + (w - k.old) → Place k start front after q g → q ≡ w
  moved_back q w g low high g_is (Below e under _) = absurd (omega (arith, is.low, is.low_fits))
  moved_back q w g low high g_is (Before e from under) = absurd (omega (arith, is.low_fits))
  moved_back q w g low high g_is (Past e from aligned under) = absurd (omega (arith, is.held))
  moved_back q w g low high g_is (Behind e from under _) = omega arith
  moved_back q w g low high g_is (Above e past) = absurd (omega (arith, is.new_fits))

  pub rest_same : (w : ℕ) → k.old ≤ w → w + 4 ≤ k.last → has_anchor (following ss after) (k.new + (w - k.old)) ≡ has_anchor after w
  rest_same w low high = same_tests (has_anchor (following ss after) (k.new + (w - k.old))) (has_anchor after w)
      (λ has.
      let f = has_following ss after (k.new + (w - k.old)) has in
      ap (has_anchor after) (sym (moved_back f.0 w (gone_to ss f.0) low high f.1.1 (places f.0 f.1.0))) ∙ f.1.0)
      (λ has. ap (has_anchor (following ss after)) (sym (v.behind w low (omega arith))) ∙ has_gone ss after w has)

  pub none_front : (p : ℕ) → k.at ≤ p → p < k.end → has_anchor front p ≡ false
  none_front p low high = false_from_ne_true (has_anchor front p) (λ has. elim (front_out p has) [ inl before ↦ omega arith | inr past ↦ omega arith ])

  pub none_own : (p : ℕ) → k.at ≤ p → p < k.end → nat_eq p b.anchor ≡ false
  none_own p low high = ne_eqb p b.anchor (λ same. elim own_out [ inl before ↦ omega arith | inr past ↦ omega arith ])
