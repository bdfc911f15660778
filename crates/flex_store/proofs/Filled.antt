-- Blocks that have the bytes that their sizes say, and anchors of their own, after each change of
-- their list.
use Rattle.std.proofs.Common.{◌≡◌, ℕ, ◌+◌, ◌-◌, ◌≤◌, false, nat_eq, List, [], ◌∷◌, ◌++◌, length, replicate, Option, Some, None, arith, refl, sym, ◌∙◌, ap, inl, inr}
use Rattle.std.proofs.lemmas.Bool.{cases_Bool, eqb-true, false_from_ne_true, or_parts, true≢false}
use Rattle.std.proofs.lemmas.Bool.Decides.{nat_tests}
use Rattle.std.proofs.lemmas.List.{length-replicate}
use Rattle.std.proofs.Math.ListN.{length-append}
use Rattle.flex_store.specs.Blocks.{Block, find_block, FlexStore, has_anchor, block_holding, new_block, bytes_taken_by, bytes_taken_by_all, whole_words, with_block, without_block}
use Rattle.flex_store.specs.Laws.{HaveDistinctAnchors, HasBlocks}
use Rattle.flex_store.specs.State.{AreWhole}
use Rattle.flex_store.proofs.Answering.{has_with}
use Rattle.flex_store.proofs.Lists.{anchor-append}
use Rattle.flex_store.proofs.Releasing.{has_without}

-- each block has as many bytes as its size says, filled up to whole words
abbrev pub AreFilled : List Block → Type 0
AreFilled [] = Unit {0}
AreFilled (b ∷ bs) = (length b.bytes ≡ whole_words b.size) × AreFilled bs

abbrev pub HasFilled : Option FlexStore → Type 0
HasFilled None = Unit {0}
HasFilled (Some s) = AreFilled s.blocks × HaveDistinctAnchors s.blocks

pub whole_filled : (bs : List Block) → AreWhole bs → AreFilled bs
whole_filled [] whole = tt
whole_filled (b ∷ bs) whole = (whole.0.0, whole_filled bs whole.1)

pub store_filled : (o : Option FlexStore) → HasBlocks o → HasFilled o
store_filled None has = tt
store_filled (Some s) has = (whole_filled s.blocks has.0, has.1)

pub new_filled : (anchor size : ℕ) → length (new_block anchor size).bytes ≡ whole_words size
new_filled anchor size = length-replicate {A = ℕ} (whole_words size) 0

pub holding_filled : (b : Block) (c : List ℕ) → length (block_holding b c).bytes ≡ whole_words (length c)
holding_filled b c =
    let more : ℕ = whole_words (length c) - length c in
    omega (arith, length-append c (replicate {A = ℕ} more 0), length-replicate {A = ℕ} more 0)

pub filled_append : (xs ys : List Block) → AreFilled xs → AreFilled ys → AreFilled (xs ++ ys)
filled_append [] ys first then = then
filled_append (x ∷ xs) ys first then = (first.0, filled_append xs ys first.1 then)

pub distinct_append : (bs : List Block) (b : Block) → has_anchor bs b.anchor ≡ false → HaveDistinctAnchors bs → HaveDistinctAnchors (bs ++ b ∷ [])
distinct_append [] b none distinct = (refl, tt)
distinct_append (x ∷ bs) b none distinct =
    let parts = or_parts (nat_eq b.anchor x.anchor) (has_anchor bs b.anchor) none in
    let turned : nat_eq x.anchor b.anchor ≡ false = grind (arith, nat_tests, parts.0) in
    (rw (anchor-append bs (b ∷ []) x.anchor, distinct.0, turned) refl, distinct_append bs b parts.1 distinct.1)

pub filled_without : (anchor : ℕ) (bs : List Block) → AreFilled bs → AreFilled (without_block anchor bs)
filled_without anchor [] filled = tt
filled_without anchor (x ∷ bs) filled = elim (cases_Bool (nat_eq x.anchor anchor)) [
  | inl here ↦ rw here filled.1
  | inr other ↦ rw other (filled.0, filled_without anchor bs filled.1)
]

pub distinct_without : (anchor : ℕ) (bs : List Block) → HaveDistinctAnchors bs → HaveDistinctAnchors (without_block anchor bs)
distinct_without anchor [] distinct = tt
distinct_without anchor (x ∷ bs) distinct = elim (cases_Bool (nat_eq x.anchor anchor)) [
  | inl here ↦ rw here distinct.1
  | inr other ↦
      let apart : has_anchor (without_block anchor bs) x.anchor ≡ false =
      false_from_ne_true (has_anchor (without_block anchor bs) x.anchor) (λ has. true≢false (sym (has_without anchor bs x.anchor has) ∙ distinct.0)) in
      rw other (apart, distinct_without anchor bs distinct.1)
]

pub filled_with : (anchor : ℕ) (new : Block) (bs : List Block) → length new.bytes ≡ whole_words new.size → AreFilled bs → AreFilled (with_block anchor new bs)
filled_with anchor new [] whole filled = tt
filled_with anchor new (x ∷ bs) whole filled = elim (cases_Bool (nat_eq x.anchor anchor)) [
  | inl here ↦ rw here (whole, filled.1)
  | inr other ↦ rw other (filled.0, filled_with anchor new bs whole filled.1)
]

pub distinct_with : (anchor : ℕ) (new : Block) (bs : List Block) → new.anchor ≡ anchor → HaveDistinctAnchors bs → HaveDistinctAnchors (with_block anchor new bs)
distinct_with anchor new [] same distinct = tt
distinct_with anchor new (x ∷ bs) same distinct = elim (cases_Bool (nat_eq x.anchor anchor)) [
  | inl here ↦
      let e : new.anchor ≡ x.anchor = same ∙ sym (eqb-true x.anchor anchor here) in
      rw here (ap (has_anchor bs) e ∙ distinct.0, distinct.1)
  | inr other ↦
      let apart : has_anchor (with_block anchor new bs) x.anchor ≡ false =
      false_from_ne_true (has_anchor (with_block anchor new bs) x.anchor) (λ has. true≢false (sym (has_with anchor new bs x.anchor same has) ∙ distinct.0)) in
      rw other (apart, distinct_with anchor new bs same distinct.1)
]

pub used_with : (anchor : ℕ) (b new : Block) (bs : List Block) → find_block anchor bs ≡ Some b → new.size ≡ b.size → bytes_taken_by_all (with_block anchor new bs) ≡ bytes_taken_by_all bs
used_with anchor b new [] found same = absurd (let none : None ≡ Some b = found in cc)
used_with anchor b new (x ∷ bs) found same = elim (cases_Bool (nat_eq x.anchor anchor)) [
  | inl here ↦
      let found' = rw here at found in
      let own : x ≡ b = cc in
      let e : new.size ≡ x.size = same ∙ ap (λ (y : Block). y.size) (sym own) in
      rw here (ap (λ (n : ℕ). bytes_taken_by n + bytes_taken_by_all bs) e)
  | inr other ↦ rw other (ap (λ (n : ℕ). bytes_taken_by x.size + n) (used_with anchor b new bs (rw other at found) same))
]

pub used_without : (anchor : ℕ) (bs : List Block) → bytes_taken_by_all (without_block anchor bs) ≤ bytes_taken_by_all bs
used_without anchor [] = omega arith
used_without anchor (x ∷ bs) = elim (cases_Bool (nat_eq x.anchor anchor)) [
  | inl here ↦ rw here (omega arith)
  | inr other ↦ rw other (omega (arith, used_without anchor bs))
]
