-- Anchors that were written: each holds its block's address, and no other word changed.
use Rattle.std.proofs.Common.{◌≡◌, ℕ, ◌+◌, ◌%◌, ◌<◌, ◌≤◌, Bool, false, List, [], ◌∷◌, ◌++◌, arith, refl, ◌∙◌, ap, inl, inr, ◌⊎◌, nat_eq}
use Rattle.std.proofs.lemmas.Bool.{cases_lt, or_parts, eqb-false}
use Rattle.os_heap_words.specs.RawStoreRegion.{word_bytes}
use Rattle.os_heap.specs.Bytes.{word_start, with_word_at}
use Rattle.flex_store.specs.Blocks.{Block, bytes_taken_by_all, bytes_taken_by, has_anchor}
use Rattle.flex_store.specs.Memory.{AreAnchored, with_anchors}
use Rattle.flex_store.specs.State.{AreAnchorWords}
use Rattle.flex_store.proofs.Holding.{holds_kept, holds_word, word_again, word_beside}

-- a byte of another word
pub other_word : (at a : ℕ) → at % 4 ≡ 0 → (word_start a ≡ at → ⊥) → (a < at) ⊎ (at + 4 ≤ a)
other_word at a aligned other = elim (cases_lt a at) [
  | inl low ↦ inl low
  | inr up ↦ elim (cases_lt a (at + 4)) [
    | inl inside ↦ absurd (other (omega arith))
    | inr high ↦ inr high
  ]
]

pub anchors_beside : (mapped : ℕ → Bool) (start end at : ℕ) (bs : List Block) (f : ℕ → ℕ) (a : ℕ) → AreAnchorWords mapped start end bs
    → has_anchor bs (word_start a) ≡ false → with_anchors at bs f a ≡ f a
anchors_beside mapped start end at [] f a words none = refl
anchors_beside mapped start end at (b ∷ bs) f a words none =
    let parts = or_parts (nat_eq (word_start a) b.anchor) (has_anchor bs (word_start a)) none in
    anchors_beside mapped (start + bytes_taken_by b.size) end (at + bytes_taken_by b.size) bs (with_word_at f b.anchor (at + 8)) a words.1 parts.1
    ∙ word_beside f b.anchor (at + 8) a (other_word b.anchor a words.0.0.aligned (eqb-false _ _ parts.0))

pub anchors_hold : (mapped : ℕ → Bool) (start end at : ℕ) (bs : List Block) (f : ℕ → ℕ) → AreAnchorWords mapped start end bs
    → AreAnchored (with_anchors at bs f) at bs
anchors_hold mapped start end at [] f words = tt
anchors_hold mapped start end at (b ∷ bs) f words =
    let g : ℕ → ℕ = with_word_at f b.anchor (at + 8) in
    let aligned : b.anchor % 4 ≡ 0 = words.0.0.aligned in (
      holds_kept g (with_anchors (at + bytes_taken_by b.size) bs g) b.anchor (word_bytes (at + 8))
          (λ a low high. anchors_beside mapped (start + bytes_taken_by b.size) end (at + bytes_taken_by b.size) bs g a words.1
          (let e : word_start a ≡ b.anchor = omega arith in rw e words.0.1))
          (holds_word f b.anchor (at + 8)),
      anchors_hold mapped (start + bytes_taken_by b.size) end (at + bytes_taken_by b.size) bs g words.1,
    )

pub anchors_again : (at : ℕ) (bs : List Block) (f : ℕ → ℕ) (a : ℕ) → AreAnchored f at bs → with_anchors at bs f a ≡ f a
anchors_again at [] f a anchored = refl
anchors_again at (b ∷ bs) f a anchored =
    let same : with_word_at f b.anchor (at + 8) ≡ f = λ i x. word_again f b.anchor (at + 8) x anchored.0 i in
    ap (λ (g : ℕ → ℕ). with_anchors (at + bytes_taken_by b.size) bs g a) same ∙ anchors_again (at + bytes_taken_by b.size) bs f a anchored.1

pub anchors-append : (at : ℕ) (xs ys : List Block) (f : ℕ → ℕ) (a : ℕ)
    → with_anchors at (xs ++ ys) f a ≡ with_anchors (at + bytes_taken_by_all xs) ys (with_anchors at xs f) a
anchors-append at [] ys f a = let e : at ≡ at + 0 = omega arith in ap (λ (p : ℕ). with_anchors p ys f a) e
anchors-append at (b ∷ xs) ys f a =
    let g : ℕ → ℕ = with_word_at f b.anchor (at + 8) in
    let e : at + bytes_taken_by b.size + bytes_taken_by_all xs ≡ at + (bytes_taken_by b.size + bytes_taken_by_all xs) = omega arith in
    anchors-append (at + bytes_taken_by b.size) xs ys g a ∙ ap (λ (p : ℕ). with_anchors p ys (with_anchors (at + bytes_taken_by b.size) xs g) a) e
