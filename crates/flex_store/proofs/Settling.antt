-- A walk that settles the blocks of a text: it names their anchors anew, marks them and the
-- headers, and writes the blocks' addresses to them.
use Rattle.std.proofs.Common.{◌≡◌, ℕ, Bool, ◌+◌, ◌-◌, ◌^◌, ◌<◌, ◌≤◌, List, [], ◌∷◌, ◌++◌, length, arith, sym, ◌∙◌, ap, inl, inr, ◌⊎◌}
use Rattle.std.proofs.lemmas.Bool.{cases_lt}
use Rattle.std.proofs.lemmas.Bool.Decides.{nat_tests}
use Rattle.os_heap_words.specs.RawStoreRegion.{word_bytes}
use Rattle.os_heap.proofs.Bytes.{is_mapped-layout}
use Rattle.os_heap.specs.Bytes.{with_bytes_at, with_word_at, word_at}
use Rattle.os_heap.specs.Class.{Class}
use Rattle.os_heap.specs.Class.TheVariants as class
use Rattle.os_heap.specs.AddressMap.{AddressMap}
use Rattle.os_heap.specs.Memory.{byte_at, bytes_of, class_of, is_mapped, layout}
use Rattle.flex_store.specs.declared.shift.Shift.{Shift}
use Rattle.flex_store.specs.Blocks.{Block, bytes_taken_by, bytes_taken_by_all, whole_words}
use Rattle.flex_store.specs.Marks.{with_block_marks, with_marks}
use Rattle.flex_store.specs.Memory.{AreAnchored, blocks_in, Holds, laid_out, blocks_text_of, with_anchors}
use Rattle.flex_store.specs.Shifts.{following, gone_to}
use Rattle.flex_store.specs.State.{AreAnchorWords, AreWhole, IsAnchorWord, IsMappedWord, IsText}
use Rattle.flex_store.proofs.Following.{following_used, following_whole}
use Rattle.flex_store.proofs.Holding.{bytes_beside, bytes_held, holds_append, holds_kept, holds_word, word_beside}
use Rattle.flex_store.proofs.Lists.{text_used}
use Rattle.flex_store.proofs.Reading.{IsSpelled}
use Rattle.flex_store.proofs.Storing.{laid_behind}
use Rattle.flex_store.proofs.Texts.{IsFirst, text_first, text_kept, text_next}
use Rattle.flex_store.proofs.Walks.{ended, IsSettling, words_mapped}
use Rattle.flex_store.proofs.Words.{mapped_word}

-- a word over other bytes
word_over : (f g : ℕ → ℕ) (at w a : ℕ) → ((a < at) ⊎ (at + 4 ≤ a) → f a ≡ g a) → with_word_at f at w a ≡ with_word_at g at w a
word_over f g at w a same = elim (cases_lt a at) [
  | inl low ↦ word_beside f at w a (inl low) ∙ (same (inl low) ∙ sym (word_beside g at w a (inl low)))
  | inr up ↦ elim (cases_lt a (at + 4)) [
    | inr high ↦ word_beside f at w a (inr high) ∙ (same (inr high) ∙ sym (word_beside g at w a (inr high)))
    | inl inside ↦ grind (arith, nat_tests)
  ]
]

-- the block at the walk's place, with another anchor
abbrev renamed : Block → ℕ → Block
renamed x anchor = record { anchor = anchor; size = x.size; bytes = x.bytes }

-- its header was written, and its anchor
abbrev written : (ℕ → ℕ) → ℕ → ℕ → ℕ → ℕ
written f to anchor = with_word_at (with_word_at f to anchor) anchor (to + 8)

written_beside : (f : ℕ → ℕ) (to anchor a : ℕ) → (a < to) ⊎ (to + 4 ≤ a) → (a < anchor) ⊎ (anchor + 4 ≤ a) → written f to anchor a ≡ f a
written_beside f to anchor a one two = word_beside (with_word_at f to anchor) anchor (to + 8) a two ∙ word_beside f to anchor a one

-- the block is there then
written_text : (mapped : ℕ → Bool) (f : ℕ → ℕ) (to end anchor : ℕ) (x : Block) (bs : List Block) → length x.bytes ≡ whole_words x.size → to + bytes_taken_by x.size ≤ end
    → IsSpelled f to x bs → IsAnchorWord mapped to end anchor → Holds (written f to anchor) to (blocks_text_of (renamed x anchor ∷ []))
written_text mapped f to end anchor x bs whole fits s w =
    let g : ℕ → ℕ = written f to anchor in
    let e : to + 4 + 4 ≡ to + 8 = omega arith in
    let aside : (a : ℕ) → to ≤ a → a < to + bytes_taken_by x.size → (a < anchor) ⊎ (anchor + 4 ≤ a) = λ a low high.
    elim w.outside [ inl before ↦ inr (omega arith) | inr behind ↦ inl (omega arith) ] in
    holds_append g to (word_bytes anchor) (word_bytes x.size ++ (x.bytes ++ []))
    (holds_kept (with_word_at f to anchor) g to (word_bytes anchor) (λ a low high. word_beside (with_word_at f to anchor) anchor (to + 8) a (aside a low (omega arith))) (holds_word f to anchor))
    (holds_append g (to + 4) (word_bytes x.size) (x.bytes ++ [])
    (holds_kept f g (to + 4) (word_bytes x.size) (λ a low high. written_beside f to anchor a (inr low) (aside a (omega arith) (omega arith))) s.size)
    (rw e (holds_append g (to + 8) x.bytes []
    (holds_kept f g (to + 8) x.bytes (λ a low high. written_beside f to anchor a (inr (omega arith)) (aside a (omega arith) (omega arith))) s.bytes)
    (λ k below. absurd (omega arith)))))

-- What is laid out over the written block and over what stood there is the same.
over_written : (f : ℕ → ℕ) (to anchor : ℕ) (x : Block) (ys : List Block) (a : ℕ) → 4 ≤ length (blocks_text_of (renamed x anchor ∷ ys))
    → laid_out to (renamed x anchor ∷ ys) (written f to anchor) a ≡ laid_out to (renamed x anchor ∷ ys) f a
unfolding laid_out
over_written f to anchor x ys a long =
    let text : List ℕ = blocks_text_of (renamed x anchor ∷ ys) in
    let one : ℕ → ℕ = with_bytes_at (written f to anchor) to text in
    let two : ℕ → ℕ = with_bytes_at f to text in
    let same : (p : ℕ) → with_word_at one anchor (to + 8) p ≡ with_word_at two anchor (to + 8) p = λ p.
    word_over one two anchor (to + 8) p (λ aside. text_over f to anchor text p long aside) in
    ap (λ (h : ℕ → ℕ). with_anchors (to + bytes_taken_by x.size) ys h a) (λ i p. same p i) where
      text_over : (f : ℕ → ℕ) (to anchor : ℕ) (text : List ℕ) (p : ℕ) → 4 ≤ length text → (p < anchor) ⊎ (anchor + 4 ≤ p)
          → with_bytes_at (written f to anchor) to text p ≡ with_bytes_at f to text p
      text_over f to anchor text p long aside = elim (cases_lt p to) [
        | inl low ↦ bytes_beside (written f to anchor) to text p (inl low) ∙ (written_beside f to anchor p (inl low) aside ∙ sym (bytes_beside f to text p (inl low)))
        | inr up ↦ elim (cases_lt p (to + length text)) [
          | inr high ↦ bytes_beside (written f to anchor) to text p (inr high)
              ∙ (written_beside f to anchor p (inr (omega arith)) aside ∙ sym (bytes_beside f to text p (inr high)))
          | inl inside ↦
              let e : to + (p - to) ≡ p = omega arith in
              ap (with_bytes_at (written f to anchor) to text) (sym e) ∙ (bytes_held (written f to anchor) to text (p - to) (omega arith)
              ∙ (sym (bytes_held f to text (p - to) (omega arith)) ∙ ap (with_bytes_at f to text) e))
        ]
      ]

-- So the rest is laid out over it as all is over what stood there.
rest_laid : (mapped : ℕ → Bool) (f : ℕ → ℕ) (to end anchor : ℕ) (x : Block) (bs ys : List Block) (a : ℕ) → length x.bytes ≡ whole_words x.size → x.size < 2 ^ 32
    → to + bytes_taken_by x.size + bytes_taken_by_all ys ≤ end → IsSpelled f to x bs → AreWhole ys → AreAnchorWords mapped to end (renamed x anchor ∷ ys)
    → laid_out (to + bytes_taken_by x.size) ys (written f to anchor) a ≡ laid_out to (renamed x anchor ∷ ys) f a
rest_laid mapped f to end anchor x bs ys a whole small fits s rest words =
    let g : ℕ → ℕ = written f to anchor in
    let e : to + (bytes_taken_by x.size + 0) ≡ to + bytes_taken_by x.size = omega arith in
    let all : AreWhole (renamed x anchor ∷ ys) = ((whole, small), rest) in
    let held : Holds g to (blocks_text_of (renamed x anchor ∷ [])) = written_text mapped f to end anchor x bs whole (omega arith) s words.0.0 in
    let anchored : AreAnchored g to (renamed x anchor ∷ []) = (holds_word (with_word_at f to anchor) anchor (to + 8), tt) in
    rw e at (laid_behind mapped to end g (renamed x anchor ∷ []) ys all words (omega arith) held anchored a)
    ∙ over_written f to anchor x ys a (omega (arith, text_used (renamed x anchor ∷ ys) all))

-- one block more is settled
settling_by : (shifts : List Shift) (m : AddressMap) (at : ℕ) (n n' : AddressMap) (to end : ℕ) (rest : List Block) → to < end
    → IsText (bytes_of n) to end rest → AreAnchorWords (is_mapped n) to end (following shifts rest) → layout n ≡ layout m
    → ((a : ℕ) → laid_out to (following shifts rest) (byte_at n) a ≡ laid_out at (following shifts (blocks_in (byte_at m) at end)) (byte_at m) a)
    → ((a : ℕ) → with_marks class.FlexHeader class.Anchor to (following shifts rest) (class_of n) a
    ≡ with_marks class.FlexHeader class.Anchor at (following shifts (blocks_in (byte_at m) at end)) (class_of m) a)
    → layout n' ≡ layout n → ((a : ℕ) → byte_at n' a ≡ written (byte_at n) to (gone_to shifts (word_at (byte_at n) to)) a)
    → ((a : ℕ) → class_of n' a ≡ with_block_marks class.FlexHeader class.Anchor to (gone_to shifts (word_at (byte_at n) to)) (class_of n) a)
    → IsSettling shifts m at n' (to + bytes_taken_by (word_at (byte_at n) (to + 4))) end
settling_by shifts m at n n' to end [] some is words same bytes marks same' bytes' marked =
    absurd (let length_is : end ≡ to + 0 = is.length in omega arith)
settling_by shifts m at n n' to end (x ∷ bs) some is words same bytes marks same' bytes' marked =
    let f : IsFirst (bytes_of n) to end x bs = text_first (bytes_of n) to end x bs is in
    let e : word_at (byte_at n) (to + 4) ≡ x.size = f.size in
    let e' : word_at (byte_at n) to ≡ x.anchor = f.anchor in
    let anchor : ℕ = gone_to shifts x.anchor in
    let ys : List Block = following shifts bs in
    let length_is : end ≡ to + (bytes_taken_by x.size + bytes_taken_by_all bs) = is.length in
    let size : bytes_taken_by_all ys ≡ bytes_taken_by_all bs = following_used shifts bs in
    let wrote : (a : ℕ) → byte_at n' a ≡ written (byte_at n) to anchor a = rw e' at bytes' in
    let made : (a : ℕ) → class_of n' a ≡ with_block_marks class.FlexHeader class.Anchor to anchor (class_of n) a = rw e' at marked in
    rw e (record {
      rest = bs;
      text = text_kept (bytes_of n) (bytes_of n') (to + bytes_taken_by x.size) end bs (is_mapped-layout n n' same')
          (λ a low high. wrote a ∙ written_beside (byte_at n) to anchor a (inr (omega arith))
          (elim words.0.0.outside [ inl before ↦ inr (omega arith) | inr behind ↦ inl (omega arith) ]))
          (text_next (bytes_of n) to end x bs is);
      words = words_mapped n n' (to + bytes_taken_by x.size) end ys same' words.1;
      same = same' ∙ same;
      bytes = λ a. ap (λ (g : ℕ → ℕ). laid_out (to + bytes_taken_by x.size) ys g a) (λ i p. wrote p i)
          ∙ (rest_laid (is_mapped n) (byte_at n) to end anchor x bs ys a f.whole is.whole.0.1 (omega arith) f.spelled (following_whole shifts bs is.whole.1) words ∙ bytes a);
      marks = λ a. ap (λ (c : ℕ → Class). with_marks class.FlexHeader class.Anchor (to + bytes_taken_by x.size) ys c a) (λ i p. made p i) ∙ marks a;
    })

pub settling_more : (shifts : List Shift) (m : AddressMap) (at : ℕ) (n n' : AddressMap) (to end : ℕ) → to < end → IsSettling shifts m at n to end
    → layout n' ≡ layout n → ((a : ℕ) → byte_at n' a ≡ with_word_at (with_word_at (byte_at n) to (gone_to shifts (word_at (byte_at n) to))) (gone_to shifts (word_at (byte_at n) to)) (to + 8) a)
    → ((a : ℕ) → class_of n' a ≡ with_block_marks class.FlexHeader class.Anchor to (gone_to shifts (word_at (byte_at n) to)) (class_of n) a)
    → IsSettling shifts m at n' (to + bytes_taken_by (word_at (byte_at n) (to + 4))) end
settling_more shifts m at n n' to end some h same' bytes' marked =
    settling_by shifts m at n n' to end h.rest some h.text h.words h.same h.bytes h.marks same' bytes' marked

-- the anchor of the block at the walk's place, by its new name
pub gone_ahead : (shifts : List Shift) (m : AddressMap) (at end : ℕ) (bs : List Block) → IsText (bytes_of m) at end bs
    → AreAnchorWords (is_mapped m) at end (following shifts bs) → at < end → IsMappedWord (is_mapped m) (gone_to shifts (word_at (byte_at m) at))
gone_ahead shifts m at end [] is words some = absurd (let length_is : end ≡ at + 0 = is.length in omega arith)
gone_ahead shifts m at end (x ∷ bs) is words some =
    let f : IsFirst (bytes_of m) at end x bs = text_first (bytes_of m) at end x bs is in
    rw f.anchor (mapped_word (is_mapped m) at end (gone_to shifts x.anchor) words.0.0)

pub record IsSettled (shifts : List Shift) (m : AddressMap) (at : ℕ) (n : AddressMap) (end : ℕ) : Type 0 where
  pub bytes : (a : ℕ) → byte_at n a ≡ laid_out at (following shifts (blocks_in (byte_at m) at end)) (byte_at m) a
  pub marks : (a : ℕ) → class_of n a ≡ with_marks class.FlexHeader class.Anchor at (following shifts (blocks_in (byte_at m) at end)) (class_of m) a

none_laid : (at : ℕ) (f : ℕ → ℕ) (a : ℕ) → laid_out at [] f a ≡ f a
unfolding laid_out
none_laid at f a = bytes_beside f at [] a (elim (cases_lt a at) [ inl low ↦ inl low | inr up ↦ inr (omega arith) ])

pub settling_all : (shifts : List Shift) (m : AddressMap) (at : ℕ) (n : AddressMap) (to end : ℕ) → end ≤ to → IsSettling shifts m at n to end
    → IsSettled shifts m at n end
settling_all shifts m at n to end past h =
    let none : h.rest ≡ [] = ended to end (bytes_of n) h.rest past h.text in
    record {
      bytes = λ a. sym (none_laid to (byte_at n) a) ∙ (ap (λ (l : List Block). laid_out to (following shifts l) (byte_at n) a) (sym none) ∙ h.bytes a);
      marks = λ a. ap (λ (l : List Block). with_marks class.FlexHeader class.Anchor to (following shifts l) (class_of n) a) (sym none) ∙ h.marks a;
    }
