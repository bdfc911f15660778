-- Where anchors lie: the anchor of each block outside the text from its own header on, apart from
-- the others, and in no header.
use Rattle.std.proofs.Common.{◌≡◌, ℕ, Bool, ◌+◌, ◌≤◌, true, false, ◌||◌, nat_eq, List, [], ◌∷◌, ◌++◌, arith, refl, sym, ◌∙◌, ap, inl, inr, ◌⊎◌}
use Rattle.std.specs.Prelude.{nat_le}
use Rattle.std.proofs.lemmas.Bool.{and_parts, both_ways, cases_lt, eqb-true, eq-eqb, false_from_ne_true, false≢true, leb-true, ne_eqb, or_cases, or_from, or_left, or_parts, or_right}
use Rattle.flex_store.specs.Blocks.{Block, has_anchor, is_header, is_held_word, is_in_contents, bytes_taken_by, bytes_taken_by_all}
use Rattle.flex_store.specs.State.{AreAnchorWords, AreInner, AreLow, IsAnchorWord, IsMappedWord}
use Rattle.flex_store.proofs.Headers.{IsWithin, header_within}
use Rattle.flex_store.proofs.Lists.{anchor-append}

-- an anchor of the list is a mapped word
pub mapped_word : (mapped : ℕ → Bool) (start end a : ℕ) → IsAnchorWord mapped start end a → IsMappedWord mapped a
mapped_word mapped start end a w = record { aligned = w.aligned; there = w.there; low = w.low }

pub word_of : (mapped : ℕ → Bool) (start end : ℕ) (bs : List Block) (p : ℕ) → AreAnchorWords mapped start end bs → has_anchor bs p ≡ true
    → IsMappedWord mapped p
word_of mapped start end [] p words has = absurd (false≢true has)
word_of mapped start end (b ∷ bs) p words has = elim (or_cases (nat_eq p b.anchor) (has_anchor bs p) has) [
  | inl here ↦ let e : p ≡ b.anchor = eqb-true _ _ here in rw e (mapped_word mapped start end b.anchor words.0.0)
  | inr later ↦ word_of mapped (start + bytes_taken_by b.size) end bs p words.1 later
]

-- anchors outside the rest of a text are outside the rest of a part of it
pub words_within : (mapped : ℕ → Bool) (start end at to : ℕ) (bs : List Block) → start ≤ at → to ≤ end → AreAnchorWords mapped start end bs → AreAnchorWords mapped at to bs
words_within mapped start end at to [] low high words = tt
words_within mapped start end at to (b ∷ bs) low high words = (
  (
    record {
      aligned = words.0.0.aligned;
      there = words.0.0.there;
      low = words.0.0.low;
      outside = elim words.0.0.outside [ inl before ↦ inl (omega arith) | inr behind ↦ inr (omega arith) ];
    },
    words.0.1,
  ),
  words_within mapped (start + bytes_taken_by b.size) end (at + bytes_taken_by b.size) to bs (omega arith) high words.1,
)

pub words_low : (mapped : ℕ → Bool) (start end : ℕ) (bs : List Block) → AreAnchorWords mapped start end bs → AreLow bs
words_low mapped start end [] words = tt
words_low mapped start end (b ∷ bs) words = (words.0.0.low, words_low mapped (start + bytes_taken_by b.size) end bs words.1)

-- lists end to end
pub words_left : (mapped : ℕ → Bool) (start end : ℕ) (xs ys : List Block) → AreAnchorWords mapped start end (xs ++ ys) → AreAnchorWords mapped start end xs
words_left mapped start end [] ys words = tt
words_left mapped start end (b ∷ xs) ys words = (
  (words.0.0, (or_parts (has_anchor xs b.anchor) (has_anchor ys b.anchor) (sym (anchor-append xs ys b.anchor) ∙ words.0.1)).0),
  words_left mapped (start + bytes_taken_by b.size) end xs ys words.1,
)

pub words_right : (mapped : ℕ → Bool) (start end : ℕ) (xs ys : List Block) → AreAnchorWords mapped start end (xs ++ ys)
    → AreAnchorWords mapped (start + bytes_taken_by_all xs) end ys
words_right mapped start end [] ys words = let e : start + 0 ≡ start = omega arith in rw e words
words_right mapped start end (b ∷ xs) ys words =
    let e : start + (bytes_taken_by b.size + bytes_taken_by_all xs) ≡ start + bytes_taken_by b.size + bytes_taken_by_all xs = omega arith in
    rw e (words_right mapped (start + bytes_taken_by b.size) end xs ys words.1)

-- no anchor of the one is one of the other
pub words_apart : (mapped : ℕ → Bool) (start end : ℕ) (xs ys : List Block) (p : ℕ) → AreAnchorWords mapped start end (xs ++ ys) → has_anchor ys p ≡ true
    → has_anchor xs p ≡ false
words_apart mapped start end [] ys p words has = refl
words_apart mapped start end (b ∷ xs) ys p words has =
    let none = or_parts (has_anchor xs b.anchor) (has_anchor ys b.anchor) (sym (anchor-append xs ys b.anchor) ∙ words.0.1) in
    or_from (nat_eq p b.anchor) (has_anchor xs p)
    (false_from_ne_true (nat_eq p b.anchor) (λ same. both_ways (has_anchor ys b.anchor) none.1 (ap (has_anchor ys) (sym (eqb-true p b.anchor same)) ∙ has)))
    (words_apart mapped (start + bytes_taken_by b.size) end xs ys p words.1 has)

-- what lies in contents
pub record IsHeld (at len a : ℕ) : Type 0 where
  pub from : at + 8 ≤ a
  pub below : a + 4 ≤ at + len

pub held_word : (at : ℕ) (b : Block) (a : ℕ) → is_held_word at b a ≡ true → (at + 8 ≤ a) × (a + 4 ≤ at + 8 + b.size)
held_word at b a held =
    let parts = and_parts (nat_le (at + 8) a) (nat_le (a + 4) (at + 8 + b.size)) held in
    (leb-true (at + 8) a parts.0, leb-true (a + 4) (at + 8 + b.size) parts.1)

pub contents_within : (at : ℕ) (bs : List Block) (a : ℕ) → is_in_contents at bs a ≡ true → IsHeld at (bytes_taken_by_all bs) a
contents_within at [] a held = absurd (false≢true held)
contents_within at (b ∷ bs) a held = elim (or_cases (is_held_word at b a) (is_in_contents (at + bytes_taken_by b.size) bs a) held) [
  | inl here ↦ let h = held_word at b a here in record { from = h.0; below = omega (arith, h.1) }
  | inr later ↦
      let h : IsHeld (at + bytes_taken_by b.size) (bytes_taken_by_all bs) a = contents_within (at + bytes_taken_by b.size) bs a later in
      record { from = omega (arith, h.from); below = omega (arith, h.below) }
]

no_first : (at a : ℕ) → at + 8 ≤ a → (nat_eq a at || nat_eq a (at + 4)) ≡ false
no_first at a past = or_from (nat_eq a at) (nat_eq a (at + 4)) (ne_eqb a at (λ same. omega arith)) (ne_eqb a (at + 4) (λ same. omega arith))

-- is no header
pub no_header : (at : ℕ) (bs : List Block) (a : ℕ) → is_in_contents at bs a ≡ true → is_header at bs a ≡ false
no_header at [] a held = refl
no_header at (b ∷ bs) a held = elim (or_cases (is_held_word at b a) (is_in_contents (at + bytes_taken_by b.size) bs a) held) [
  | inl here ↦
      let h = held_word at b a here in
      or_from (nat_eq a at || nat_eq a (at + 4)) (is_header (at + bytes_taken_by b.size) bs a) (no_first at a h.0)
      (false_from_ne_true (is_header (at + bytes_taken_by b.size) bs a) (λ later.
      let w : IsWithin (at + bytes_taken_by b.size) (bytes_taken_by_all bs) a = header_within (at + bytes_taken_by b.size) bs a later in
      omega (arith, w.from, h.1)))
  | inr later ↦
      let h : IsHeld (at + bytes_taken_by b.size) (bytes_taken_by_all bs) a = contents_within (at + bytes_taken_by b.size) bs a later in
      or_from (nat_eq a at || nat_eq a (at + 4)) (is_header (at + bytes_taken_by b.size) bs a) (no_first at a (omega (arith, h.from)))
      (no_header (at + bytes_taken_by b.size) bs a later)
]

-- An anchor is no word of a header.
pub anchor_no_header : (start end : ℕ) (bs : List Block) (a : ℕ) → start + bytes_taken_by_all bs ≤ end → AreInner start end bs → has_anchor bs a ≡ true
    → is_header start bs a ≡ false
anchor_no_header start end bs a fits inner has = elim (cases_lt a start) [
  | inl low ↦ false_from_ne_true (is_header start bs a) (λ is. let w : IsWithin start (bytes_taken_by_all bs) a = header_within start bs a is in omega (arith, w.from))
  | inr up ↦ elim (cases_lt a end) [
    | inl below ↦ no_header start bs a (inner a has up below)
    | inr high ↦ false_from_ne_true (is_header start bs a) (λ is. let w : IsWithin start (bytes_taken_by_all bs) a = header_within start bs a is in omega (arith, w.below))
  ]
]

-- they lie outside what is after all these blocks, up to the end
pub outside_behind : (mapped : ℕ → Bool) (start end : ℕ) (bs : List Block) (p : ℕ) → AreAnchorWords mapped start end bs → has_anchor bs p ≡ true
    → (p + 4 ≤ start + bytes_taken_by_all bs) ⊎ (end ≤ p)
outside_behind mapped start end [] p words has = absurd (false≢true has)
outside_behind mapped start end (b ∷ bs) p words has = elim (or_cases (nat_eq p b.anchor) (has_anchor bs p) has) [
  | inl here ↦
      let e : p ≡ b.anchor = eqb-true _ _ here in
      elim words.0.0.outside [ inl before ↦ inl (omega arith) | inr behind ↦ inr (omega arith) ]
  | inr later ↦ elim (outside_behind mapped (start + bytes_taken_by b.size) end bs p words.1 later) [
    | inl before ↦ inl (omega arith)
    | inr behind ↦ inr behind
  ]
]

-- two lists end to end, whose anchors differ
pub words_joined : (mapped : ℕ → Bool) (start end : ℕ) (xs ys : List Block) → AreAnchorWords mapped start end xs → AreAnchorWords mapped (start + bytes_taken_by_all xs) end ys
    → ((p : ℕ) → has_anchor xs p ≡ true → has_anchor ys p ≡ false) → AreAnchorWords mapped start end (xs ++ ys)
words_joined mapped start end [] ys first then apart = let e : start + 0 ≡ start = omega arith in rw e at then
words_joined mapped start end (b ∷ xs) ys first then apart =
    let e : start + (bytes_taken_by b.size + bytes_taken_by_all xs) ≡ start + bytes_taken_by b.size + bytes_taken_by_all xs = omega arith in (
      (
        first.0.0,
        anchor-append xs ys b.anchor
            ∙ or_from (has_anchor xs b.anchor) (has_anchor ys b.anchor) first.0.1 (apart b.anchor (or_left (nat_eq b.anchor b.anchor) (has_anchor xs b.anchor) (eq-eqb b.anchor b.anchor refl))),
      ),
      words_joined mapped (start + bytes_taken_by b.size) end xs ys first.1 (rw e at then) (λ p has. apart p (or_right (nat_eq p b.anchor) (has_anchor xs p) has)),
    )
