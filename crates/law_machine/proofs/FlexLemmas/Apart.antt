-- The places of anchors differ, and each lies in a block before its own.
use Rattle.std.proofs.Common.{◌≡◌, ℕ, Bool, suc, ◌+◌, ◌-◌, ◌<◌, ◌≤◌, false, nat_eq, List, [], ◌∷◌, ◌++◌, length, arith, refl, sym, ◌∙◌, ap, inl, inr, subst}
use Rattle.std.proofs.lemmas.Bool.{cases_Bool, or_parts, eqb-false}
use Rattle.flex_store.specs.Blocks.{Block, has_anchor, is_held_word, bytes_taken_by, bytes_taken_by_all}
use Rattle.flex_store.specs.Calls.{is_anchor_byte}
use Rattle.flex_store.specs.State.{AreAnchorWords}
use Rattle.flex_store.proofs.Lists.{used-append}
use Rattle.flex_store.proofs.Words.{held_word}
use Rattle.law_machine.specs.flex.Laws.{AnchorsAreApart}
use Rattle.law_machine.specs.flex.Numbered.{Anchor, anchor_from, AreElsewhere, AreNumbered, Fixed, Inside, IsBeforeBlock, list_seen, anchor_place_of}
use Rattle.law_machine.proofs.FlexLemmas.Numbers.{AtWord, found, from_front, from_none, InBlock, IsFound}

pub fixed_same : (a c : ℕ) → Fixed a ≡ Fixed c → a ≡ c
fixed_same a c e = cc

pub fixed_inside : (a m o : ℕ) → Fixed a ≡ Inside m o → ⊥
fixed_inside a m o e = cc

pub inside_number : (m o n p : ℕ) → Inside m o ≡ Inside n p → m ≡ n
inside_number m o n p e = cc

pub inside_offset : (m o n p : ℕ) → Inside m o ≡ Inside n p → o ≡ p
inside_offset m o n p e = cc

-- a place in a block that is none in those after it
no_later : (n o end a : ℕ) (x : Anchor) → IsFound (suc n) end a x → Inside n o ≡ x → ⊥
no_later n o end a x (AtWord is) e = fixed_inside a n o (sym is ∙ sym e)
no_later n o end a x (InBlock m p is low high) e = let same : n ≡ m = inside_number n o m p (e ∙ is) in omega (arith, same, low)

pub place_same : (n h : ℕ) (bs : List Block) (a c : ℕ) → anchor_from n h bs a ≡ anchor_from n h bs c → a ≡ c
place_same n h [] a c e = fixed_same a c e
place_same n h (b ∷ bs) a c e = elim (cases_Bool (is_held_word h b a)) [
  | inl one ↦ elim (cases_Bool (is_held_word h b c)) [
    | inl two ↦
        let at = held_word h b a one in
        let to = held_word h b c two in
        let same : a - (h + 8) ≡ c - (h + 8) = inside_offset n (a - (h + 8)) n (c - (h + 8)) (rw (one, two) at e) in
        omega (arith, at.0, to.0, same)
    | inr other ↦ absurd (no_later n (a - (h + 8)) (suc n + length bs) c (anchor_from (suc n) (h + bytes_taken_by b.size) bs c) (found (suc n) (h + bytes_taken_by b.size) bs c) (rw (one, other) at e))
  ]
  | inr none ↦ elim (cases_Bool (is_held_word h b c)) [
    | inl two ↦ absurd (no_later n (c - (h + 8)) (suc n + length bs) a (anchor_from (suc n) (h + bytes_taken_by b.size) bs a) (found (suc n) (h + bytes_taken_by b.size) bs a) (sym (rw (none, two) at e)))
    | inr other ↦ place_same (suc n) (h + bytes_taken_by b.size) bs a c (rw (none, other) at e)
  ]
]

before_found : (number a : ℕ) (x : Anchor) → IsFound 0 (0 + number) a x → IsBeforeBlock number x
before_found number a x (AtWord is) = subst (IsBeforeBlock number) (sym is) tt
before_found number a x (InBlock m o is low high) =
    let below : m < number = omega (arith, high) in
    subst (IsBeforeBlock number) (sym is) below

elsewhere : (A : ℕ → Bool) (start : ℕ) (all : List Block) (h a : ℕ) (ys : List Block) → has_anchor ys a ≡ false
    → AreElsewhere (anchor_from 0 start all a) (list_seen A (λ q. anchor_from 0 start all q) h ys)
elsewhere A start all h a [] none = tt
elsewhere A start all h a (b ∷ ys) none =
    let parts = or_parts (nat_eq a b.anchor) (has_anchor ys a) none in (
      λ same. eqb-false a b.anchor parts.0 (sym (place_same 0 start all b.anchor a same)),
      elsewhere A start all (h + bytes_taken_by b.size) a ys parts.1,
    )

numbered : (A : ℕ → Bool) (mapped : ℕ → Bool) (start end : ℕ) (all xs ys : List Block) → all ≡ xs ++ ys → AreAnchorWords mapped (start + bytes_taken_by_all xs) end ys
    → start + bytes_taken_by_all all ≤ end → AreNumbered (length xs) (list_seen A (λ q. anchor_from 0 start all q) (start + bytes_taken_by_all xs) ys)
numbered A mapped start end all xs [] is words fits = tt
numbered A mapped start end all xs (b ∷ ys) is words fits =
    let own : IsBeforeBlock (length xs) (anchor_from 0 start all b.anchor) = elim words.0.0.outside [
      | inl low ↦
          let same : anchor_from 0 start all b.anchor ≡ anchor_from 0 start xs b.anchor =
          ap (λ (l : List Block). anchor_from 0 start l b.anchor) is ∙ from_front 0 start xs (b ∷ ys) b.anchor low in
          subst (IsBeforeBlock (length xs)) (sym same) (before_found (length xs) b.anchor (anchor_from 0 start xs b.anchor) (found 0 start xs b.anchor))
      | inr past ↦ subst (IsBeforeBlock (length xs)) (sym (from_none 0 start all b.anchor (inr (omega (arith, past, fits))))) tt
    ] in
    let at : start + bytes_taken_by_all (xs ++ b ∷ []) ≡ start + bytes_taken_by_all xs + bytes_taken_by b.size = omega (arith, used-append xs (b ∷ [])) in
    let number : length (xs ++ b ∷ []) ≡ suc (length xs) = longer xs b in
    let rest : AreNumbered (length (xs ++ b ∷ [])) (list_seen A (λ q. anchor_from 0 start all q) (start + bytes_taken_by_all (xs ++ b ∷ [])) ys) =
    numbered A mapped start end all (xs ++ b ∷ []) ys (is ∙ moved xs b ys) (subst (λ (n : ℕ). AreAnchorWords mapped n end ys) (sym at) words.1) fits in
    (own, (elsewhere A start all (start + bytes_taken_by_all xs + bytes_taken_by b.size) b.anchor ys words.0.1, rw (number, at) at rest)) where
      longer : (xs : List Block) (b : Block) → length (xs ++ b ∷ []) ≡ suc (length xs)
      longer [] b = refl
      longer (x ∷ xs) b = ap suc (longer xs b)

      moved : (xs : List Block) (b : Block) (ys : List Block) → xs ++ b ∷ ys ≡ (xs ++ b ∷ []) ++ ys
      moved [] b ys = refl
      moved (x ∷ xs) b ys = ap (λ (l : List Block). x ∷ l) (moved xs b ys)

pub anchors_are_apart : AnchorsAreApart
anchors_are_apart t s sp =
    let e : s.start + 0 ≡ s.start = omega arith in
    let words : AreAnchorWords t.bytes.mapped (s.start + 0) s.end s.blocks = subst (λ (n : ℕ). AreAnchorWords t.bytes.mapped n s.end s.blocks) (sym e) sp.words in
    subst (λ (n : ℕ). AreNumbered 0 (list_seen (is_anchor_byte s) (anchor_place_of s) n s.blocks)) e
    (numbered (is_anchor_byte s) t.bytes.mapped s.start s.end s.blocks [] s.blocks refl words sp.fits)
