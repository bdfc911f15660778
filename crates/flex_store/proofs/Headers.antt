-- Which words the headers of a list take up, and what marks of them do to the classes of memory.
use Rattle.std.proofs.Common.{◌≡◌, ℕ, ◌+◌, ◌≤◌, Bool, true, false, ◌||◌, cond, List, [], ◌∷◌, arith, refl, nat_eq, inl, inr, ◌∙◌, sym}
use Rattle.std.proofs.lemmas.Bool.{or_cases, or_from, or_parts, or_right, eqb-true, true≢false}
use Rattle.os_heap.specs.Classes.{is_anchor, is_flex_header, is_heap_class}
use Rattle.os_heap.specs.Class.{Class}
use Rattle.os_heap.specs.Class.TheVariants as class
use Rattle.os_heap.specs.Bytes.{word_start}
use Rattle.flex_store.specs.Blocks.{Block, has_anchor, is_header, bytes_taken_by, bytes_taken_by_all}
use Rattle.flex_store.specs.Marks.{class_with_mark, with_block_marks, with_marks}

pub record IsWithin (at len a : ℕ) : Type 0 where
  pub from : at ≤ a
  pub below : a + 4 ≤ at + len

pub header_within : (at : ℕ) (bs : List Block) (a : ℕ) → is_header at bs a ≡ true → IsWithin at (bytes_taken_by_all bs) a
header_within at [] a is = absurd (true≢false (sym is))
header_within at (b ∷ bs) a is = elim (or_cases (nat_eq a at || nat_eq a (at + 4)) (is_header (at + bytes_taken_by b.size) bs a) is) [
  | inl here ↦ elim (or_cases (nat_eq a at) (nat_eq a (at + 4)) here) [
    | inl first ↦ let e : a ≡ at = eqb-true _ _ first in record { from = omega arith; below = omega arith }
    | inr second ↦ let e : a ≡ at + 4 = eqb-true _ _ second in record { from = omega arith; below = omega arith }
  ]
  | inr later ↦ let w : IsWithin (at + bytes_taken_by b.size) (bytes_taken_by_all bs) a = header_within (at + bytes_taken_by b.size) bs a later in
      record { from = omega arith; below = omega arith }
]

marked_by : (of_header of_word own : Class) (first second here later has : Bool)
    → ((here || has) ≡ true → ((first || second) || later) ≡ false)
    → cond later of_header (cond has of_word (cond here of_word (cond second of_header (cond first of_header own)))) ≡ cond ((first || second) || later) of_header (cond (here || has) of_word own)
marked_by of_header of_word own true true false true false apart = refl
marked_by of_header of_word own true true false false false apart = refl
marked_by of_header of_word own true false false true false apart = refl
marked_by of_header of_word own true false false false false apart = refl
marked_by of_header of_word own false true false true false apart = refl
marked_by of_header of_word own false true false false false apart = refl
marked_by of_header of_word own false false false true false apart = refl
marked_by of_header of_word own false false false false false apart = refl
marked_by of_header of_word own first second true later has apart = none_first first second later (apart refl) has where
  none_first : (first second later : Bool) → ((first || second) || later) ≡ false → (has : Bool)
      → cond later of_header (cond has of_word (cond true of_word (cond second of_header (cond first of_header own)))) ≡ cond ((first || second) || later) of_header (cond (true || has) of_word own)
  none_first true second later none has = absurd (true≢false none)
  none_first false true later none has = absurd (true≢false none)
  none_first false false true none has = absurd (true≢false none)
  none_first false false false none true = refl
  none_first false false false none false = refl
marked_by of_header of_word own true second false later true apart = absurd (true≢false (apart refl))
marked_by of_header of_word own false true false later true apart = absurd (true≢false (apart refl))
marked_by of_header of_word own false false false true true apart = absurd (true≢false (apart refl))
marked_by of_header of_word own false false false false true apart = refl

-- each header and each anchor that is marked, or no more, and no other word
pub marks_made : (of_header of_word : Class) (at : ℕ) (bs : List Block) (classes : ℕ → Class) (a : ℕ)
    → (has_anchor bs (word_start a) ≡ true → is_header at bs (word_start a) ≡ false)
    → with_marks of_header of_word at bs classes a ≡ class_with_mark of_header (is_header at bs (word_start a)) (class_with_mark of_word (has_anchor bs (word_start a)) (classes a))
marks_made of_header of_word at [] classes a apart = refl
marks_made of_header of_word at (b ∷ bs) classes a apart =
    let first : Bool = nat_eq (word_start a) at in
    let second : Bool = nat_eq (word_start a) (at + 4) in
    let here : Bool = nat_eq (word_start a) b.anchor in
    let later : Bool = is_header (at + bytes_taken_by b.size) bs (word_start a) in
    let has : Bool = has_anchor bs (word_start a) in
    marks_made of_header of_word (at + bytes_taken_by b.size) bs (with_block_marks of_header of_word at b.anchor classes) a
    (λ is. (or_parts (first || second) later (apart (or_right here has is))).1)
    ∙ marked_by of_header of_word (classes a) first second here later has apart

-- What becomes of a header's mark, and of an anchor's, where new blocks are marked in place of old
-- ones, after others. No word is both.
pub header_by : (own : Class) (new_header new_anchor old_header old_anchor before : Bool) → (new_anchor ≡ true → (before || new_header) ≡ false)
    → (old_header ≡ true → before ≡ false) → (old_anchor ≡ true → (before || old_header) ≡ false) → is_flex_header own ≡ (before || old_header)
    → is_flex_header (class_with_mark class.FlexHeader new_header (class_with_mark class.Anchor new_anchor (class_with_mark class.Plain old_header (class_with_mark class.Plain old_anchor own)))) ≡ (before || new_header)
header_by own true new_anchor old_header old_anchor before new old apart is = sym (or_right before true refl)
header_by own false true old_header old_anchor before new old apart is = sym (new refl)
header_by own false false true old_anchor before new old apart is = sym (or_from before false (old refl) refl)
header_by own false false false true before new old apart is = sym (apart refl)
header_by own false false false false before new old apart is = is

pub anchor_by : (own : Class) (new_header new_anchor old_header old_anchor before : Bool) → (new_header ≡ true → (before || new_anchor) ≡ false)
    → (old_header ≡ true → (before || old_anchor) ≡ false) → (old_anchor ≡ true → before ≡ false) → is_anchor own ≡ (before || old_anchor)
    → is_anchor (class_with_mark class.FlexHeader new_header (class_with_mark class.Anchor new_anchor (class_with_mark class.Plain old_header (class_with_mark class.Plain old_anchor own)))) ≡ (before || new_anchor)
anchor_by own true new_anchor old_header old_anchor before new old apart is = sym (new refl)
anchor_by own false true old_header old_anchor before new old apart is = sym (or_right before true refl)
anchor_by own false false true old_anchor before new old apart is = sym (or_from before false (or_parts before old_anchor (old refl)).0 refl)
anchor_by own false false false true before new old apart is = sym (or_from before false (apart refl) refl)
anchor_by own false false false false before new old apart is = is

pub heap_by : (own : Class) (new_header new_anchor old_header old_anchor : Bool) → ((new_header || (new_anchor || (old_header || old_anchor))) ≡ true → is_heap_class own ≡ false)
    → is_heap_class (class_with_mark class.FlexHeader new_header (class_with_mark class.Anchor new_anchor (class_with_mark class.Plain old_header (class_with_mark class.Plain old_anchor own)))) ≡ is_heap_class own
heap_by own true new_anchor old_header old_anchor clear = sym (clear refl)
heap_by own false true old_header old_anchor clear = sym (clear refl)
heap_by own false false true old_anchor clear = sym (clear refl)
heap_by own false false false true clear = sym (clear refl)
heap_by own false false false false clear = refl
