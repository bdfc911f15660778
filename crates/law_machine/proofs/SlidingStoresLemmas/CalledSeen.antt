-- What is seen of a byte outside the store before a flex call and after it, and which words are
-- anchors.
use Rattle.std.proofs.Common.{ℕ, Bool, true, false, not, nat_eq, ◌+◌, ◌%◌, ◌&&◌, ◌||◌, ◌≡◌, ◌≤◌, ◌<◌, ◌⊎◌, ◌∙◌, List, [], ◌∷◌, Option, Some, None, is_some, option_map, refl, sym, ap, subst, inl, inr, arith}
use Rattle.std.specs.Prelude.{if◌then◌else◌}
use Rattle.std.proofs.lemmas.Bool.{both_ways, cases_Bool, cases_lt, eq-eqb, eqb-false, eqb-true, false_from_ne_true, false≢true, le-leb, lt-ltb, ne_eqb}
use Rattle.address_map.specs.Bytes.{in_range, word_start}
use Rattle.os_heap.specs.Store.{Store, is_in_flex_store}
use Rattle.swi_dispatch_guest.specs.Ground.{anchors_in, spelled_store}
use Rattle.law_machine.proofs.FlexLemmas.Lists.{word_in}
use Rattle.law_machine.specs.flex.Laws.{Outside, outside_of}
use Rattle.flex_store.proofs.Keeping.{in_store}
use Rattle.flex_store.proofs.Words.{word_of}
use Rattle.flex_store.specs.Blocks.{Block, FlexStore, contents, find_block, has_anchor}
use Rattle.flex_store.specs.Calls.{FlexState}
use Rattle.flex_store.specs.Laws.{contents_in}
use Rattle.flex_store.specs.Runs.{Alloc, Extend, FlexCall, MidExtend, Release}
use Rattle.flex_store.specs.declared.flex.Extent.{Extent}
use Rattle.law_machine.proofs.SlidingStoresLemmas.Leaving.{IsCalledBy}
use Rattle.law_machine.specs.sliding_stores.FlexStore.{IsFlexRangeSpelled, IsSpelledAt, spelled_blocks}
use Rattle.law_machine.specs.sliding_stores.Meaning.{seen_byte_at}

-- what a call leaves of what is seen of a byte
abbrev pub seen_left : FlexCall → ℕ → Option ℕ → Option ℕ
seen_left (Alloc anchor size) a old = if in_range anchor 4 a then None else old
seen_left (Release anchor) a old = if in_range anchor 4 a then Some 0 else old
seen_left (Extend anchor size) a old = old
seen_left (MidExtend anchor at by) a old = old

beside : (anchor a : ℕ) → in_range anchor 4 a ≡ false → word_start a ≡ anchor → ⊥
beside anchor a outside is =
    both_ways (in_range anchor 4 a) outside (rw (le-leb anchor a (omega (arith, is)), lt-ltb a (anchor + 4) (omega (arith, is))) refl)

-- an anchor has contents
pub some_is : (anchor : ℕ) (bs : List Block) → is_some (option_map contents (find_block anchor bs)) ≡ has_anchor bs anchor
some_is anchor [] = refl
some_is anchor (b ∷ bs) = elim (cases_Bool (nat_eq b.anchor anchor)) [
  | inl here ↦ rw (here, eq-eqb anchor b.anchor (sym (eqb-true b.anchor anchor here))) refl
  | inr other ↦ rw (other, ne_eqb anchor b.anchor (λ e. eqb-false b.anchor anchor other (sym e))) (some_is anchor bs)
]

-- as a byte is seen that is of an anchor, or is not
still : (old new : Bool) (f g : ℕ) → new ≡ old → (new ≡ false → g ≡ f) → (if new then None else Some g) ≡ (if old then None else Some f)
still true true f g e same = refl
still true false f g e same = absurd (false≢true e)
still false true f g e same = absurd (false≢true (sym e))
still false false f g e same = ap (λ (n : ℕ). let o : Option ℕ = Some n in o) (same refl)

-- what a mark leaves
seen_by : (call : FlexCall) (a : ℕ) (old new : Bool) (f g : ℕ) → (outside_of call).anchor % 4 ≡ 0 → new ≡ (outside_of call).mark (word_start a) old
    → (new ≡ false → g ≡ (outside_of call).byte a f) → (if new then None else Some g) ≡ seen_left call a (if old then None else Some f)
seen_by (Alloc anchor size) a old new f g aligned mark byte = elim (cases_Bool (in_range anchor 4 a)) [
  | inl inside ↦
      let now : new ≡ true = mark ∙ ap (λ (q : Bool). q || old) (eq-eqb (word_start a) anchor (word_in anchor a aligned inside)) in
      rw (inside, now) refl
  | inr outside ↦
      let now : new ≡ old = mark ∙ ap (λ (q : Bool). q || old) (ne_eqb (word_start a) anchor (beside anchor a outside)) in
      rw outside (still old new f g now byte)
]
seen_by (Release anchor) a old new f g aligned mark byte = elim (cases_Bool (in_range anchor 4 a)) [
  | inl inside ↦
      let now : new ≡ false = mark ∙ ap (λ (q : Bool). not q && old) (eq-eqb (word_start a) anchor (word_in anchor a aligned inside)) in
      let zero : g ≡ 0 = byte now ∙ ap (λ (q : Bool). if q then 0 else f) inside in
      rw (inside, now) (ap (λ (n : ℕ). let o : Option ℕ = Some n in o) zero)
  | inr outside ↦
      let now : new ≡ old = mark ∙ ap (λ (q : Bool). not q && old) (ne_eqb (word_start a) anchor (beside anchor a outside)) in
      rw outside (still old new f g now (λ none. byte none ∙ ap (λ (q : Bool). if q then 0 else f) outside))
]
seen_by (Extend anchor size) a old new f g aligned mark byte = still old new f g mark byte
seen_by (MidExtend anchor at by) a old new f g aligned mark byte = still old new f g mark byte

module _ (s : Store) (e : Extent) (is : IsFlexRangeSpelled s e) where
  pub out_of : (a : ℕ) → is_in_flex_store s.others a ≡ false → (a < e.start) ⊎ (e.end ≤ a)
  out_of a outside = elim (cases_lt a e.start) [
    | inl low ↦ inl low
    | inr up ↦ elim (cases_lt a e.end) [
      | inl below ↦ absurd (both_ways (is_in_flex_store s.others a) outside (in_store s.others e.start e.end a is.recorded up below))
      | inr high ↦ inr high
    ]
  ]

  word_out : (a : ℕ) → is_in_flex_store s.others a ≡ false → (word_start a + 4 ≤ e.start) ⊎ (e.end ≤ word_start a)
  word_out a outside = elim (out_of a outside) [
    | inl low ↦ inl (omega (arith, low, is.range.start_aligned))
    | inr high ↦ inr (omega (arith, high, is.range.end_aligned))
  ]

  module _ (call : FlexCall) (v : FlexState) (left : IsCalledBy s e call v) where
    marks_are : (a : ℕ) → anchors_in v.flex a ≡ has_anchor left.blocks (word_start a)
    marks_are a = ap (λ (o : Option FlexStore). anchors_in o a) left.flex

    pub byte_seen : (a : ℕ) → is_in_flex_store s.others a ≡ false
        → seen_byte_at (anchors_in v.flex) v.bytes.at a ≡ seen_left call a (seen_byte_at s.anchor s.bytes.at a)
    byte_seen a outside =
        seen_by call a (s.anchor a) (anchors_in v.flex a) (s.bytes.at a) (v.bytes.at a) left.aligned
        (marks_are a ∙ (left.anchors (word_start a) (word_out a outside) ∙ ap ((outside_of call).mark (word_start a)) (sym (is.anchors a))))
        (λ none. left.bytes a (out_of a outside) (sym (marks_are a) ∙ none))

    pub byte_stays : (a : ℕ) → is_in_flex_store s.others a ≡ false → s.anchor a ≡ false → anchors_in v.flex a ≡ false → v.bytes.at a ≡ s.bytes.at a
    byte_stays a outside old new = left.kept a (out_of a outside) (sym (is.anchors a) ∙ old) (sym (marks_are a) ∙ new)

    -- whether a word outside the store has contents
    pub mark_left : (a : ℕ) → is_in_flex_store s.others a ≡ false → a % 4 ≡ 0
        → has_anchor left.blocks a ≡ (outside_of call).mark a (has_anchor (spelled_blocks s e) a)
    mark_left a outside aligned =
        let here : word_start a ≡ a = omega (arith, aligned) in
        left.anchors a (subst (λ (w : ℕ). (w + 4 ≤ e.start) ⊎ (e.end ≤ w)) here (word_out a outside))

    pub none_odd : (a : ℕ) → (a % 4 ≡ 0 → ⊥) → (has_anchor left.blocks a ≡ false) × (has_anchor (spelled_blocks s e) a ≡ false)
    none_odd a odd = (
      false_from_ne_true (has_anchor left.blocks a) (λ has. odd (word_of v.bytes.mapped e.start e.end left.blocks a left.spelled.words has).aligned),
      false_from_ne_true (has_anchor (spelled_blocks s e) a) (λ has. odd (word_of s.bytes.mapped e.start e.end (spelled_blocks s e) a is.words has).aligned),
    )

-- an anchor that has contents begins a word, which is marked
pub anchor_word : (s : Store) (o : Option Extent) (anchor : ℕ) → IsSpelledAt s o → is_some (contents_in (spelled_store s.bytes.at o) anchor) ≡ true
    → (anchor % 4 ≡ 0) × (s.anchor anchor ≡ true)
anchor_word s None anchor is some = absurd (false≢true some)
anchor_word s (Some e) anchor is some =
    let has = sym (some_is anchor (spelled_blocks s e)) ∙ some in
    let aligned : anchor % 4 ≡ 0 = (word_of s.bytes.mapped e.start e.end (spelled_blocks s e) anchor is.words has).aligned in
    let here : word_start anchor ≡ anchor = omega (arith, aligned) in
    (aligned, is.anchors anchor ∙ (ap (has_anchor (spelled_blocks s e)) here ∙ has))

-- so none of its bytes is seen
pub word_unseen : (s : Store) (o : Option Extent) (anchor a : ℕ) → IsSpelledAt s o → is_some (contents_in (spelled_store s.bytes.at o) anchor) ≡ true
    → seen_byte_at s.anchor s.bytes.at a ≡ (if in_range anchor 4 a then None else seen_byte_at s.anchor s.bytes.at a)
word_unseen s None anchor a is some = absurd (false≢true some)
word_unseen s (Some e) anchor a is some = elim (cases_Bool (in_range anchor 4 a)) [
  | inr outside ↦ rw outside refl
  | inl inside ↦
      let has = sym (some_is anchor (spelled_blocks s e)) ∙ some in
      let here : word_start a ≡ anchor = word_in anchor a (anchor_word s (Some e) anchor is some).0 inside in
      let marked : s.anchor a ≡ true = is.anchors a ∙ (ap (has_anchor (spelled_blocks s e)) here ∙ has) in
      rw (inside, marked) refl
]
