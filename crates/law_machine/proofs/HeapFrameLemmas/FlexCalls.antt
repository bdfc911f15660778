-- The flex calls keep a heap in which no anchor lies.
use Rattle.std.proofs.Common.{ℕ, ◌+◌, ◌%◌, ◌≡◌, ◌≤◌, ◌<◌, ◌∙◌, Bool, true, false, Option, Some, None, Result, Ok, refl, sym, ap, subst, inl, inr, arith}
use Rattle.std.proofs.lemmas.Bool.{both_ways, cases_Bool, false_from_ne_true, le-leb, lt-ltb}
use Rattle.address_map.specs.Bytes.{Bytes, in_range, word_start}
use Rattle.os_heap_words.specs.lists.Heap.{HeapList, IsHeapIn}
use Rattle.os_heap.proofs.Anchored.{header_outside}
use Rattle.os_heap.proofs.Apart.{range_parts}
use Rattle.os_heap.proofs.Found.{found_heap}
use Rattle.os_heap.specs.Store.{Store, find_heap, is_in_flex_store}
use Rattle.profile.specs.ErrorNumber.{ErrorNumber}
use Rattle.flex_store.specs.Blocks.{FlexStore}
use Rattle.flex_store.specs.Calls.{FlexState, flex_after_init, flex_after_init_over, is_flex_range, with_flex_range}
use Rattle.flex_store.specs.declared.flex.Extent.{Extent}
use Rattle.flex_store.specs.declared.flex.Flex.{Flex}
use Rattle.flex_store.proofs.Words.{word_of}
use Rattle.flex_store.specs.Runs.{Alloc, Extend, FlexCall, IsFlexCallDone, MidExtend, Release}
use Rattle.law_machine.specs.sliding_stores.Ground.{anchors_in, flex_state, spelled_store, store_flexed, with_flex_record}
use Rattle.law_machine.proofs.SlidingStoresLemmas.CalledSeen.{out_of}
use Rattle.law_machine.specs.sliding_stores.FlexStore.{IsSpelledAt, spelled_blocks}
use Rattle.law_machine.proofs.HeapFrameLemmas.FlexBesides.{HasAligned, IsBeside, IsStill}
use Rattle.law_machine.proofs.HeapFrameLemmas.FlexStill.{IsUnnamed, call_still}
use Rattle.law_machine.specs.heap_frame.FlexLaws.{FlexCallsKeepHeap, FlexInitKeepsHeap, IsFreeOfAnchors, NamesOutside}
use Rattle.law_machine.specs.heap_calls.Laws.{KeepsHeap}

-- a byte of a heap is in the word of another anchor than one that stands out of it
other_anchor : (b : Bytes) (h : HeapList) (a anchor : ℕ) → IsHeapIn b h.start h.end h.items → anchor % 4 ≡ 0 → in_range h.start h.end anchor ≡ false
    → in_range h.start h.end a ≡ true → word_start a ≡ anchor → ⊥
other_anchor b h a anchor heap aligned out inside same =
    let parts : (h.start ≤ a) × (a < h.start + h.end) = range_parts h.start h.end a inside in
    let low : h.start ≤ anchor = omega (arith, parts.0, same, heap.aligned) in
    let high : anchor < h.start + h.end = omega (arith, parts.1, same) in
    both_ways (in_range h.start h.end anchor) out (rw (le-leb h.start anchor low, lt-ltb anchor (h.start + h.end) high) refl)

-- the anchors of a store that memory spells
pub anchors_are : (s : Store) (o : Option Extent) (a : ℕ) → IsSpelledAt s o → anchors_in (spelled_store s.bytes.at o) a ≡ s.anchor a
anchors_are s None a is = sym (is.anchors a)
anchors_are s (Some e) a is = sym (is.anchors a)

pub spelled_aligned : (s : Store) (o : Option Extent) → IsSpelledAt s o → HasAligned (spelled_store s.bytes.at o)
spelled_aligned s None is = tt
spelled_aligned s (Some e) is = λ p has. (word_of s.bytes.mapped e.start e.end (spelled_blocks s e) p is.words has).aligned

-- a byte that is neither the store's nor of an anchor
pub beside_in : (s : Store) (o : Option Extent) (a : ℕ) → IsSpelledAt s o → is_in_flex_store s.others a ≡ false → s.anchor a ≡ false
    → IsBeside (spelled_store s.bytes.at o) a
beside_in s None a is outside none = tt
beside_in s (Some e) a is outside none = record {
  whole = is.whole;
  aligned = spelled_aligned s (Some e) is;
  fits = is.fits;
  even = is.range.end_aligned;
  out = out_of s e is a outside;
  none = sym (is.anchors a) ∙ none;
}

unnamed : (b : Bytes) (h : HeapList) (a : ℕ) (call : FlexCall) (v : FlexState) → IsHeapIn b h.start h.end h.items → in_range h.start h.end a ≡ true
    → NamesOutside h call
    → IsUnnamed call v a
unnamed b h a (Alloc anchor size) v heap inside out = inr (λ aligned same. other_anchor b h a anchor heap aligned out inside same)
unnamed b h a (Release anchor) v heap inside out = tt
unnamed b h a (Extend anchor size) v heap inside out = tt
unnamed b h a (MidExtend anchor at by) v heap inside out = tt

-- a byte of a heap in which no anchor lies
pub call_beside : (s : Store) (f : Flex) (call : FlexCall) (answer : Bool) (v : FlexState) (h : HeapList) (a : ℕ) → IsSpelledAt s f.extent → IsFreeOfAnchors h s
    → NamesOutside h call → IsFlexCallDone (flex_state s f) call answer v → HasAligned v.flex → in_range h.start h.end a ≡ true → IsStill a (flex_state s f) v
call_beside s f call answer v h a old free out done aligned inside =
    let heap : IsHeapIn s.bytes h.start h.end h.items = found_heap s.bytes h.start s.heaps h free.sound.heaps free.found in
    let outside : is_in_flex_store s.others a ≡ false = false_from_ne_true (is_in_flex_store s.others a) (λ is.
    both_ways (in_range h.start h.end a) (header_outside h.start s.heaps s.others h a free.sound.placed free.found is) inside) in
    call_still a (flex_state s f) v call answer done aligned
    (beside_in s f.extent a old outside (free.anchors a inside)) (unnamed s.bytes h a call v heap inside out)

pub flex_calls_keep : FlexCallsKeepHeap
flex_calls_keep s t f g call answer h d free out =
    let still : (a : ℕ) → in_range h.start h.end a ≡ true → IsStill a (flex_state s f) (flex_state t g) = λ a inside.
    call_beside s f call answer (flex_state t g) h a d.old free out d.done (spelled_aligned t g.extent d.new) inside in
    record {
      found = ap (find_heap h.start) d.heaps ∙ free.found;
      bytes = λ a inside. (still a inside).byte;
      anchors = λ a inside. sym (anchors_are t g.extent a d.new) ∙ ((still a inside).none ∙ sym (free.anchors a inside));
    }

-- one answer is given
abbrev Same : FlexState × Unit {0} → FlexState × Unit {0} → Type 0
Same p q =
    let one : Result (FlexState × Unit {0}) ErrorNumber = Ok p in
    let two : Result (FlexState × Unit {0}) ErrorNumber = Ok q in
    one ≡ two

same_pair : (p q : FlexState × Unit {0}) → Same p q → p ≡ q
same_pair p q e = cc

-- a store that has begun has no block, and so no anchor
begun_keeps : (s : Store) (t : FlexState) (o : Option FlexStore) (start end : ℕ) (v : FlexState) (h : HeapList) → t.bytes ≡ s.bytes → IsFreeOfAnchors h s
    → flex_after_init_over s t start end o ≡ Ok (v, tt) → KeepsHeap h s (store_flexed (with_flex_record s start end) v)
begun_keeps s t (Some k) start end v h same free is = absurd (cc)
begun_keeps s t None start end v h same free is = elim (cases_Bool (is_flex_range s start end)) [
  | inr bad ↦ let is' = rw bad at is in absurd (cc)
  | inl may ↦
      let first : FlexState × Unit {0} = (with_flex_range t start end, tt) in
      let given : FlexState × Unit {0} = (v, tt) in
      let done : Same first given = rw may at is in
      subst (λ (p : FlexState × Unit {0}). KeepsHeap h s (store_flexed (with_flex_record s start end) p.0)) (same_pair first given done) (record {
        found = free.found;
        bytes = λ a inside. ap (λ (b : Bytes). b.at a) same;
        anchors = λ a inside. sym (free.anchors a inside);
      })
]

pub flex_init_keeps : FlexInitKeepsHeap
unfolding flex_after_init
flex_init_keeps s f start end v h free is = begun_keeps s (flex_state s f) (spelled_store s.bytes.at f.extent) start end v h refl free is
