-- Calls on the flex store keep all heaps, and what holds of them.
use Rattle.std.proofs.Common.{◌≡◌, ℕ, ◌+◌, ◌-◌, ◌%◌, ◌≤◌, ◌<◌, ◌&&◌, ◌==◌, not, true, false, List, [], ◌∷◌, Option, Some, refl, sym, ap, ◌∙◌, arith, inl, inr}
use Rattle.std.specs.List.{list_any}
use Rattle.std.proofs.lemmas.Bool.{and_parts, cases_Bool, eqb-true, false≢true, le-leb, lt-ltb, not-true, or_left, or_right}
use Rattle.os_heap.proofs.Bytes.{is_mapped-page}
use Rattle.os_heap.specs.Bytes.{Bytes, in_range, shares_address, word_start}
use Rattle.os_heap.specs.Classes.{is_anchor, is_flex_header, is_heap_class}
use Rattle.os_heap.specs.Memory.{class_of, is_mapped}
use Rattle.os_heap.specs.AddressMap.{AddressMap}
use Rattle.os_heap.specs.Region.{Region}
use Rattle.os_heap.proofs.Anchored.{not_flex}
use Rattle.os_heap.proofs.Stores.{image_kind, placed_either}
use Rattle.os_heap_words.specs.lists.Heap.{HeapList}
use Rattle.os_heap.proofs.FlexSound.{flex_unspelled, IsSoundFlexed, place_unspelled, sound_flexed}
use Rattle.os_heap.proofs.Frame.{layout-others, store_bytes}
use Rattle.os_heap.proofs.PayloadLemmas.{anchor_placed}
use Rattle.os_heap.specs.Payloads.{is_other, payload_of}
use Rattle.os_heap.specs.Store.{AreClasses, ArePlaced, IsAnchorPlace, IsClearOfHeaps, is_flex_store, is_in_flex_store, IsSound, Store, store_of}
use Rattle.flex_store.specs.declared.flex.Extent.{Extent}
use Rattle.flex_store.specs.Blocks.{bytes_taken_by_all}
use Rattle.flex_store.specs.Calls.{is_anchor_place}
use Rattle.flex_store.specs.Kept.{AreAnchorsAllowed, IsFlexMap, KeepsLayoutAndHeaps}
use Rattle.flex_store.specs.State.{blocks_of, HasNoHead, IsRecordedStore, is_recorded, is_store_record, KeepsBesidesFlex, KeepsHeads}
use Rattle.flex_store.proofs.Headers.{IsWithin, header_within}

-- what holds of a word that may be an anchor
pub record IsPlace (s : Store) (a : ℕ) : Type 0 where
  pub aligned : a % 4 ≡ 0
  pub mapped : s.bytes.mapped a ≡ true
  pub held : is_other (payload_of s.heaps a) ≡ false

pub place_parts : (s : Store) (a : ℕ) → is_anchor_place s a ≡ true → IsPlace s a
unfolding is_anchor_place
place_parts s a place =
    let one = and_parts ((a % 4) == 0 && s.bytes.mapped a) (not (list_any (λ r. not (is_flex_store r.kind) && shares_address a 4 r.at r.len) s.others) && not (is_other (payload_of s.heaps a))) place in
    let two = and_parts ((a % 4) == 0) (s.bytes.mapped a) one.0 in
    let three = and_parts (not (list_any (λ r. not (is_flex_store r.kind) && shares_address a 4 r.at r.len) s.others)) (not (is_other (payload_of s.heaps a))) one.1 in
    record { aligned = eqb-true (a % 4) 0 two.0; mapped = two.1; held = not-true (is_other (payload_of s.heaps a)) three.1 }

-- each byte of such a word
pub place_byte : (m : AddressMap) (a : ℕ) → IsSound (store_of m) → is_anchor_place (store_of m) (word_start a) ≡ true
    → (is_mapped m a ≡ true) × IsAnchorPlace (store_of m).heaps a
place_byte m a sound place =
    let p : IsPlace (store_of m) (word_start a) = place_parts (store_of m) (word_start a) place in
    let there : is_mapped m (word_start a) ≡ true = ap (λ (b : Bytes). b.mapped (word_start a)) (sym (store_bytes m)) ∙ p.mapped in (
      is_mapped-page m a (word_start a) (omega arith) ∙ there,
      anchor_placed (store_of m).bytes (store_of m).heaps (word_start a) a sound.heaps p.aligned refl p.held,
    )

-- it is no word of a heap
pub place_headless : (m : AddressMap) (anchor : ℕ) → IsSound (store_of m) → AreClasses m → is_anchor_place (store_of m) anchor ≡ true
    → is_heap_class (class_of m anchor) ≡ false
place_headless m anchor sound classes place =
    let p : IsPlace (store_of m) anchor = place_parts (store_of m) anchor place in
    let here : word_start anchor ≡ anchor = omega (arith, p.aligned) in
    classes anchor ∙ place_unspelled (store_of m).bytes (store_of m).heaps anchor sound.heaps
    (anchor_placed (store_of m).bytes (store_of m).heaps anchor anchor sound.heaps p.aligned here p.held)

-- the recorded range of the store
pub in_record : (start end a : ℕ) (r : Region) → is_store_record start end r ≡ true → start ≤ a → a < end → (is_flex_store r.kind && in_range r.at r.len a) ≡ true
in_record start end a r is low high =
    let parts = and_parts (is_flex_store r.kind) (r.at == start && r.len == end - start) is in
    let place = and_parts (r.at == start) (r.len == end - start) parts.1 in
    let at : r.at ≡ start = eqb-true r.at start place.0 in
    let len : r.len ≡ end - start = eqb-true r.len (end - start) place.1 in
    rw (parts.0, le-leb r.at a (omega arith), lt-ltb a (r.at + r.len) (omega arith)) refl

pub in_store : (rs : List Region) (start end a : ℕ) → is_recorded rs start end ≡ true → start ≤ a → a < end → is_in_flex_store rs a ≡ true
in_store [] start end a is low high = absurd (false≢true is)
in_store (r ∷ rs) start end a is low high = elim (cases_Bool (is_store_record start end r)) [
  | inl here ↦ or_left (is_flex_store r.kind && in_range r.at r.len a) (is_in_flex_store rs a) (in_record start end a r here low high)
  | inr other ↦ or_right (is_flex_store r.kind && in_range r.at r.len a) (is_in_flex_store rs a) (in_store rs start end a (rw other at is) low high)
]

pub in_extent : (m : AddressMap) (e : Extent) (a : ℕ) → IsRecordedStore m e → e.start ≤ a → a < e.end → is_in_flex_store (store_of m).others a ≡ true
in_extent m e a is low high = in_store (store_of m).others e.start e.end a is.recorded low high

no_head : (m : AddressMap) (e : Extent) → IsSound (store_of m) → AreClasses m → IsRecordedStore m e → HasNoHead m (Some e)
no_head m e sound classes is =
    λ a low high. classes a ∙ flex_unspelled (store_of m).bytes (store_of m).heaps (store_of m).others a sound.heaps sound.placed (in_extent m e a is low high)

-- no heap lies in the store
clear_place : (at len : ℕ) (hs : List HeapList) (a : ℕ) → IsClearOfHeaps at len hs → in_range at len a ≡ true → IsAnchorPlace hs a
clear_place at len [] a clear inside = tt
clear_place at len (h ∷ hs) a clear inside = (inl (clear.0 a inside), clear_place at len hs a clear.1 inside)

pub store_place : (hs : List HeapList) (rs : List Region) (a : ℕ) → ArePlaced hs rs → is_in_flex_store rs a ≡ true → IsAnchorPlace hs a
store_place hs [] a placed is = absurd (false≢true is)
store_place hs (r ∷ rs) a placed is = elim (cases_Bool (is_flex_store r.kind && in_range r.at r.len a)) [
  | inr other ↦ store_place hs rs a placed.1 (rw other at is)
  | inl here ↦
      let parts = and_parts (is_flex_store r.kind) (in_range r.at r.len a) here in
      elim (placed_either hs r placed.0) [
        | inl clear ↦ clear_place r.at r.len hs a clear parts.1
        | inr image ↦ absurd (not_flex r.kind parts.0 (image_kind hs r image))
      ]
]

pub store_anchor : (m : AddressMap) (a : ℕ) → (store_of m).anchor a ≡ is_anchor (class_of m a)
unfolding store_of
store_anchor m a = refl

inside_place : (m : AddressMap) (e : Extent) (a : ℕ) → IsSound (store_of m) → IsRecordedStore m e → e.start ≤ word_start a → word_start a < e.end
    → (is_mapped m a ≡ true) × IsAnchorPlace (store_of m).heaps a
inside_place m e a sound is low high =
    let aligned : e.end % 4 ≡ 0 = is.held.store.range.end_aligned in
    let up : e.start ≤ a = omega arith in
    let below : a < e.end = omega arith in (
      is.held.store.range.there a up (omega arith),
      store_place (store_of m).heaps (store_of m).others a sound.placed (in_extent m e a is up below),
    )

-- an anchor after a call
kept_anchor : (m n : AddressMap) (e f : Extent) → IsSound (store_of m) → IsRecordedStore m e → KeepsBesidesFlex m e n f → (a : ℕ) → is_anchor (class_of n a) ≡ true
    → (is_mapped m a ≡ true) × IsAnchorPlace (store_of m).heaps a
kept_anchor m n e f sound is k a anchor =
    elim (k.anchors (word_start a) (sym (k.store.store.anchors a) ∙ anchor)) [
      | inl was ↦
          let old : (store_of m).anchor a ≡ true = store_anchor m a ∙ (is.held.store.anchors a ∙ was) in
          (ap (λ (b : Bytes). b.mapped a) (sym (store_bytes m)) ∙ (sound.anchors a old).0, (sound.anchors a old).1)
      | inr other ↦ elim other [
        | inl new ↦ place_byte m a sound new
        | inr within ↦ inside_place m e a sound is within.0 within.1
      ]
    ]

kept_header : (m n : AddressMap) (e f : Extent) → IsRecordedStore m e → KeepsBesidesFlex m e n f → (a : ℕ) → is_flex_header (class_of n a) ≡ true
    → is_in_flex_store (store_of m).others a ≡ true
kept_header m n e f is k a header =
    let inside : IsWithin f.start (bytes_taken_by_all (blocks_of n f)) (word_start a) =
    header_within f.start (blocks_of n f) (word_start a) (sym (k.store.store.headers a) ∙ header) in
    let fits : f.start + bytes_taken_by_all (blocks_of n f) ≤ f.end = k.store.store.fits in
    let whole : f.end % 4 ≡ 0 = k.store.store.range.end_aligned in
    let start : f.start ≡ e.start = k.start in
    let end : f.end ≡ e.end = k.end in
    in_extent m e a is (omega (arith, inside.from)) (omega (arith, inside.below))

kept : (m n : AddressMap) (e f : Extent) → IsSound (store_of m) → AreClasses m → IsRecordedStore m e → KeepsBesidesFlex m e n f → IsSoundFlexed m n
kept m n e f sound classes is k =
    let h : KeepsHeads m n = k.heads (no_head m e sound classes is) in
    sound_flexed m n sound classes (record {
      same = k.same;
      bytes = h.bytes;
      heads = h.classes;
      anchors = kept_anchor m n e f sound is k;
      headers = kept_header m n e f is k;
    })

-- the store stays recorded
kept_flex : (m n : AddressMap) (e f : Extent) → IsRecordedStore m e → KeepsBesidesFlex m e n f → IsRecordedStore n f
kept_flex m n e f is k = record {
  held = k.store;
  recorded = rw (layout-others m n k.same, k.start, k.end) is.recorded;
}

-- Each anchor was one, or its word may be one, or it lies in the store.
kept_anchors : (m n : AddressMap) (e f : Extent) → IsRecordedStore m e → KeepsBesidesFlex m e n f → AreAnchorsAllowed m n
kept_anchors m n e f is k a anchor =
    elim (k.anchors (word_start a) (sym (k.store.store.anchors a) ∙ (sym (store_anchor n a) ∙ anchor))) [
      | inl was ↦ inl (store_anchor m a ∙ (is.held.store.anchors a ∙ was))
      | inr other ↦ elim other [
        | inl new ↦ inr (inl new)
        | inr within ↦
            let aligned : e.end % 4 ≡ 0 = is.held.store.range.end_aligned in
            inr (inr (in_extent m e a is (omega (arith, within.0)) (omega (arith, within.1))))
      ]
    ]

-- what a call on the store keeps
pub kept_map : (m n : AddressMap) (e f : Extent) → IsFlexMap m (Some e) → KeepsBesidesFlex m e n f → KeepsLayoutAndHeaps m n (Some f)
kept_map m n e f is k =
    let s : IsSoundFlexed m n = kept m n e f is.sound is.classes is.flex k in
    record {
      flex = kept_flex m n e f is.flex k;
      sound = s.sound;
      classes = s.classes;
      layout = k.same;
      heaps = s.heaps;
      anchors = kept_anchors m n e f is.flex k;
    }

-- and one that is refused before there is a store
pub kept_same : (m : AddressMap) (o : Option Extent) → IsFlexMap m o → KeepsLayoutAndHeaps m m o
kept_same m o is = record {
  flex = is.flex;
  sound = is.sound;
  classes = is.classes;
  layout = refl;
  heaps = refl;
  anchors = λ a was. inl was;
}

pub ruleset keeping = (kept_map, kept_same)
