-- A sound store after the flex store's words changed: no word of a heap did, each anchor lies where one may, and each header in the flex store.
use Rattle.std.proofs.Common.{◌≡◌, ℕ, ◌+◌, ◌%◌, ◌≤◌, ◌<◌, ◌&&◌, true, false, List, [], ◌∷◌, refl, sym, ap, ◌∙◌, arith, inl, inr}
use Rattle.std.proofs.lemmas.Bool.{and_parts, both_ways, cases_Bool, false_from_ne_true, false≢true, ltb-true, or_from}
use Rattle.os_heap_words.proofs.Bytes.{is_mapped-layout}
use Rattle.os_heap_words.specs.Bytes.{Bytes, in_range, word_start}
use Rattle.os_heap_words.specs.Classes.{is_anchor, is_flex_header, is_heap_class}
use Rattle.os_heap_words.specs.Items.{is_head, is_heap_word, size_of}
use Rattle.os_heap_words.specs.Memory.{byte_at, bytes_of, class_of, is_mapped, layout, regions}
use Rattle.os_heap_words.specs.AddressMap.{AddressMap}
use Rattle.os_heap_words.specs.Region.{Region}
use Rattle.os_heap.proofs.Anchored.{IsPlacedBy, not_flex}
use Rattle.os_heap.proofs.Frame.{clear_unowned, heaps_in-spelled, layout-regions, parts_kept}
use Rattle.os_heap.proofs.Stores.{image_kind, placed_either}
use Rattle.os_heap.specs.Store.{AreClasses, AreHeapsIn, ArePlaced, heaps_in, IsAnchorPlace, is_flex_store, is_in_flex_store, IsSound, store_of}
use Rattle.os_heap_words.proofs.ListsLemmas.HeadWords.{byte_inside}
use Rattle.os_heap_words.proofs.ListsLemmas.LiveBlocks.{LiveBytes, law_live_bytes, live_unspelled}
use Rattle.os_heap_words.specs.lists.Heap.{HeapList, IsHeapIn}
use Rattle.os_heap_words.specs.lists.Marks.{spells_any}

-- what a call on the flex store did to memory
pub record IsFlexed (m n : AddressMap) : Type 0 where
  pub same : layout n ≡ layout m
  pub bytes : (a : ℕ) → is_heap_class (class_of m a) ≡ true → byte_at n a ≡ byte_at m a
  pub heads : (a : ℕ) → is_heap_class (class_of n a) ≡ is_heap_class (class_of m a)
  pub anchors : (a : ℕ) → is_anchor (class_of n a) ≡ true → (is_mapped m a ≡ true) × IsAnchorPlace (store_of m).heaps a
  pub headers : (a : ℕ) → is_flex_header (class_of n a) ≡ true → is_in_flex_store (store_of m).others a ≡ true

pub record IsSoundFlexed (m n : AddressMap) : Type 0 where
  pub heaps : (store_of n).heaps ≡ (store_of m).heaps
  pub sound : IsSound (store_of n)
  pub classes : AreClasses n

heaps_flexed : (m n : AddressMap) → IsSound (store_of m) → AreClasses m → IsFlexed m n → AreHeapsIn (bytes_of n) (store_of m).heaps
unfolding store_of
heaps_flexed m n sound classes f =
    parts_kept (bytes_of m) (bytes_of n) (store_of m).heaps (is_mapped-layout m n f.same) (λ a is. f.bytes a (classes a ∙ is)) sound.heaps

pub sound_flexed : (m n : AddressMap) → IsSound (store_of m) → AreClasses m → IsFlexed m n → IsSoundFlexed m n
unfolding store_of
sound_flexed m n sound classes f =
    let parts : AreHeapsIn (bytes_of n) (heaps_in (bytes_of m) (regions m)) = heaps_flexed m n sound classes f in
    let records : regions n ≡ regions m = layout-regions m n f.same in
    let heaps : heaps_in (bytes_of n) (regions m) ≡ heaps_in (bytes_of m) (regions m) = heaps_in-spelled (bytes_of m) (bytes_of n) (regions m) parts in
    record {
      heaps = rw records heaps;
      sound = rw (records, heaps) (record {
        heaps = parts;
        limits = sound.limits;
        placed = sound.placed;
        apart = sound.apart;
        few = sound.few;
        anchors = λ a is. (ap (λ (q : ℕ → _). q a) (is_mapped-layout m n f.same) ∙ (f.anchors a is).0, (f.anchors a is).1);
        headers = λ a is. f.headers a is;
      });
      classes = λ a. f.heads a ∙ (classes a ∙ ap (λ (hs : List HeapList). spells_any hs (word_start a)) (sym (rw records heaps)));
    }

-- no word of a heap lies where an anchor may, or in the flex store
descriptor_past : (start p : ℕ) → start + 16 ≤ p → in_range start 16 p ≡ false
descriptor_past start p past = false_from_ne_true _ (λ inside. let parts = and_parts _ _ inside in
    let high : p < start + 16 = ltb-true p (start + 16) parts.1 in
    omega arith)

placed_unspelled : (b : Bytes) (h : HeapList) (a : ℕ) → IsHeapIn b h.start h.end h.items → IsPlacedBy h a → is_heap_word h.start h.items (word_start a) ≡ false
placed_unspelled b h a heap (inl out) =
    false_from_ne_true _ (λ is. both_ways (in_range h.start h.end a) out (byte_inside b h.start h.end h.items a heap is))
placed_unspelled b h a heap (inr held) =
    let bytes : LiveBytes held.block held.total (h.start + 16) (h.start + 16 + size_of h.items) =
    law_live_bytes held.block held.total (h.start + 16) h.items heap.totals held.live in
    let whole : held.block % 4 ≡ 0 = bytes.whole (omega (arith, heap.aligned)) in
    or_from (in_range h.start 16 (word_start a)) (is_head (h.start + 16) h.items (word_start a))
    (descriptor_past h.start (word_start a) (omega (arith, bytes.low, held.low)))
    (live_unspelled held.block held.total (h.start + 16) h.items (word_start a) heap.totals held.live (omega (arith, held.low)) (omega (arith, held.high)))

pub place_unspelled : (b : Bytes) (hs : List HeapList) (a : ℕ) → AreHeapsIn b hs → IsAnchorPlace hs a → spells_any hs (word_start a) ≡ false
place_unspelled b [] a heaps place = refl
place_unspelled b (h ∷ hs) a heaps place =
    or_from (is_heap_word h.start h.items (word_start a)) (spells_any hs (word_start a)) (placed_unspelled b h a heaps.0 place.0)
    (place_unspelled b hs a heaps.1.1 place.1)

pub flex_unspelled : (b : Bytes) (hs : List HeapList) (rs : List Region) (a : ℕ) → AreHeapsIn b hs → ArePlaced hs rs → is_in_flex_store rs a ≡ true
    → spells_any hs (word_start a) ≡ false
flex_unspelled b hs [] a heaps placed is = absurd (false≢true is)
flex_unspelled b hs (r ∷ rs) a heaps placed is = elim (cases_Bool (is_flex_store r.kind && in_range r.at r.len a)) [
  | inr other ↦ flex_unspelled b hs rs a heaps placed.1 (rw other at is)
  | inl here ↦
      let parts = and_parts (is_flex_store r.kind) (in_range r.at r.len a) here in
      elim (placed_either hs r placed.0) [
        | inl clear ↦ clear_unowned b hs r.at r.len a heaps clear parts.1
        | inr image ↦ absurd (not_flex r.kind parts.0 (image_kind hs r image))
      ]
]
