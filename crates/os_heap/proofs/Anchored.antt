-- Anchors lie in no heap, or in live blocks: calls on heaps keep them there, and mark none of their words.
use Rattle.std.proofs.Common.{◌≡◌, ◌⊎◌, ℕ, ◌+◌, ◌-◌, ◌≤◌, ◌%◌, ◌==◌, ◌&&◌, ◌++◌, Bool, true, false, List, [], ◌∷◌, Some, None, Option, refl, sym, ap, subst, ◌∙◌, arith, inl, inr}
use Rattle.std.proofs.lemmas.Bool.{and_parts, both_ways, cases_Bool, cases_eq, cases_lt, eq-eqb, ne_eqb, false≢true, false_from_ne_true, le-leb, lt-ltb}
use Rattle.os_heap_words.proofs.Anchors.{none_among}
use Rattle.os_heap_words.specs.Bytes.{Bytes, in_range, word_start}
use Rattle.os_heap_words.specs.Classes.{is_flex_header, is_anchor}
use Rattle.os_heap_words.specs.Items.{is_head, size_of}
use Rattle.os_heap_words.specs.Memory.{class_of}
use Rattle.os_heap_words.specs.Records.{anchor_among}
use Rattle.os_heap_words.specs.Item.{Item}
use Rattle.os_heap_words.specs.AddressMap.{AddressMap}
use Rattle.os_heap_words.specs.Kind.{Kind}
use Rattle.os_heap_words.specs.Kind.TheVariants as kind
use Rattle.os_heap_words.specs.Region.{Region}
use Rattle.os_heap_words.proofs.ListsLemmas.HeadWords.{head_inside}
use Rattle.os_heap_words.proofs.ListsLemmas.LiveBlocks.{IsStillIn, LiveBytes, law_live_bytes, live_unspelled, release_still, refit_own, refit_still}
use Rattle.os_heap_words.specs.lists.Heap.{HeapList, IsHeapIn}
use Rattle.os_heap_words.specs.lists.Lists.{live_total, items_after_release, resized_in_place}
use Rattle.os_heap.proofs.FlexWords.{AreUnflexed}
use Rattle.os_heap.proofs.Stores.{AreOthers, placed_by}
use Rattle.os_heap.specs.Calls.{holds_anchor, heaps_with_items, with_end}
use Rattle.os_heap.specs.Store.{ArePlaced, IsAnchorPlace, IsInBlock, IsSound, find_heap, is_flex_store, is_image, is_in_flex_store, store_of}

abbrev pub IsPlacedBy : HeapList → ℕ → Type 0
IsPlacedBy h a = (in_range h.start h.end a ≡ false) ⊎ IsInBlock (h.start + 16) h.items a

pub place_in : (start : ℕ) (hs : List HeapList) (h : HeapList) (a : ℕ) → find_heap start hs ≡ Some h → IsAnchorPlace hs a → IsPlacedBy h a
place_in start [] h a found place = absurd (let none : None ≡ Some h = found in cc)
place_in start (g ∷ hs) h a found place = elim (cases_Bool (g.start == start)) [
  | inl here ↦
      let found' = rw here at found in
      let same : g ≡ h = cc in
      subst (λ (x : HeapList). IsPlacedBy x a) same place.0
  | inr other ↦ place_in start hs h a (rw other at found) place.1
]

-- blocks that hold an anchor stay
abbrev pub KeepsAnchors : (ℕ → Bool) → ℕ → List Item → List Item → Type 0
KeepsAnchors anchor at old new = (a : ℕ) → anchor a ≡ true → IsInBlock at old a → IsInBlock at new a

pub place_held : (h : HeapList) (items : List Item) (hs : List HeapList) (a : ℕ) → AreOthers h hs
    → (IsInBlock (h.start + 16) h.items a → IsInBlock (h.start + 16) items a) → IsAnchorPlace hs a → IsAnchorPlace (heaps_with_items h.start items hs) a
place_held h items [] a others keeps place = tt
place_held h items (g ∷ hs) a others keeps place =
    let rest : IsAnchorPlace (heaps_with_items h.start items hs) a = place_held h items hs a others.1 keeps place.1 in
    elim others.0 [
      | inl same ↦
          let start : g.start ≡ h.start = ap (λ (x : HeapList). x.start) same in
          let keeps' : IsInBlock (g.start + 16) g.items a → IsInBlock (g.start + 16) items a =
          subst (λ (x : HeapList). IsInBlock (x.start + 16) x.items a → IsInBlock (x.start + 16) items a) (sym same) keeps in
          rw (eq-eqb g.start h.start start) (elim place.0 [ inl out ↦ inl out | inr held ↦ inr (keeps' held) ], rest)
      | inr apart ↦ rw (ne_eqb g.start h.start apart.0) (place.0, rest)
    ]

pub place_ended : (h : HeapList) (end : ℕ) (hs : List HeapList) (a : ℕ) → AreOthers h hs
    → (in_range h.start h.end a ≡ false → in_range h.start end a ≡ false) → IsAnchorPlace hs a → IsAnchorPlace (with_end h.start end hs) a
place_ended h end [] a others grows place = tt
place_ended h end (g ∷ hs) a others grows place =
    let rest : IsAnchorPlace (with_end h.start end hs) a = place_ended h end hs a others.1 grows place.1 in
    elim others.0 [
      | inl same ↦
          let start : g.start ≡ h.start = ap (λ (x : HeapList). x.start) same in
          let grows' : in_range g.start g.end a ≡ false → in_range g.start end a ≡ false =
          subst (λ (x : HeapList). in_range x.start x.end a ≡ false → in_range x.start end a ≡ false) (sym same) grows in
          rw (eq-eqb g.start h.start start) (elim place.0 [ inl out ↦ inl (grows' out) | inr held ↦ inr held ], rest)
      | inr apart ↦ rw (ne_eqb g.start h.start apart.0) (place.0, rest)
    ]

pub place_more : (hs : List HeapList) (h : HeapList) (a : ℕ) → IsAnchorPlace hs a → in_range h.start h.end a ≡ false → IsAnchorPlace (hs ++ h ∷ []) a
place_more [] h a place out = (inl out, tt)
place_more (g ∷ hs) h a place out = (place.0, place_more hs h a place.1 out)

-- the flex store meets no heap, so its headers lie in none
pub not_flex : (k : Kind) → is_flex_store k ≡ true → is_image k ≡ true → ⊥
not_flex kind.FlexStore flex image = false≢true image
not_flex kind.Heap flex image = false≢true flex
not_flex kind.Rma flex image = false≢true flex
not_flex kind.FlexHeader flex image = false≢true flex
not_flex kind.Anchor flex image = false≢true flex
not_flex kind.HeadWord flex image = false≢true flex
not_flex kind.Image flex image = false≢true flex
not_flex kind.SystemPage flex image = false≢true flex

pub header_outside : (start : ℕ) (hs : List HeapList) (rs : List Region) (h : HeapList) (a : ℕ) → ArePlaced hs rs → find_heap start hs ≡ Some h
    → is_in_flex_store rs a ≡ true → in_range h.start h.end a ≡ false
header_outside start hs [] h a placed found is = absurd (false≢true is)
header_outside start hs (r ∷ rs) h a placed found is = elim (cases_Bool (is_flex_store r.kind && in_range r.at r.len a)) [
  | inr other ↦ header_outside start hs rs h a placed.1 found (rw other at is)
  | inl here ↦
      let parts = and_parts (is_flex_store r.kind) (in_range r.at r.len a) here in
      elim (placed_by start hs h r placed.0 found) [
        | inl clear ↦ clear a parts.1
        | inr image ↦ absurd (not_flex r.kind parts.0 image.image)
      ]
]

-- a head lies in its heap
head_here : (b : Bytes) (h : HeapList) (items : List Item) (a : ℕ) → IsHeapIn b h.start h.end items → is_head (h.start + 16) items (word_start a) ≡ true
    → in_range h.start h.end a ≡ true
head_here b h items a heap head =
    let inside = head_inside (h.start + 16) items (word_start a) heap.totals head in
    rw (le-leb h.start a (omega (arith, inside.0)), lt-ltb a (h.start + h.end) (omega (arith, inside.1, heap.inside))) refl

-- no word that a heap's new list makes a head is an anchor's or a header's
pub heads_unflexed : (m : AddressMap) (b : Bytes) (h : HeapList) (items : List Item) → IsSound (store_of m)
    → find_heap h.start (store_of m).heaps ≡ Some h → IsHeapIn b h.start h.end items → KeepsAnchors (store_of m).anchor (h.start + 16) h.items items
    → AreUnflexed (class_of m) (h.start + 16) items
unfolding store_of
heads_unflexed m b h items sound found heap keeps a head =
    let here : in_range h.start h.end a ≡ true = head_here b h items a heap head in
    record {
      anchor = false_from_ne_true (is_anchor (class_of m a)) (λ is. elim (place_in h.start (store_of m).heaps h a found (sound.anchors a is).1) [
        | inl out ↦ both_ways (in_range h.start h.end a) out here
        | inr held ↦
            let kept : IsInBlock (h.start + 16) items a = keeps a is held in
            let bytes : LiveBytes kept.block kept.total (h.start + 16) (h.start + 16 + size_of items) =
            law_live_bytes kept.block kept.total (h.start + 16) items heap.totals kept.live in
            let whole : kept.block % 4 ≡ 0 = bytes.whole (omega (arith, heap.aligned)) in
            both_ways (is_head (h.start + 16) items (word_start a))
            (live_unspelled kept.block kept.total (h.start + 16) items (word_start a) heap.totals kept.live (omega (arith, kept.low)) (omega (arith, kept.high)))
            head
      ]);
      header = false_from_ne_true (is_flex_header (class_of m a)) (λ is.
          both_ways (in_range h.start h.end a) (header_outside h.start (store_of m).heaps (store_of m).others h a sound.placed found (sound.headers a is)) here);
    }

-- a block that has no anchor is given back
pub release_keeps : (anchor : ℕ → Bool) (block at : ℕ) (xs ys : List Item) → items_after_release block at xs ≡ Some ys
    → holds_anchor anchor block (live_total block at xs) ≡ false → KeepsAnchors anchor at xs ys
release_keeps anchor block at xs ys is none a anchored held = elim (cases_eq held.block block) [
  | inl same ↦
      let live : live_total block at xs ≡ Some held.total = subst (λ (b : ℕ). live_total b at xs ≡ Some held.total) same held.live in
      let free : anchor_among anchor (block - 4) held.total ≡ false = ap (λ (o : Option ℕ). holds_anchor anchor block o) (sym live) ∙ none in
      let low = held.low in
      let high = held.high in
      absurd (both_ways (anchor a) (none_among anchor (block - 4) held.total a free (omega arith) (omega arith)) anchored)
  | inr apart ↦ record {
    block = held.block;
    total = held.total;
    live = subst (IsStillIn held.block held.total at) is (release_still held.block block held.total at xs apart held.live);
    low = held.low;
    high = held.high;
  }
]

-- a block gets another total, and no anchor is cut off
pub refit_keeps : (anchor : ℕ → Bool) (block old end new at : ℕ) (xs ys : List Item) → resized_in_place block end new at xs ≡ Some ys
    → live_total block at xs ≡ Some old → 4 ≤ block → anchor_among anchor (block - 4 + new) (old - new) ≡ false → KeepsAnchors anchor at xs ys
refit_keeps anchor block old end new at xs ys is live above none a anchored held = elim (cases_eq held.block block) [
  | inl same ↦
      let live' : live_total block at xs ≡ Some held.total = subst (λ (b : ℕ). live_total b at xs ≡ Some held.total) same held.live in
      let e : Some old ≡ Some held.total = sym live ∙ live' in
      let total : old ≡ held.total = cc in
      let low = held.low in
      let high = held.high in
      elim (cases_lt (a + 4) (block + new)) [
        | inl inside ↦ record {
          block = block;
          total = new;
          live = subst (IsStillIn block new at) is (refit_own block end new at xs);
          low = omega arith;
          high = inside;
        }
        | inr cut ↦ absurd (both_ways (anchor a) (none_among anchor (block - 4 + new) (old - new) a none (omega arith) (omega arith)) anchored)
      ]
  | inr apart ↦ record {
    block = held.block;
    total = held.total;
    live = subst (IsStillIn held.block held.total at) is (refit_still held.block block held.total end new at xs apart held.live);
    low = held.low;
    high = held.high;
  }
]
