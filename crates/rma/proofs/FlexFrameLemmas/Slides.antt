-- The slide of the module area keeps the flex store: a block with an anchor stays, and what moves
-- goes where no anchor lies.
use Rattle.dynamic_areas.specs.MemoryMap.{module_area_start}
use Rattle.std.proofs.Common.{ℕ, Bool, List, [], ◌∷◌, ◌≡◌, ◌≤◌, ◌<◌, ◌+◌, ◌-◌, ◌∙◌, true, false, refl, sym, ap, subst, inl, inr, Option, Some, None, length, arith, not, ◌&&◌, ◌⊎◌}
use Rattle.std.proofs.lemmas.Bool.{both_ways, cases_Bool, cases_eq, false_from_ne_true, false≢true, le-leb, lt-ltb, or_cases, or_from, or_parts, and_parts}
use Rattle.dynamic_areas.proofs.Anchors.{none_among}
use Rattle.dynamic_areas.proofs.AddressMapStores.{in_range-cases}
use Rattle.dynamic_areas.specs.Bytes.{Bytes, in_range, word_start}
use Rattle.dynamic_areas.specs.Items.{is_heap_word}
use Rattle.dynamic_areas.specs.Moves.{moved_place, moved_regions, moved_to}
use Rattle.dynamic_areas.specs.Records.{anchor_among}
use Rattle.dynamic_areas.specs.BlockMove.{BlockMove}
use Rattle.dynamic_areas.specs.Kind.{Kind}
use Rattle.dynamic_areas.specs.Kind.TheVariants as kind
use Rattle.dynamic_areas.specs.Region.{Region}
use Rattle.dynamic_areas.proofs.Payloads.{heap_beside, spelled_inside}
use Rattle.dynamic_areas.specs.Heap.{HeapList, IsHeapIn}
use Rattle.dynamic_areas.specs.OsHeapWordsLists.{live_total}
use Rattle.dynamic_areas.proofs.Anchored.{header_outside, place_in}
use Rattle.dynamic_areas.proofs.Apart.{block_inside, one_block, range_parts}
use Rattle.dynamic_areas.proofs.Found.{found_heap, found_start}
use Rattle.dynamic_areas.proofs.Moving.{found_held}
use Rattle.dynamic_areas.proofs.Stores.{placed_by}
use Rattle.dynamic_areas.specs.Calls.{OfHeap, holds_anchor}
use Rattle.dynamic_areas.specs.Store.{ArePlaced, find_heap, is_image, is_in_flex_store, IsImageBlock, IsInBlock, IsPlacedIn, IsSound, Store, AreHeapsIn, is_flex_store, IsClearOfHeaps, IsImageIn}
use Rattle.rma.proofs.HeapSlideLemmas.KeptBlocks.{slide_keeps_blocks}
use Rattle.rma.proofs.HeapSlideLemmas.Places.{bytes_low, bytes_past, moved_live, moved_stays, stay_distinct}
use Rattle.rma.proofs.HeapSlideLemmas.Records.{IsSlide, image_place, moves_in, out_still, slid_in, still_place}
use Rattle.rma.specs.heap_slide.Slide.{AreBlocks, HoldNoAnchor, HoldNoHeap, IsHeapSlid, MaySlide, is_listed, slid_bytes, with_slid}
use Rattle.rma.specs.flex_frame.Keeping.{AreAnchorsFree, KeepsFlex, beside_images, is_flex_byte, is_in_record, is_in_other_record}
use Rattle.rma.specs.flex_frame.Laws.{SlidesKeepFlex}

-- what slides: a heap of a sound store, no movable block of which holds an anchor, and what memory
-- spells of it afterwards
record MaySlideHere (s : Store) (h : HeapList) (movable : List ℕ) : Type 0 where
  sound : IsSound s
  found : find_heap h.start s.heaps ≡ Some h
  free : HoldNoAnchor s h movable
  slide : IsSlide s.bytes (with_slid s h movable).bytes h movable

-- no byte out of the heap's range changes
out_kept : (s : Store) (h : HeapList) (movable : List ℕ) (a : ℕ) → MaySlideHere s h movable → in_range h.start h.end a ≡ false
    → (with_slid s h movable).bytes.at a ≡ s.bytes.at a
out_kept s h movable a k out =
    let mv : ℕ → Bool = is_listed movable in
    let first : ℕ = h.start + 16 in
    let old : IsHeapIn s.bytes h.start h.end h.items = k.slide.old in
    let new : IsHeapIn (with_slid s h movable).bytes h.start h.end (slid_in h movable) = k.slide.new in
    let apart : is_heap_word h.start (slid_in h movable) (word_start a) ≡ false =
    false_from_ne_true _ (λ is. both_ways (in_range h.start h.end a) out
    (spelled_inside h.start h.end (slid_in h movable) a old.aligned new.totals new.inside is)) in
    heap_beside (slid_bytes mv first first h.items s.bytes.at) h.start h.end (slid_in h movable) a old.aligned new.totals apart
    ∙ elim (in_range-cases h.start h.end a) [
      | inl r ↦ absurd (false≢true (sym out ∙ r.0))
      | inr r ↦ elim r.1 [
        | inl low ↦ bytes_low mv first first h.items s.bytes.at a (omega arith) (omega arith)
        | inr past ↦ bytes_past mv first first h.items s.bytes.at a (omega arith) (omega (arith, old.inside))
      ]
    ]

-- a block that holds an anchor stays where it is
fixed_block : (s : Store) (h : HeapList) (movable : List ℕ) (a : ℕ) → HoldNoAnchor s h movable → s.anchor a ≡ true
    → (held : IsInBlock (h.start + 16) h.items a) → moved_to (moves_in h movable) held.block ≡ held.block
fixed_block s h movable a free anchored held = elim (cases_Bool (is_listed movable held.block)) [
  | inl moves ↦
      let none : anchor_among s.anchor (held.block - 4) held.total ≡ false =
      ap (λ (o : Option ℕ). holds_anchor s.anchor held.block o) (sym held.live) ∙ free held.block moves in
      let low = held.low in
      let high = held.high in
      absurd (both_ways (s.anchor a) (none_among s.anchor (held.block - 4) held.total a none (omega arith) (omega arith)) anchored)
  | inr stays ↦ moved_stays (is_listed movable) (h.start + 16) (h.start + 16) h.items held.block stays
]

-- so its bytes do, and with them those of the anchor
held_kept : (s : Store) (h : HeapList) (movable : List ℕ) (a : ℕ) → MaySlideHere s h movable → s.anchor a ≡ true
    → IsInBlock (h.start + 16) h.items a → (with_slid s h movable).bytes.at a ≡ s.bytes.at a
held_kept s h movable a k anchored held =
    let to : ℕ = moved_to (moves_in h movable) held.block in
    let still : to ≡ held.block = fixed_block s h movable a k.free anchored held in
    let kept = slide_keeps_blocks s h movable k.slide.old.aligned k.slide.old.totals held.block held.total held.live in
    let low = held.low in
    let high = held.high in
    let new : to + (a - held.block) ≡ a = omega arith in
    let old : held.block + (a - held.block) ≡ a = omega arith in
    sym (ap (with_slid s h movable).bytes.at new) ∙ kept.1 (a - held.block) (omega arith) ∙ ap s.bytes.at old

-- the bytes of the flex store's range, and of anchors, are what they were
bytes_kept : (s : Store) (h : HeapList) (movable : List ℕ) (a : ℕ) → MaySlideHere s h movable → is_flex_byte s a ≡ true
    → (with_slid s h movable).bytes.at a ≡ s.bytes.at a
bytes_kept s h movable a k is = elim (or_cases (is_in_flex_store s.others a) (s.anchor a) is) [
  | inl inside ↦ out_kept s h movable a k (header_outside h.start s.heaps s.others h a k.sound.placed k.found inside)
  | inr anchored ↦ elim (place_in h.start s.heaps h a k.found (k.sound.anchors a anchored).1) [
    | inl out ↦ out_kept s h movable a k out
    | inr held ↦ held_kept s h movable a k anchored held
  ]
]

-- the records beside those of images stay
other_place : (moves : List BlockMove) (k : Kind) (a : ℕ) → is_image k ≡ false → moved_place moves k a ≡ a
other_place moves kind.Image a other = absurd (false≢true (sym other))
other_place moves kind.Heap a other = refl
other_place moves kind.Rma a other = refl
other_place moves kind.FlexStore a other = refl
other_place moves kind.FlexHeader a other = refl
other_place moves kind.Anchor a other = refl
other_place moves kind.HeadWord a other = refl
other_place moves kind.SystemPage a other = refl

beside_moved : (moves : List BlockMove) (rs : List Region) → beside_images (moved_regions moves rs) ≡ beside_images rs
beside_moved moves [] = refl
beside_moved moves (r ∷ rs) = elim (cases_Bool (is_image r.kind)) [
  | inl image ↦ rw image (beside_moved moves rs)
  | inr other ↦ rw (other, other_place moves r.kind r.at other, beside_moved moves rs) refl
]

-- the block of an image that holds an anchor after the slide is where it was
image_unmoved : (s : Store) (h : HeapList) (movable : List ℕ) (r : Region) (a : ℕ) → MaySlideHere s h movable → s.anchor a ≡ true → IsImageBlock h r
    → in_range (moved_to (moves_in h movable) r.at) r.len a ≡ true → moved_to (moves_in h movable) r.at ≡ r.at
image_unmoved s h movable r a k anchored image inside =
    let mv : ℕ → Bool = is_listed movable in
    let first : ℕ = h.start + 16 in
    let to : ℕ = moved_to (moves_in h movable) r.at in
    let b : Bytes = (with_slid s h movable).bytes in
    let g : HeapList = record { kind = h.kind; start = h.start; end = h.end; items = slid_in h movable } in
    let old : IsHeapIn s.bytes h.start h.end h.items = k.slide.old in
    let new : IsHeapIn b h.start h.end (slid_in h movable) = k.slide.new in
    let there : live_total to first (slid_in h movable) ≡ Some (r.len + 4) =
    moved_live mv first first h.items r.at (r.len + 4) (omega arith) old.totals image.live in
    let here : in_range (to - 4) (r.len + 4) a ≡ true = wider to r.len a inside in
    elim (place_in h.start s.heaps h a k.found (k.sound.anchors a anchored).1) [
      | inl out ↦ absurd (both_ways (in_range h.start h.end a) out (block_inside b g to (r.len + 4) a new there here))
      | inr held ↦
          let still : moved_to (moves_in h movable) held.block ≡ held.block = fixed_block s h movable a k.free anchored held in
          let own : live_total held.block first (slid_in h movable) ≡ Some held.total =
          subst (λ (x : ℕ). live_total x first (slid_in h movable) ≡ Some held.total) still
          (moved_live mv first first h.items held.block held.total (omega arith) old.totals held.live) in
          let same : to ≡ held.block = one_block b g to (r.len + 4) held.block held.total a new there own here (held_range s h a held) in
          elim (cases_eq r.at held.block) [
            | inl block ↦ same ∙ sym block
            | inr apart ↦ absurd (stay_distinct mv first first h.items r.at (r.len + 4) held.block held.total (omega arith) old.totals image.live held.live
                apart (same ∙ sym still))
          ]
    ]
  where
    wider : (to len a : ℕ) → in_range to len a ≡ true → in_range (to - 4) (len + 4) a ≡ true
    wider to len a inside =
        let parts : (to ≤ a) × (a < to + len) = range_parts to len a inside in
        rw (le-leb (to - 4) a (omega (arith, parts.0)), lt-ltb a (to - 4 + (len + 4)) (omega (arith, parts.1))) refl

    held_range : (s : Store) (h : HeapList) (a : ℕ) → (held : IsInBlock (h.start + 16) h.items a) → in_range (held.block - 4) held.total a ≡ true
    held_range s h a held =
        let low = held.low in
        let high = held.high in
        rw (le-leb (held.block - 4) a (omega arith), lt-ltb a (held.block - 4 + held.total) (omega arith)) refl

-- a record that an anchor lies in after the slide did not move
record_unmoved : (s : Store) (h : HeapList) (movable : List ℕ) (r : Region) (a : ℕ) → MaySlideHere s h movable → s.anchor a ≡ true
    → IsPlacedIn s.heaps r → in_range (moved_place (moves_in h movable) r.kind r.at) r.len a ≡ true
    → moved_place (moves_in h movable) r.kind r.at ≡ r.at
record_unmoved s h movable r a k anchored place inside = elim (cases_Bool (in_range h.start h.end r.at)) [
  | inr out ↦ still_place (moves_in h movable) r.kind r.at (out_still s.bytes (with_slid s h movable).bytes h movable r.at k.slide out)
  | inl here ↦ elim (placed_by h.start s.heaps h r place k.found) [
    | inl clear ↦
        let parts = range_parts (moved_place (moves_in h movable) r.kind r.at) r.len a inside in
        let some : r.at < r.at + r.len = omega (arith, parts.0, parts.1) in
        let first : in_range r.at r.len r.at ≡ true = rw (le-leb r.at r.at (omega arith), lt-ltb r.at (r.at + r.len) some) refl in
        absurd (both_ways (in_range h.start h.end r.at) (clear r.at first) here)
    | inr own ↦
        let moves : moved_place (moves_in h movable) r.kind r.at ≡ moved_to (moves_in h movable) r.at =
        image_place (moves_in h movable) r.kind r.at own.image in
        moves ∙ image_unmoved s h movable r a k anchored own (subst (λ (x : ℕ). in_range x r.len a ≡ true) moves inside)
  ]
]

-- so no record comes to lie where an anchor does
records_free : (s : Store) (h : HeapList) (movable : List ℕ) (rs : List Region) (a : ℕ) → MaySlideHere s h movable → s.anchor a ≡ true
    → ArePlaced s.heaps rs → is_in_other_record rs a ≡ false → is_in_other_record (moved_regions (moves_in h movable) rs) a ≡ false
records_free s h movable [] a k anchored placed none = refl
records_free s h movable (r ∷ rs) a k anchored placed none =
    let own : Bool = not (is_flex_store r.kind) in
    let parts = or_parts (own && in_range r.at r.len a) (is_in_other_record rs a) none in
    let to : ℕ = moved_place (moves_in h movable) r.kind r.at in
    or_from (own && in_range to r.len a) (is_in_other_record (moved_regions (moves_in h movable) rs) a)
    (false_from_ne_true (own && in_range to r.len a) (λ met.
    let both = and_parts own (in_range to r.len a) met in
    let here : in_range r.at r.len a ≡ true =
    subst (λ (x : ℕ). in_range x r.len a ≡ true) (record_unmoved s h movable r a k anchored placed.0 both.1) both.1 in
    both_ways (own && in_range r.at r.len a) parts.0 (rw (both.0, here) refl)))
    (records_free s h movable rs a k anchored placed.1 parts.1)

-- the slide of a heap
slid_keeps : (s : Store) (h : HeapList) (movable : List ℕ) → MaySlideHere s h movable → KeepsFlex s (with_slid s h movable)
unfolding KeepsFlex AreAnchorsFree
slid_keeps s h movable k free = (
  record {
    bytes = λ a is. bytes_kept s h movable a k is;
    anchors = λ a. refl;
    headers = λ a. refl;
    beside = beside_moved (moves_in h movable) s.others;
  },
  λ a anchored. records_free s h movable s.others a k anchored k.sound.placed (free a anchored),
)

-- the heap is one that memory spells, before and afterwards
may_slide_here : (s : Store) (heap : ℕ) (h : HeapList) (movable : List ℕ) → IsSound s → IsSound (with_slid s h movable) → HoldNoAnchor s h movable
    → find_heap heap s.heaps ≡ Some h → MaySlideHere s h movable
may_slide_here s heap h movable sound sound' free found =
    let own : find_heap h.start s.heaps ≡ Some h =
    subst (λ (p : ℕ). find_heap p s.heaps ≡ Some h) (sym (found_start heap s.heaps h found)) found in
    let g : HeapList = record { kind = h.kind; start = h.start; end = h.end; items = slid_in h movable } in
    record {
      sound = sound;
      found = own;
      free = free;
      slide = record {
        old = found_heap s.bytes h.start s.heaps h sound.heaps own;
        new = found_heap (with_slid s h movable).bytes h.start (with_slid s h movable).heaps g sound'.heaps
            (found_held h.start (slid_in h movable) s.heaps h own);
      };
    }

pub slide_keeps : (s t : Store) (heap : ℕ) (movable : List ℕ) (moves : List BlockMove) → IsSound s → IsSound t → MaySlide s heap movable
    → IsHeapSlid s heap movable t moves → KeepsFlex s t
slide_keeps s t heap movable moves sound sound' may is_slid = of_heap (find_heap heap s.heaps) refl may is_slid where
  of_heap : (o : Option HeapList) → find_heap heap s.heaps ≡ o
      → OfHeap (λ h. AreBlocks (h.start + 16) h.items movable × ((length movable ≤ 128) × (HoldNoAnchor s h movable × HoldNoHeap s.heaps h movable))) o
      → OfHeap (λ h. (t ≡ with_slid s h movable) × (moves ≡ moves_in h movable)) o → KeepsFlex s t
  of_heap None found is done = absurd is
  of_heap (Some h) found is done =
      subst (λ (u : Store). KeepsFlex s u) (sym done.0)
      (slid_keeps s h movable (may_slide_here s heap h movable sound (subst IsSound done.0 sound') is.1.1.0 found))

pub slides_keep : SlidesKeepFlex
slides_keep s t movable moves sound sound' may is_slid = slide_keeps s t module_area_start movable moves sound sound' may is_slid
