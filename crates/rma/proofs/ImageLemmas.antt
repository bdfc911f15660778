-- Records of images in the module area: one more, and one less.
use Rattle.dynamic_areas.specs.MemoryMap.{module_area_start}
use Rattle.std.proofs.Common.{◌≡◌, ◌≢◌, ℕ, ◌+◌, ◌-◌, ◌==◌, ◌%◌, ◌&&◌, ◌<◌, ◌≤◌, ◌⊎◌, Bool, true, false, List, [], ◌∷◌, ◌++◌, length, refl, sym, ap, subst, ◌∙◌, Some, None, Ok, inl, inr, arith, length-append}
use Rattle.std.specs.Prelude.{Option}
use Rattle.std.proofs.lemmas.Bool.{and_parts, cases_Bool, both_ways, false_from_ne_true, false≢true, eq-eqb, le-leb, lt-ltb, or_parts}
use Rattle.dynamic_areas.specs.Bytes.{Bytes, AreMapped, in_range}
use Rattle.dynamic_areas.specs.Classes.{is_anchor, is_flex_header}
use Rattle.dynamic_areas.specs.Items.{size_of}
use Rattle.dynamic_areas.specs.Memory.{Mapping, bytes_of, class_of, free_pages, mapping, regions}
use Rattle.dynamic_areas.specs.Records.{are_same, is_heap_kind, is_record, without_region}
use Rattle.dynamic_areas.specs.AddressMap.{AddressMap}
use Rattle.dynamic_areas.specs.Kind.{Kind}
use Rattle.dynamic_areas.specs.Kind.TheVariants as kind
use Rattle.dynamic_areas.specs.Region.{Region}
use Rattle.dynamic_areas.specs.Heap.{HeapList, IsHeapIn}
use Rattle.dynamic_areas.specs.OsHeapWordsLists.{live_total}
use Rattle.dynamic_areas.proofs.LiveBlocks.{LiveBytes, law_live_bytes}
use Rattle.dynamic_areas.specs.Calls.{OfHeap, block_sized}
use Rattle.dynamic_areas.specs.Store.{AreClear, ArePlaced, AreRangesApart, IsClearOfRanges, IsImageBlock, IsPlacedIn, IsSound, Store, find_heap, has_image, heaps_in, is_module_area, is_flex_store, is_image, is_in_flex_store, others_in, store_of}
use Rattle.dynamic_areas.proofs.Apart.{block_inside, one_block, range_parts}
use Rattle.dynamic_areas.proofs.Found.{found_heap, found_start}
use Rattle.dynamic_areas.proofs.Recorded.{IsClearOfAll, apart_other, in_more}
use Rattle.dynamic_areas.proofs.ImageBlocks.{image_placed}
use Rattle.dynamic_areas.proofs.Stores.{are_others, placed_by}
use Rattle.dynamic_areas.specs.Forgetting.{holds_heap}
use Rattle.dynamic_areas.specs.Areas.{AreaTable}
use Rattle.dynamic_areas.specs.Ground.{AreAreas, AreRangesMapped, AreaStore, IsAreaStore}
use Rattle.rma.specs.Images.{CanRecord}
use Rattle.rma.proofs.ExtendLemmas.{IsSized, sized_by}
use Rattle.rma.proofs.GrowthLemmas.{HasArea, area_there}

-- the module area's heap of an area store is that area's
pub area_kind : (e : AreaStore) → IsAreaStore e → OfHeap (λ h. is_module_area h.kind ≡ true) (find_heap module_area_start e.store.heaps)
area_kind e good =
    let h : HasArea e = area_there e good in
    rw h.known.found (ap is_module_area h.known.kind)

-- the bytes of a block lie in its heap
payload_in : (b : Bytes) (h : HeapList) (at len a : ℕ) → IsHeapIn b h.start h.end h.items → live_total at (h.start + 16) h.items ≡ Some (len + 4)
    → in_range at len a ≡ true → (in_range (at - 4) (len + 4) a ≡ true) × (in_range h.start h.end a ≡ true)
payload_in b h at len a heap live inside =
    let place : LiveBytes at (len + 4) (h.start + 16) (h.start + 16 + size_of h.items) = law_live_bytes at (len + 4) (h.start + 16) h.items heap.totals live in
    let parts : (at ≤ a) × (a < at + len) = range_parts at len a inside in
    let whole : in_range (at - 4) (len + 4) a ≡ true =
    rw (le-leb (at - 4) a (omega (arith, parts.0)), lt-ltb a (at - 4 + (len + 4)) (omega (arith, parts.1, place.low))) refl in
    (whole, block_inside b h at (len + 4) a heap live whole)

-- a record in the same heap is that of another block, or clear of it
image_apart : (b : Bytes) (h : HeapList) (at len : ℕ) (q : Region) → IsHeapIn b h.start h.end h.items
    → live_total at (h.start + 16) h.items ≡ Some (len + 4) → (is_image q.kind ≡ true → q.at ≢ at)
    → AreClear q.at q.len h.start h.end ⊎ IsImageBlock h q → AreClear q.at q.len at len
image_apart b h at len q heap live other (inl clear) = λ a there. false_from_ne_true (in_range at len a) (λ here.
    both_ways (in_range h.start h.end a) (clear a there) (payload_in b h at len a heap live here).1)
image_apart b h at len q heap live other (inr image) = λ a there. false_from_ne_true (in_range at len a) (λ here.
    other image.image (one_block b h q.at (q.len + 4) at (len + 4) a heap image.live live
    (payload_in b h q.at q.len a heap image.live there).0 (payload_in b h at len a heap live here).0))

others_apart : (b : Bytes) (h : HeapList) (at len : ℕ) (hs : List HeapList) (rs : List Region) → IsHeapIn b h.start h.end h.items
    → find_heap h.start hs ≡ Some h → live_total at (h.start + 16) h.items ≡ Some (len + 4) → has_image at rs ≡ false → ArePlaced hs rs
    → IsClearOfAll (record { kind = kind.Image; at = at; len = len }) rs
others_apart b h at len hs [] heap found live none placed = tt
others_apart b h at len hs (q ∷ rs) heap found live none placed =
    let tests = or_parts (is_image q.kind && q.at == at) (has_image at rs) none in (
      image_apart b h at len q heap live (λ is same. false≢true (sym tests.0 ∙ (rw (is, eq-eqb q.at at same) refl)))
          (placed_by h.start hs h q placed.0 found),
      others_apart b h at len hs rs heap found live tests.1 placed.1,
    )

placed_more : (hs : List HeapList) (rs : List Region) (r : Region) → ArePlaced hs rs → IsPlacedIn hs r → ArePlaced hs (rs ++ r ∷ [])
placed_more hs [] r placed last = (last, tt)
placed_more hs (q ∷ rs) r placed last = (placed.0, placed_more hs rs r placed.1 last)

pub mapped_more : (f : ℕ → Bool) (rs : List Region) (r : Region) → AreRangesMapped f rs → AreMapped f r.at r.len → AreRangesMapped f (rs ++ r ∷ [])
mapped_more f [] r mapped last = (last, tt)
mapped_more f (q ∷ rs) r mapped last = (mapped.0, mapped_more f rs r mapped.1 last)

-- what is so of the record of a block as an image
pub record IsRecorded (s : Store) (r : Region) : Type 0 where
  pub sound : IsSound (record s { others = s.others ++ r ∷ [] })
  pub mapped : AreMapped s.bytes.mapped r.at r.len
  pub aligned : r.at % 4 ≡ 0

recorded_in : (s : Store) (h : HeapList) (at len : ℕ) → IsSound s → CanRecord s at → find_heap module_area_start s.heaps ≡ Some h
    → block_sized s module_area_start at ≡ Ok len → IsRecorded s (record { kind = kind.Image; at = at; len = len })
recorded_in s h at len sound can found sized =
    let r : Region = record { kind = kind.Image; at = at; len = len } in
    let start : h.start ≡ module_area_start = found_start module_area_start s.heaps h found in
    let own : find_heap h.start s.heaps ≡ Some h = subst (λ (p : ℕ). find_heap p s.heaps ≡ Some h) (sym start) found in
    let heap : IsHeapIn s.bytes h.start h.end h.items = found_heap s.bytes module_area_start s.heaps h sound.heaps found in
    let is : IsSized s h at len = sized_by s module_area_start h at len found sized in
    let place : LiveBytes at is.total (h.start + 16) (h.start + 16 + size_of h.items) = law_live_bytes at is.total (h.start + 16) h.items heap.totals is.guests.live in
    let total : is.total ≡ len + 4 = omega (arith, is.same, place.size) in
    let live : live_total at (h.start + 16) h.items ≡ Some (len + 4) = is.guests.live ∙ ap Some total in
    let area : is_module_area h.kind ≡ true = (let t = rw found at can.area in t) in
    let empty : holds_heap s.heaps at len ≡ false = (let t = rw sized at can.empty in t) in
    let image : IsPlacedIn s.heaps r =
    image_placed s.bytes h r s.heaps heap (record { image = refl; area = area; live = live }) sound.heaps
    (are_others s.bytes module_area_start s.heaps h sound.heaps found) empty in
    let apart : IsClearOfAll r s.others = others_apart s.bytes h at len s.heaps s.others heap own live is.guests.own sound.placed in
    record {
      sound = record {
        heaps = sound.heaps;
        limits = sound.limits;
        placed = placed_more s.heaps s.others r sound.placed image;
        apart = apart_other s.others r sound.apart apart;
        few = omega (arith, length-append {A = Region}, can.room);
        anchors = sound.anchors;
        headers = λ a is. in_more s.others r a (sound.headers a is);
      };
      mapped = λ a low high. heap.mapped a (omega (arith, low, place.low)) (omega (arith, high, total, place.high, heap.inside));
      aligned = place.whole (omega (arith, heap.aligned));
    }

area_none : (s : Store) → OfHeap (λ h. is_module_area h.kind ≡ true) (find_heap module_area_start s.heaps) → find_heap module_area_start s.heaps ≡ None → ⊥
area_none s area none = let t = rw none at area in t

pub is_recorded : (s : Store) (at len : ℕ) → IsSound s → CanRecord s at → block_sized s module_area_start at ≡ Ok len
    → IsRecorded s (record { kind = kind.Image; at = at; len = len })
is_recorded s at len sound can sized = go (find_heap module_area_start s.heaps) refl where
  go : (o : Option HeapList) → find_heap module_area_start s.heaps ≡ o → IsRecorded s (record { kind = kind.Image; at = at; len = len })
  go None none = absurd (area_none s can.area none)
  go (Some h) found = recorded_in s h at len sound can found sized

-- the area store with other records of the same memory
pub areas_others : (s : Store) (free : ℕ) (l : AreaTable) (rs : List Region) → AreAreas s free l → IsSound (record s { others = rs })
    → AreRangesMapped s.bytes.mapped rs → AreAreas (record s { others = rs }) free l
areas_others s free l rs areas sound mapped = record {
  ground = record {
    sizes = areas.ground.sizes;
    table = areas.ground.table;
    area_table = areas.ground.area_table;
    pages = areas.ground.pages;
    ranges = mapped;
    sound = sound;
  };
  heap = areas.heap;
}

pub areas_recorded : (s : Store) (free : ℕ) (l : AreaTable) (r : Region) → AreAreas s free l → IsRecorded s r
    → AreAreas (record s { others = s.others ++ r ∷ [] }) free l
areas_recorded s free l r areas is =
    areas_others s free l (s.others ++ r ∷ []) areas is.sound (mapped_more s.bytes.mapped s.others r areas.ground.ranges is.mapped)

-- one record less
no_heap : (k : Kind) → is_heap_kind k ≡ true → are_same kind.Image k ≡ false
no_heap kind.Heap heap = refl
no_heap kind.Rma heap = refl
no_heap kind.FlexStore heap = refl
no_heap kind.FlexHeader heap = refl
no_heap kind.Anchor heap = refl
no_heap kind.HeadWord heap = refl
no_heap kind.Image heap = absurd (false≢true heap)
no_heap kind.SystemPage heap = refl

heap_stays : (at : ℕ) (r : Region) → is_heap_kind r.kind ≡ true → is_record kind.Image at r ≡ false
heap_stays at r heap = rw (no_heap r.kind heap) refl

heaps_without : (b : Bytes) (at : ℕ) (rs : List Region) → heaps_in b (without_region rs kind.Image at) ≡ heaps_in b rs
heaps_without b at [] = refl
heaps_without b at (r ∷ rs) = elim (cases_Bool (is_heap_kind r.kind)) [
  | inl heap ↦ rw (heap_stays at r heap, heap, heaps_without b at rs) refl
  | inr other ↦ elim (cases_Bool (is_record kind.Image at r)) [
    | inl here ↦ rw (here, other) refl
    | inr later ↦ rw (later, other) (heaps_without b at rs)
  ]
]

others_without : (at : ℕ) (rs : List Region) → others_in (without_region rs kind.Image at) ≡ without_region (others_in rs) kind.Image at
others_without at [] = refl
others_without at (r ∷ rs) = elim (cases_Bool (is_heap_kind r.kind)) [
  | inl heap ↦ rw (heap_stays at r heap, heap) (others_without at rs)
  | inr other ↦ elim (cases_Bool (is_record kind.Image at r)) [
    | inl here ↦ rw (other, here) refl
    | inr later ↦ rw (other, later, other) (ap (λ (xs : List Region). r ∷ xs) (others_without at rs))
  ]
]

placed_less : (hs : List HeapList) (at : ℕ) (rs : List Region) → ArePlaced hs rs → ArePlaced hs (without_region rs kind.Image at)
placed_less hs at [] placed = tt
placed_less hs at (r ∷ rs) placed = elim (cases_Bool (is_record kind.Image at r)) [
  | inl here ↦ rw here placed.1
  | inr later ↦ rw later (placed.0, placed_less hs at rs placed.1)
]

clear_less : (q : Region) (at : ℕ) (rs : List Region) → IsClearOfRanges q rs → IsClearOfRanges q (without_region rs kind.Image at)
clear_less q at [] clear = tt
clear_less q at (r ∷ rs) clear = elim (cases_Bool (is_record kind.Image at r)) [
  | inl here ↦ rw here clear.1
  | inr later ↦ rw later (clear.0, clear_less q at rs clear.1)
]

apart_less : (at : ℕ) (rs : List Region) → AreRangesApart rs → AreRangesApart (without_region rs kind.Image at)
apart_less at [] apart = tt
apart_less at (r ∷ rs) apart = elim (cases_Bool (is_record kind.Image at r)) [
  | inl here ↦ rw here apart.1
  | inr later ↦ rw later (clear_less r at rs apart.0, apart_less at rs apart.1)
]

few_less : (at : ℕ) (rs : List Region) → length (without_region rs kind.Image at) ≤ length rs
few_less at [] = omega arith
few_less at (r ∷ rs) = elim (cases_Bool (is_record kind.Image at r)) [
  | inl here ↦ rw here (omega arith)
  | inr later ↦ rw later (omega (arith, few_less at rs))
]

mapped_less : (f : ℕ → Bool) (at : ℕ) (rs : List Region) → AreRangesMapped f rs → AreRangesMapped f (without_region rs kind.Image at)
mapped_less f at [] mapped = tt
mapped_less f at (r ∷ rs) mapped = elim (cases_Bool (is_record kind.Image at r)) [
  | inl here ↦ rw here mapped.1
  | inr later ↦ rw later (mapped.0, mapped_less f at rs mapped.1)
]

-- the flex store's bytes, beside an image less
no_flex : (k : Kind) → are_same kind.Image k ≡ true → is_flex_store k ≡ false
no_flex kind.Heap same = refl
no_flex kind.Rma same = refl
no_flex kind.FlexStore same = absurd (false≢true same)
no_flex kind.FlexHeader same = refl
no_flex kind.Anchor same = refl
no_flex kind.HeadWord same = refl
no_flex kind.Image same = refl
no_flex kind.SystemPage same = refl

flex_less : (at : ℕ) (rs : List Region) (a : ℕ) → is_in_flex_store rs a ≡ true → is_in_flex_store (without_region rs kind.Image at) a ≡ true
flex_less at [] a is = absurd (false≢true is)
flex_less at (r ∷ rs) a is = elim (cases_Bool (is_record kind.Image at r)) [
  | inl here ↦
      let own : is_flex_store r.kind ≡ false = no_flex r.kind (and_parts (are_same kind.Image r.kind) (r.at == at) here).0 in
      rw here (rw own at is)
  | inr later ↦ rw later (elim (cases_Bool (is_flex_store r.kind && in_range r.at r.len a)) [
    | inl flex ↦ rw flex refl
    | inr other ↦ rw other (flex_less at rs a (rw other at is))
  ])
]

pub sound_less : (s : Store) (at : ℕ) → IsSound s → IsSound (record s { others = without_region s.others kind.Image at })
sound_less s at sound = record {
  heaps = sound.heaps;
  limits = sound.limits;
  placed = placed_less s.heaps at s.others sound.placed;
  apart = apart_less at s.others sound.apart;
  few = omega (arith, few_less at s.others, sound.few);
  anchors = sound.anchors;
  headers = λ a is. flex_less at s.others a (sound.headers a is);
}

pub areas_less : (s : Store) (free : ℕ) (l : AreaTable) (at : ℕ) → AreAreas s free l
    → AreAreas (record s { others = without_region s.others kind.Image at }) free l
areas_less s free l at areas =
    areas_others s free l (without_region s.others kind.Image at) areas (sound_less s at areas.ground.sound)
    (mapped_less s.bytes.mapped at s.others areas.ground.ranges)

pub store_less : (m n : AddressMap) (at : ℕ) → regions n ≡ without_region (regions m) kind.Image at → bytes_of n ≡ bytes_of m
    → ((a : ℕ) → class_of n a ≡ class_of m a) → store_of n ≡ record (store_of m) { others = without_region (store_of m).others kind.Image at }
unfolding store_of
store_less m n at records bytes marks =
    let heaps = heaps_without (bytes_of m) at (regions m) in
    let others = others_without at (regions m) in
    rw (bytes, records) (λ i. record {
      bytes = bytes_of m;
      heaps = heaps i;
      others = others i;
      anchor = λ a. is_anchor (marks a i);
      header = λ a. is_flex_header (marks a i);
    })

pub same_pool : (m n : AddressMap) → mapping n ≡ mapping m → free_pages n ≡ free_pages m
same_pool m n same = ap (λ (q : Mapping). q.free_pages) same
