-- Writes to the system pages and to a live block of the module area, and records of module images,
-- keep the flex store.
use Rattle.dynamic_areas.specs.MemoryMap.{module_area_start, system_start}
use Rattle.std.proofs.Common.{ℕ, Bool, not, ◌≡◌, ◌≤◌, ◌<◌, ◌+◌, ◌-◌, ◌==◌, ◌&&◌, true, false, Option, Some, None, List, [], ◌∷◌, ◌++◌, refl, ap, subst, ◌∙◌, inl, inr, arith}
use Rattle.std.proofs.lemmas.Bool.{and_parts, both_ways, cases_Bool, false_from_ne_true, false≢true, le-leb, lt-ltb, or_cases, or_from, or_parts}
use Rattle.dynamic_areas.proofs.Anchors.{none_among}
use Rattle.dynamic_areas.specs.Bytes.{Bytes, in_range}
use Rattle.dynamic_areas.specs.Items.{size_of}
use Rattle.dynamic_areas.specs.Records.{anchor_among, are_same, is_record, without_region}
use Rattle.dynamic_areas.specs.Kind.{Kind}
use Rattle.dynamic_areas.specs.Kind.TheVariants as kind
use Rattle.dynamic_areas.specs.Region.{Region}
use Rattle.dynamic_areas.proofs.LiveBlocks.{LiveBytes, law_live_bytes}
use Rattle.dynamic_areas.specs.Heap.{HeapList, IsHeapIn}
use Rattle.dynamic_areas.specs.OsHeapWordsLists.{live_total}
use Rattle.dynamic_areas.proofs.Anchored.{header_outside}
use Rattle.dynamic_areas.proofs.Apart.{range_parts}
use Rattle.dynamic_areas.proofs.Found.{found_heap}
use Rattle.dynamic_areas.specs.Calls.{OfHeap}
use Rattle.dynamic_areas.specs.Store.{AreClear, AreRangesApart, IsClearOfRanges, IsSound, Store, find_heap, is_flex_store, is_image, is_in_flex_store}
use Rattle.dynamic_areas.specs.Ground.{IsRecorded, system_pages_range}
use Rattle.rma.proofs.FlexFrameLemmas.Heaps.{writes_keep}
use Rattle.rma.specs.flex_frame.Keeping.{AreAnchorsFree, RangeHasNoAnchor, KeepsFlex, beside_images, is_flex_byte, is_in_other_record}
use Rattle.rma.specs.flex_frame.Laws.{WritesKeepFlex}

-- a recorded range that is not the flex store's has no byte of it
pub clear_of_recorded : (q r : Region) (rs : List Region) → IsClearOfRanges q rs → IsRecorded r rs → AreClear q.at q.len r.at r.len
clear_of_recorded q r [] clear recorded = absurd recorded
clear_of_recorded q r (p ∷ rs) clear recorded = elim recorded [
  | inl same ↦ subst (λ (x : Region). AreClear q.at q.len x.at x.len) same clear.0
  | inr later ↦ clear_of_recorded q r rs clear.1 later
]

pub clear_of_flex : (q : Region) (rs : List Region) (a : ℕ) → IsClearOfRanges q rs → is_in_flex_store rs a ≡ true → in_range q.at q.len a ≡ false
clear_of_flex q [] a clear is = absurd (false≢true is)
clear_of_flex q (r ∷ rs) a clear is = elim (or_cases (is_flex_store r.kind && in_range r.at r.len a) (is_in_flex_store rs a) is) [
  | inr later ↦ clear_of_flex q rs a clear.1 later
  | inl here ↦
      let parts = and_parts (is_flex_store r.kind) (in_range r.at r.len a) here in
      false_from_ne_true (in_range q.at q.len a) (λ inside. both_ways (in_range r.at r.len a) (clear.0 a inside) parts.1)
]

flex_apart : (r : Region) (rs : List Region) (a : ℕ) → is_flex_store r.kind ≡ false → AreRangesApart rs → IsRecorded r rs → is_in_flex_store rs a ≡ true
    → in_range r.at r.len a ≡ false
flex_apart r [] a other apart recorded is = absurd recorded
flex_apart r (q ∷ rs) a other apart recorded is = elim (or_cases (is_flex_store q.kind && in_range q.at q.len a) (is_in_flex_store rs a) is) [
  | inl here ↦
      let parts = and_parts (is_flex_store q.kind) (in_range q.at q.len a) here in
      elim recorded [
        | inl same ↦ absurd (both_ways (is_flex_store q.kind) (ap (λ (x : Region). is_flex_store x.kind) same ∙ other) parts.0)
        | inr later ↦ clear_of_recorded q r rs apart.0 later a parts.1
      ]
  | inr there ↦ elim recorded [
    | inl same ↦ subst (λ (x : Region). in_range x.at x.len a ≡ false) same (clear_of_flex q rs a apart.0 there)
    | inr later ↦ flex_apart r rs a other apart.1 later there
  ]
]

-- nor has it one of an anchor, where anchors are free
outside_recorded : (r : Region) (rs : List Region) (a : ℕ) → is_flex_store r.kind ≡ false → IsRecorded r rs → is_in_other_record rs a ≡ false
    → in_range r.at r.len a ≡ false
outside_recorded r [] a other recorded none = absurd recorded
outside_recorded r (q ∷ rs) a other recorded none =
    let parts = or_parts (not (is_flex_store q.kind) && in_range q.at q.len a) (is_in_other_record rs a) none in
    elim recorded [
      | inl same ↦
          let own : is_flex_store q.kind ≡ false = ap (λ (x : Region). is_flex_store x.kind) same ∙ other in
          subst (λ (x : Region). in_range x.at x.len a ≡ false) same (rw own at parts.0)
      | inr later ↦ outside_recorded r rs a other later parts.1
    ]

-- A byte of the flex store lies in no other recorded range.
pub flex_alone : (rs : List Region) (a : ℕ) → AreRangesApart rs → is_in_flex_store rs a ≡ true → is_in_other_record rs a ≡ false
flex_alone [] a apart is = refl
flex_alone (r ∷ rs) a apart is = elim (cases_Bool (is_flex_store r.kind && in_range r.at r.len a)) [
  | inl here ↦
      let parts = and_parts (is_flex_store r.kind) (in_range r.at r.len a) here in
      or_from (not (is_flex_store r.kind) && in_range r.at r.len a) (is_in_other_record rs a) (rw parts.0 refl) (others_clear r rs a apart.0 parts.1)
  | inr other ↦
      let later : is_in_flex_store rs a ≡ true = rw other at is in
      or_from (not (is_flex_store r.kind) && in_range r.at r.len a) (is_in_other_record rs a)
      (and_false (not (is_flex_store r.kind)) (in_range r.at r.len a) (clear_of_flex r rs a apart.0 later)) (flex_alone rs a apart.1 later)
] where
  and_false : (x y : Bool) → y ≡ false → (x && y) ≡ false
  and_false true y none = none
  and_false false y none = refl

  others_clear : (r : Region) (rs : List Region) (a : ℕ) → IsClearOfRanges r rs → in_range r.at r.len a ≡ true → is_in_other_record rs a ≡ false
  others_clear r [] a clear inside = refl
  others_clear r (q ∷ rs) a clear inside =
      or_from (not (is_flex_store q.kind) && in_range q.at q.len a) (is_in_other_record rs a)
      (and_false (not (is_flex_store q.kind)) (in_range q.at q.len a) (clear.0 a inside)) (others_clear r rs a clear.1 inside)

flex_outside : (s : Store) (r : Region) (a : ℕ) → IsSound s → AreAnchorsFree s → is_flex_store r.kind ≡ false → IsRecorded r s.others
    → is_flex_byte s a ≡ true → in_range r.at r.len a ≡ false
unfolding AreAnchorsFree
flex_outside s r a sound free other recorded is = elim (or_cases (is_in_flex_store s.others a) (s.anchor a) is) [
  | inl there ↦ flex_apart r s.others a other sound.apart recorded there
  | inr anchor ↦ outside_recorded r s.others a other recorded (free a anchor)
]

pub system_keeps : (s : Store) (c : Bytes) → IsSound s → IsRecorded system_pages_range s.others
    → ((a : ℕ) → in_range system_start 0x3000 a ≡ false → c.at a ≡ s.bytes.at a) → KeepsFlex s (record s { bytes = c })
unfolding KeepsFlex
system_keeps s c sound recorded outside free =
    writes_keep s c s.heaps (λ a is. outside a (flex_outside s system_pages_range a sound free refl recorded is)) free

-- a byte of the flex store is none of a live block that no anchor lies in
flex_unheld : (s : Store) (h : HeapList) (block total a : ℕ) → IsSound s → find_heap module_area_start s.heaps ≡ Some h
    → live_total block (h.start + 16) h.items ≡ Some total → RangeHasNoAnchor s block (total - 4) → is_flex_byte s a ≡ true
    → in_range block (total - 4) a ≡ false
unfolding RangeHasNoAnchor
flex_unheld s h block total a sound found live unanchored is =
    false_from_ne_true (in_range block (total - 4) a) (λ inside.
    elim (or_cases (is_in_flex_store s.others a) (s.anchor a) is) [
      | inr anchor ↦ both_ways (s.anchor a) (unanchored a inside) anchor
      | inl there ↦
          let heap : IsHeapIn s.bytes h.start h.end h.items = found_heap s.bytes module_area_start s.heaps h sound.heaps found in
          let place : LiveBytes block total (h.start + 16) (h.start + 16 + size_of h.items) = law_live_bytes block total (h.start + 16) h.items heap.totals live in
          let parts : (block ≤ a) × (a < block + (total - 4)) = range_parts block (total - 4) a inside in
          let low : h.start ≤ a = omega (arith, place.low, parts.0) in
          let high : a < h.start + h.end = omega (arith, place.high, place.size, parts.1, heap.inside) in
          both_ways (in_range h.start h.end a) (header_outside module_area_start s.heaps s.others h a sound.placed found there)
          (rw (le-leb h.start a low, lt-ltb a (h.start + h.end) high) refl)
    ])

pub block_keeps : (s : Store) (c : Bytes) (block total : ℕ) → IsSound s
    → OfHeap (λ h. live_total block (h.start + 16) h.items ≡ Some total) (find_heap module_area_start s.heaps) → RangeHasNoAnchor s block (total - 4)
    → ((a : ℕ) → in_range block (total - 4) a ≡ false → c.at a ≡ s.bytes.at a) → KeepsFlex s (record s { bytes = c })
block_keeps s c block total sound live unanchored outside = of_heap (find_heap module_area_start s.heaps) refl live where
  of_heap : (o : Option HeapList) → find_heap module_area_start s.heaps ≡ o → OfHeap (λ h. live_total block (h.start + 16) h.items ≡ Some total) o
      → KeepsFlex s (record s { bytes = c })
  of_heap None found live = absurd live
  of_heap (Some h) found live = writes_keep s c s.heaps (λ a is. outside a (flex_unheld s h block total a sound found live unanchored is))

-- a range that no anchor lies in, after other bytes were written
pub unanchored_written : (s : Store) (c : Bytes) (at len : ℕ) → RangeHasNoAnchor s at len → RangeHasNoAnchor (record s { bytes = c }) at len
unfolding RangeHasNoAnchor
unanchored_written s c at len unanchored a inside = unanchored a inside

pub unanchored_by : (s : Store) (at len : ℕ) → anchor_among s.anchor at len ≡ false → RangeHasNoAnchor s at len
unfolding RangeHasNoAnchor
unanchored_by s at len none a inside =
    let parts : (at ≤ a) × (a < at + len) = range_parts at len a inside in
    none_among s.anchor at len a none parts.0 parts.1

-- other ranges are recorded
records_keep : (s : Store) (rs : List Region) → beside_images rs ≡ beside_images s.others
    → ((a : ℕ) → s.anchor a ≡ true → is_in_other_record s.others a ≡ false → is_in_other_record rs a ≡ false) → KeepsFlex s (record s { others = rs })
unfolding KeepsFlex AreAnchorsFree
records_keep s rs beside kept free =
    (record { bytes = λ a is. refl; anchors = λ a. refl; headers = λ a. refl; beside = beside }, λ a is. kept a is (free a is))

beside_more : (rs : List Region) (r : Region) → is_image r.kind ≡ true → beside_images (rs ++ r ∷ []) ≡ beside_images rs
beside_more [] r image = rw image refl
beside_more (q ∷ rs) r image = elim (cases_Bool (is_image q.kind)) [
  | inl own ↦ rw own (beside_more rs r image)
  | inr other ↦ rw (other, beside_more rs r image) refl
]

outside_more : (rs : List Region) (r : Region) (a : ℕ) → is_in_other_record rs a ≡ false → (not (is_flex_store r.kind) && in_range r.at r.len a) ≡ false
    → is_in_other_record (rs ++ r ∷ []) a ≡ false
outside_more [] r a none out = or_from (not (is_flex_store r.kind) && in_range r.at r.len a) false out refl
outside_more (q ∷ rs) r a none out =
    let parts = or_parts (not (is_flex_store q.kind) && in_range q.at q.len a) (is_in_other_record rs a) none in
    or_from (not (is_flex_store q.kind) && in_range q.at q.len a) (is_in_other_record (rs ++ r ∷ []) a) parts.0 (outside_more rs r a parts.1 out)

-- the record of an image more, over a range that no anchor lies in, or of one less
pub recorded_keeps : (s : Store) (at len : ℕ) → RangeHasNoAnchor s at len
    → KeepsFlex s (record s { others = s.others ++ record { kind = kind.Image; at = at; len = len } ∷ [] })
unfolding RangeHasNoAnchor
recorded_keeps s at len unanchored =
    let r : Region = record { kind = kind.Image; at = at; len = len } in
    records_keep s (s.others ++ r ∷ []) (beside_more s.others r refl)
    (λ a is none. outside_more s.others r a none (false_from_ne_true (in_range at len a) (λ inside. both_ways (s.anchor a) (unanchored a inside) is)))

same_image : (k : Kind) → are_same kind.Image k ≡ true → is_image k ≡ true
same_image kind.Image same = refl
same_image kind.Heap same = same
same_image kind.Rma same = same
same_image kind.FlexStore same = same
same_image kind.FlexHeader same = same
same_image kind.Anchor same = same
same_image kind.HeadWord same = same
same_image kind.SystemPage same = same

beside_less : (rs : List Region) (at : ℕ) → beside_images (without_region rs kind.Image at) ≡ beside_images rs
beside_less [] at = refl
beside_less (r ∷ rs) at = elim (cases_Bool (is_record kind.Image at r)) [
  | inl here ↦
      let image : is_image r.kind ≡ true = same_image r.kind (and_parts (are_same kind.Image r.kind) (r.at == at) here).0 in
      rw (here, image) refl
  | inr other ↦ elim (cases_Bool (is_image r.kind)) [
    | inl image ↦ rw (other, image) (beside_less rs at)
    | inr apart ↦ rw (other, apart, beside_less rs at) refl
  ]
]

outside_less : (rs : List Region) (at a : ℕ) → is_in_other_record rs a ≡ false → is_in_other_record (without_region rs kind.Image at) a ≡ false
outside_less [] at a none = refl
outside_less (r ∷ rs) at a none =
    let parts = or_parts (not (is_flex_store r.kind) && in_range r.at r.len a) (is_in_other_record rs a) none in
    elim (cases_Bool (is_record kind.Image at r)) [
      | inl here ↦ rw here parts.1
      | inr other ↦ rw (other, parts.0) (outside_less rs at a parts.1)
    ]

pub dropped_keeps : (s : Store) (at : ℕ) → KeepsFlex s (record s { others = without_region s.others kind.Image at })
dropped_keeps s at =
    records_keep s (without_region s.others kind.Image at) (beside_less s.others at) (λ a is none. outside_less s.others at a none)

pub writes_keep_all : WritesKeepFlex
writes_keep_all s = record {
  system = λ c sound recorded outside. system_keeps s c sound recorded outside;
  block = λ c block total sound live unanchored outside. block_keeps s c block total sound live unanchored outside;
  written = λ c at len unanchored. unanchored_written s c at len unanchored;
  unanchored = λ at len none. unanchored_by s at len none;
  recorded = λ at len unanchored. recorded_keeps s at len unanchored;
  dropped = λ at. dropped_keeps s at;
}
