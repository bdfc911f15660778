-- The records of images follow their blocks, and those of other ranges stay.
use Rattle.std.proofs.Common.{List, ℕ, Bool, [], ◌∷◌, ◌≡◌, ◌≢◌, ◌≤◌, ◌<◌, ◌⊎◌, ◌+◌, ◌∙◌, true, false, refl, sym, ap, subst, inl, inr, Some, arith}
use Rattle.std.proofs.lemmas.Bool.{both_ways, cases_Bool, cases_eq, eq-eqb, ne_eqb, false≢true}
use Rattle.dynamic_areas.proofs.InRange.{range_inside}
use Rattle.dynamic_areas.proofs.AddressMapStores.{in_range-cases}
use Rattle.dynamic_areas.specs.Bytes.{Bytes, in_range}
use Rattle.dynamic_areas.specs.Items.{size_of}
use Rattle.dynamic_areas.specs.Moves.{moved_place, moved_region, moved_regions, moved_to}
use Rattle.dynamic_areas.specs.Records.{is_heap_kind}
use Rattle.dynamic_areas.specs.BlockMove.{BlockMove}
use Rattle.dynamic_areas.specs.Item.{Item}
use Rattle.dynamic_areas.specs.Kind.{Kind}
use Rattle.dynamic_areas.specs.Kind.TheVariants as kind
use Rattle.dynamic_areas.specs.Region.{Region}
use Rattle.dynamic_areas.proofs.LiveBlocks.{LiveBytes, live_apart, law_live_bytes}
use Rattle.dynamic_areas.specs.Heap.{HeapList, IsHeapIn}
use Rattle.dynamic_areas.specs.OsHeapWordsLists.{live_total}
use Rattle.dynamic_areas.proofs.Apart.{range_parts}
use Rattle.dynamic_areas.proofs.Nesting.{clear_turned, listed}
use Rattle.dynamic_areas.proofs.Stores.{AreOthers, placed_by}
use Rattle.dynamic_areas.specs.Calls.{heaps_with_items}
use Rattle.dynamic_areas.specs.Nesting.{IsWithin, StandsApart}
use Rattle.dynamic_areas.specs.Store.{AreClear, AreHeapsIn, ArePlaced, AreRangesApart, find_heap, heaps_in, is_module_area, is_image, IsClearOfRanges, IsImageBlock, IsPlacedIn, others_in}
use Rattle.rma.proofs.HeapSlideLemmas.Beside.{fixed_round, holds_rest, stays_live}
use Rattle.rma.proofs.HeapSlideLemmas.Places.{low_still, moved_live, moved_stays, past_still, stay_distinct}
use Rattle.rma.specs.heap_slide.Slide.{HoldNoHeap, is_listed, moves_of, slid}

-- kinds whose records stay, and the one whose records follow
pub image_place : (moves : List BlockMove) (k : Kind) (a : ℕ) → is_image k ≡ true → moved_place moves k a ≡ moved_to moves a
image_place moves kind.Image a is = refl
image_place moves kind.Heap a is = absurd (false≢true is)
image_place moves kind.Rma a is = absurd (false≢true is)
image_place moves kind.FlexStore a is = absurd (false≢true is)
image_place moves kind.FlexHeader a is = absurd (false≢true is)
image_place moves kind.Anchor a is = absurd (false≢true is)
image_place moves kind.HeadWord a is = absurd (false≢true is)
image_place moves kind.SystemPage a is = absurd (false≢true is)

pub still_place : (moves : List BlockMove) (k : Kind) (a : ℕ) → moved_to moves a ≡ a → moved_place moves k a ≡ a
still_place moves kind.Image a still = still
still_place moves kind.Heap a still = refl
still_place moves kind.Rma a still = refl
still_place moves kind.FlexStore a still = refl
still_place moves kind.FlexHeader a still = refl
still_place moves kind.Anchor a still = refl
still_place moves kind.HeadWord a still = refl
still_place moves kind.SystemPage a still = refl

heap_place : (moves : List BlockMove) (k : Kind) (a : ℕ) → is_heap_kind k ≡ true → moved_place moves k a ≡ a
heap_place moves kind.Heap a is = refl
heap_place moves kind.Rma a is = refl
heap_place moves kind.Image a is = absurd (false≢true is)
heap_place moves kind.FlexStore a is = refl
heap_place moves kind.FlexHeader a is = refl
heap_place moves kind.Anchor a is = refl
heap_place moves kind.HeadWord a is = refl
heap_place moves kind.SystemPage a is = refl

-- the heaps are recorded where they were, and the others are those that follow
pub heaps_moved : (b : Bytes) (moves : List BlockMove) (rs : List Region) → heaps_in b (moved_regions moves rs) ≡ heaps_in b rs
heaps_moved b moves [] = refl
heaps_moved b moves (r ∷ rs) = elim (cases_Bool (is_heap_kind r.kind)) [
  | inl heap ↦ rw (heap, heap_place moves r.kind r.at heap, heaps_moved b moves rs) refl
  | inr other ↦ rw (other, heaps_moved b moves rs) refl
]

pub others_moved : (moves : List BlockMove) (rs : List Region) → others_in (moved_regions moves rs) ≡ moved_regions moves (others_in rs)
others_moved moves [] = refl
others_moved moves (r ∷ rs) = elim (cases_Bool (is_heap_kind r.kind)) [
  | inl heap ↦ rw heap (others_moved moves rs)
  | inr other ↦ rw other (ap (λ (qs : List Region). moved_region moves r ∷ qs) (others_moved moves rs))
]

-- ranges that share no address
apart_clear : (at len b other : ℕ) → (at + len ≤ b) ⊎ (b + other ≤ at) → AreClear at len b other
apart_clear at len b other apart a inside =
    let here : (at ≤ a) × (a < at + len) = range_parts at len a inside in
    elim (in_range-cases b other a) [
      | inl r ↦
          let there : (b ≤ a) × (a < b + other) = range_parts b other a r.0 in
          absurd (elim apart [ inl low ↦ omega (arith, here.1, there.0) | inr past ↦ omega (arith, here.0, there.1) ])
      | inr r ↦ r.0
    ]

empty_clear : (at len b other : ℕ) → len ≡ 0 → AreClear at len b other
empty_clear at len b other none a inside = let here : (at ≤ a) × (a < at + len) = range_parts at len a inside in absurd (omega (arith, here.0, here.1))

clear_empty : (at len b other : ℕ) → other ≡ 0 → AreClear at len b other
clear_empty at len b other none a inside = elim (in_range-cases b other a) [
  | inl r ↦ let there : (b ≤ a) × (a < b + other) = range_parts b other a r.0 in absurd (omega (arith, there.0, there.1))
  | inr r ↦ r.0
]

-- a range in another one that is clear of a third
within_clear : (at len b other c size : ℕ) → b ≤ at → at + len ≤ b + other → AreClear b other c size → AreClear at len c size
within_clear at len b other c size low high clear a inside =
    let here : (at ≤ a) × (a < at + len) = range_parts at len a inside in
    clear a (range_inside b other a (omega (arith, here.0)) (omega (arith, here.1)))

-- What a record is to the heap that slides: empty, clear of it and unmoved, or that of an image in
-- it.
pub record IsStill (h : HeapList) (moves : List BlockMove) (r : Region) : Type 0 where
  pub place : moved_place moves r.kind r.at ≡ r.at
  pub clear : AreClear h.start h.end r.at r.len

abbrev pub IsKnown : HeapList → List BlockMove → Region → Type 0
IsKnown h moves r = (r.len ≡ 0) ⊎ (IsStill h moves r ⊎ IsImageBlock h r)

-- what the slide is of
pub record IsSlide (b c : Bytes) (h : HeapList) (movable : List ℕ) : Type 0 where
  pub old : IsHeapIn b h.start h.end h.items
  pub new : IsHeapIn c h.start h.end (slid (is_listed movable) (h.start + 16) (h.start + 16) h.items)

abbrev pub moves_in : HeapList → List ℕ → List BlockMove
moves_in h movable = moves_of (is_listed movable) (h.start + 16) (h.start + 16) h.items

abbrev pub slid_in : HeapList → List ℕ → List Item
slid_in h movable = slid (is_listed movable) (h.start + 16) (h.start + 16) h.items

-- an address out of the heap is no block that moves
pub out_still : (b c : Bytes) (h : HeapList) (movable : List ℕ) (a : ℕ) → IsSlide b c h movable → in_range h.start h.end a ≡ false
    → moved_to (moves_in h movable) a ≡ a
out_still b c h movable a s out = elim (in_range-cases h.start h.end a) [
  | inl r ↦ absurd (false≢true (sym out ∙ r.0))
  | inr r ↦ elim r.1 [
    | inl low ↦ low_still (is_listed movable) (h.start + 16) (h.start + 16) h.items a (omega arith)
    | inr past ↦ past_still (is_listed movable) (h.start + 16) (h.start + 16) h.items a s.old.totals (omega (arith, s.old.inside))
  ]
]

clear_still : (b c : Bytes) (h : HeapList) (movable : List ℕ) (r : Region) → IsSlide b c h movable → AreClear r.at r.len h.start h.end → IsKnown h (moves_in h movable) r
clear_still b c h movable r s clear = elim (cases_eq r.len 0) [
  | inl none ↦ inl none
  | inr some ↦ inr (inl (record {
    place = still_place (moves_in h movable) r.kind r.at
        (out_still b c h movable r.at s (clear r.at (range_inside r.at r.len r.at (omega arith) (omega (arith, some)))));
    clear = clear_turned r.at r.len h.start h.end clear;
  }))
]

-- the bytes of an image in a heap
image_range : (b : Bytes) (g : HeapList) (r : Region) → IsHeapIn b g.start g.end g.items → IsImageBlock g r
    → (g.start ≤ r.at) × ((r.at + r.len ≤ g.start + g.end) × (4 ≤ r.len))
image_range b g r heap image =
    let place : LiveBytes r.at (r.len + 4) (g.start + 16) (g.start + 16 + size_of g.items) = law_live_bytes r.at (r.len + 4) (g.start + 16) g.items heap.totals image.live in
    (omega (arith, place.low), (omega (arith, place.high, heap.inside), omega (arith, place.size)))

known : (b c : Bytes) (h : HeapList) (hs : List HeapList) (movable : List ℕ) (r : Region) → IsSlide b c h movable → find_heap h.start hs ≡ Some h
    → IsPlacedIn hs r → IsKnown h (moves_in h movable) r
known b c h hs movable r s found placed = elim (placed_by h.start hs h r placed found) [
  | inl clear ↦ clear_still b c h movable r s clear
  | inr image ↦ inr (inr image)
]

-- an image in the heap is one at its new place
pub image_moved : (b c : Bytes) (h : HeapList) (movable : List ℕ) (r : Region) → IsSlide b c h movable → IsImageBlock h r
    → live_total (moved_place (moves_in h movable) r.kind r.at) (h.start + 16) (slid_in h movable) ≡ Some (r.len + 4)
image_moved b c h movable r s image =
    rw (image_place (moves_in h movable) r.kind r.at image.image)
    (moved_live (is_listed movable) (h.start + 16) (h.start + 16) h.items r.at (r.len + 4) (omega arith) s.old.totals image.live)

moved_range : (b c : Bytes) (h : HeapList) (movable : List ℕ) (r : Region) → IsSlide b c h movable → IsImageBlock h r
    → (h.start ≤ moved_place (moves_in h movable) r.kind r.at) × (moved_place (moves_in h movable) r.kind r.at + r.len ≤ h.start + h.end)
moved_range b c h movable r s image =
    let new : ℕ = moved_place (moves_in h movable) r.kind r.at in
    let place : LiveBytes new (r.len + 4) (h.start + 16) (h.start + 16 + size_of (slid_in h movable)) =
    law_live_bytes new (r.len + 4) (h.start + 16) (slid_in h movable) s.new.totals (image_moved b c h movable r s image) in
    (omega (arith, place.low), omega (arith, place.high, s.new.inside))

-- two records are apart afterwards
both_images : (b c : Bytes) (h : HeapList) (movable : List ℕ) (r q : Region) → IsSlide b c h movable → IsImageBlock h r → IsImageBlock h q
    → AreClear r.at r.len q.at q.len
    → AreClear (moved_place (moves_in h movable) r.kind r.at) r.len (moved_place (moves_in h movable) q.kind q.at) q.len
both_images b c h movable r q s one two clear =
    let mv : ℕ → Bool = is_listed movable in
    let moves : List BlockMove = moves_in h movable in
    let range : (h.start ≤ r.at) × ((r.at + r.len ≤ h.start + h.end) × (4 ≤ r.len)) = image_range b h r s.old one in
    let range' : (h.start ≤ q.at) × ((q.at + q.len ≤ h.start + h.end) × (4 ≤ q.len)) = image_range b h q s.old two in
    let other : r.at ≢ q.at = λ (e : r.at ≡ q.at).
    false≢true (sym (clear r.at (range_inside r.at r.len r.at (omega arith) (omega (arith, range.1.1))))
    ∙ range_inside q.at q.len r.at (omega (arith, e)) (omega (arith, e, range'.1.1))) in
    let distinct : moved_to moves r.at ≢ moved_to moves q.at =
    stay_distinct mv (h.start + 16) (h.start + 16) h.items r.at (r.len + 4) q.at (q.len + 4) (omega arith) s.old.totals one.live two.live other in
    let new : ℕ = moved_place moves r.kind r.at in
    let new' : ℕ = moved_place moves q.kind q.at in
    let ne : new ≢ new' = λ (e : new ≡ new'). distinct (sym (image_place moves r.kind r.at one.image) ∙ e ∙ image_place moves q.kind q.at two.image) in
    let low : LiveBytes new (r.len + 4) (h.start + 16) (h.start + 16 + size_of (slid_in h movable)) =
    law_live_bytes new (r.len + 4) (h.start + 16) (slid_in h movable) s.new.totals (image_moved b c h movable r s one) in
    let low' : LiveBytes new' (q.len + 4) (h.start + 16) (h.start + 16 + size_of (slid_in h movable)) =
    law_live_bytes new' (q.len + 4) (h.start + 16) (slid_in h movable) s.new.totals (image_moved b c h movable q s two) in
    apart_clear new r.len new' q.len
    (elim (live_apart new (r.len + 4) new' (q.len + 4) (h.start + 16) (slid_in h movable) s.new.totals
    (image_moved b c h movable r s one) (image_moved b c h movable q s two) ne) [
      | inl before ↦ inl (omega (arith, before))
      | inr behind ↦ inr (omega (arith, behind))
    ])

pair_apart : (b c : Bytes) (h : HeapList) (movable : List ℕ) (r q : Region) → IsSlide b c h movable → IsKnown h (moves_in h movable) r
    → IsKnown h (moves_in h movable) q → AreClear r.at r.len q.at q.len
    → AreClear (moved_place (moves_in h movable) r.kind r.at) r.len (moved_place (moves_in h movable) q.kind q.at) q.len
pair_apart b c h movable r q s (inl none) two clear = empty_clear _ r.len _ q.len none
pair_apart b c h movable r q s (inr one) (inl none) clear = clear_empty _ r.len _ q.len none
pair_apart b c h movable r q s (inr (inl one)) (inr (inl two)) clear = rw (one.place, two.place) clear
pair_apart b c h movable r q s (inr (inl one)) (inr (inr two)) clear =
    let range : (h.start ≤ moved_place (moves_in h movable) q.kind q.at) × (moved_place (moves_in h movable) q.kind q.at + q.len ≤ h.start + h.end) =
    moved_range b c h movable q s two in
    rw one.place (clear_turned _ q.len r.at r.len (within_clear _ q.len h.start h.end r.at r.len range.0 range.1 one.clear))
pair_apart b c h movable r q s (inr (inr one)) (inr (inl two)) clear =
    let range : (h.start ≤ moved_place (moves_in h movable) r.kind r.at) × (moved_place (moves_in h movable) r.kind r.at + r.len ≤ h.start + h.end) =
    moved_range b c h movable r s one in
    rw two.place (within_clear _ r.len h.start h.end q.at q.len range.0 range.1 two.clear)
pair_apart b c h movable r q s (inr (inr one)) (inr (inr two)) clear = both_images b c h movable r q s one two clear

abbrev AreKnown : HeapList → List BlockMove → List Region → Type 0
AreKnown h moves [] = Unit {0}
AreKnown h moves (r ∷ rs) = IsKnown h moves r × AreKnown h moves rs

all_known : (b c : Bytes) (h : HeapList) (hs : List HeapList) (movable : List ℕ) (rs : List Region) → IsSlide b c h movable → find_heap h.start hs ≡ Some h
    → ArePlaced hs rs → AreKnown h (moves_in h movable) rs
all_known b c h hs movable [] s found placed = tt
all_known b c h hs movable (r ∷ rs) s found placed =
    (known b c h hs movable r s found placed.0, all_known b c h hs movable rs s found placed.1)

one_apart : (b c : Bytes) (h : HeapList) (movable : List ℕ) (r : Region) (rs : List Region) → IsSlide b c h movable → IsKnown h (moves_in h movable) r
    → AreKnown h (moves_in h movable) rs → IsClearOfRanges r rs
    → IsClearOfRanges (moved_region (moves_in h movable) r) (moved_regions (moves_in h movable) rs)
one_apart b c h movable r [] s one all clear = tt
one_apart b c h movable r (q ∷ rs) s one all clear =
    (pair_apart b c h movable r q s one all.0 clear.0, one_apart b c h movable r rs s one all.1 clear.1)

all_apart : (b c : Bytes) (h : HeapList) (movable : List ℕ) (rs : List Region) → IsSlide b c h movable → AreKnown h (moves_in h movable) rs
    → AreRangesApart rs → AreRangesApart (moved_regions (moves_in h movable) rs)
all_apart b c h movable [] s all apart = tt
all_apart b c h movable (r ∷ rs) s all apart =
    (one_apart b c h movable r rs s all.0 all.1 apart.0, all_apart b c h movable rs s all.1 apart.1)

pub ranges_apart : (b c : Bytes) (h : HeapList) (hs : List HeapList) (movable : List ℕ) (rs : List Region) → IsSlide b c h movable
    → find_heap h.start hs ≡ Some h → ArePlaced hs rs → AreRangesApart rs → AreRangesApart (moved_regions (moves_in h movable) rs)
ranges_apart b c h hs movable rs s found placed apart = all_apart b c h movable rs s (all_known b c h hs movable rs s found placed) apart

-- An image in the heap that slides holds no other heap at its new place: one that lies in the heap
-- lies in a block that stays, and not in that of the image.
not_round : (b : Bytes) (h g : HeapList) (r : Region) → IsHeapIn b g.start g.end g.items → IsImageBlock h r → (within : IsWithin h g)
    → AreClear r.at r.len g.start g.end ⊎ IsImageBlock g r → r.at ≢ within.block
not_round b h g r heap image within (inr own) same = both_ways (is_module_area g.kind) within.guest own.area
not_round b h g r heap image within (inl clear) same =
    let both : Some (r.len + 4) ≡ Some within.total =
    sym (subst (λ (x : ℕ). live_total x (h.start + 16) h.items ≡ Some (r.len + 4)) same image.live) ∙ within.live in
    let size : r.len + 4 ≡ within.total = cc in
    false≢true (sym (clear g.start (range_inside r.at r.len g.start (omega (arith, within.low, same)) (omega (arith, within.high, same, size, heap.inside))))
    ∙ range_inside g.start g.end g.start (omega arith) (omega (arith, heap.inside)))

image_aside : (b c : Bytes) (h g : HeapList) (movable : List ℕ) (r : Region) → IsSlide b c h movable → IsHeapIn b g.start g.end g.items
    → IsImageBlock h r → ((within : IsWithin h g) → is_listed movable within.block ≡ false) → StandsApart h g
    → AreClear r.at r.len g.start g.end ⊎ IsImageBlock g r → AreClear (moved_place (moves_in h movable) r.kind r.at) r.len g.start g.end
image_aside b c h g movable r s heap image fixed (inl clear) placed =
    let range : (h.start ≤ moved_place (moves_in h movable) r.kind r.at) × (moved_place (moves_in h movable) r.kind r.at + r.len ≤ h.start + h.end) =
    moved_range b c h movable r s image in
    within_clear _ r.len h.start h.end g.start g.end range.0 range.1 clear
image_aside b c h g movable r s heap image fixed (inr (inr within)) placed = absurd (both_ways (is_module_area h.kind) within.guest image.area)
image_aside b c h g movable r s heap image fixed (inr (inl within)) placed =
    let mv : ℕ → Bool = is_listed movable in
    let first : ℕ = h.start + 16 in
    let moves : List BlockMove = moves_in h movable in
    let new : ℕ = moved_place moves r.kind r.at in
    let stays : moved_to moves within.block ≡ within.block = moved_stays mv first first h.items within.block (fixed within) in
    let live : live_total within.block first (slid_in h movable) ≡ Some within.total =
    stays_live h movable within.block within.total s.old.totals (fixed within) within.live in
    let distinct : moved_to moves r.at ≢ moved_to moves within.block =
    stay_distinct mv first first h.items r.at (r.len + 4) within.block within.total (omega arith) s.old.totals image.live within.live
    (not_round b h g r heap image within placed) in
    let ne : new ≢ within.block = λ (e : new ≡ within.block). distinct (sym (image_place moves r.kind r.at image.image) ∙ e ∙ sym stays) in
    apart_clear new r.len g.start g.end
    (elim (live_apart new (r.len + 4) within.block within.total first (slid_in h movable) s.new.totals (image_moved b c h movable r s image) live ne) [
      | inl before ↦ inl (omega (arith, before, within.low))
      | inr behind ↦ inr (omega (arith, behind, within.high))
    ])

-- where it lies in the heap that slides, and in each other one
own_placed : (b c : Bytes) (h g : HeapList) (movable : List ℕ) (r : Region) → IsSlide b c h movable → g ≡ h → IsKnown h (moves_in h movable) r
    → AreClear (moved_place (moves_in h movable) r.kind r.at) r.len g.start g.end ⊎ IsImageBlock (listed g (slid_in h movable)) (moved_region (moves_in h movable) r)
own_placed b c h g movable r s same (inl none) = inl (empty_clear _ r.len g.start g.end none)
own_placed b c h g movable r s same (inr (inl still)) =
    inl (rw still.place (clear_turned g.start g.end r.at r.len (subst (λ (x : HeapList). AreClear x.start x.end r.at r.len) (sym same) still.clear)))
own_placed b c h g movable r s same (inr (inr image)) =
    let start : g.start ≡ h.start = ap (λ (x : HeapList). x.start) same in
    inr (record {
      image = image.image;
      area = ap (λ (x : HeapList). is_module_area x.kind) same ∙ image.area;
      live = rw start (image_moved b c h movable r s image);
    })

other_placed : (b c : Bytes) (h g : HeapList) (movable : List ℕ) (r : Region) → IsSlide b c h movable → IsHeapIn b g.start g.end g.items
    → ((within : IsWithin h g) → is_listed movable within.block ≡ false) → StandsApart h g → IsKnown h (moves_in h movable) r
    → AreClear r.at r.len g.start g.end ⊎ IsImageBlock g r
    → AreClear (moved_place (moves_in h movable) r.kind r.at) r.len g.start g.end ⊎ IsImageBlock g (moved_region (moves_in h movable) r)
other_placed b c h g movable r s heap fixed apart (inl none) placed = inl (empty_clear _ r.len g.start g.end none)
other_placed b c h g movable r s heap fixed apart (inr (inr image)) placed = inl (image_aside b c h g movable r s heap image fixed apart placed)
other_placed b c h g movable r s heap fixed apart (inr (inl still)) (inl clear) = inl (rw still.place clear)
other_placed b c h g movable r s heap fixed apart (inr (inl still)) (inr own) =
    inr (record { image = own.image; area = own.area; live = rw still.place own.live })

one_placed : (b c : Bytes) (h : HeapList) (hs : List HeapList) (movable : List ℕ) (r : Region) → IsSlide b c h movable → AreHeapsIn b hs → AreOthers h hs
    → HoldNoHeap hs h movable → IsKnown h (moves_in h movable) r → IsPlacedIn hs r
    → IsPlacedIn (heaps_with_items h.start (slid_in h movable) hs) (moved_region (moves_in h movable) r)
one_placed b c h [] movable r s heaps others none is placed = tt
one_placed b c h (g ∷ hs) movable r s heaps others none is placed =
    let rest : IsPlacedIn (heaps_with_items h.start (slid_in h movable) hs) (moved_region (moves_in h movable) r) =
    one_placed b c h hs movable r s heaps.1.1 others.1 (holds_rest h g movable hs none) is placed.1 in
    elim others.0 [
      | inl same ↦ rw (eq-eqb g.start h.start (ap (λ (x : HeapList). x.start) same)) (own_placed b c h g movable r s same is, rest)
      | inr apart ↦ rw (ne_eqb g.start h.start apart.0)
          (other_placed b c h g movable r s heaps.0 (fixed_round b h g movable hs heaps.0 none) apart.1 is placed.0, rest)
    ]

pub all_placed : (b c : Bytes) (h : HeapList) (hs : List HeapList) (movable : List ℕ) (rs : List Region) → IsSlide b c h movable → AreHeapsIn b hs
    → AreOthers h hs → HoldNoHeap hs h movable → find_heap h.start hs ≡ Some h → ArePlaced hs rs
    → ArePlaced (heaps_with_items h.start (slid_in h movable) hs) (moved_regions (moves_in h movable) rs)
all_placed b c h hs movable [] s heaps others none found placed = tt
all_placed b c h hs movable (r ∷ rs) s heaps others none found placed = (
  one_placed b c h hs movable r s heaps others none (known b c h hs movable r s found placed.0) placed.0,
  all_placed b c h hs movable rs s heaps others none found placed.1,
)
