-- How many heaps a store has, and how many ranges are recorded.
use Rattle.os_heap_words.specs.MemoryMap.{module_area_start}
use Rattle.std.proofs.Common.{ap, arith, inl, ◌+◌, ◌≡◌, ℕ, true, inr, refl, false, [], List, ◌∷◌, ◌++◌, ◌≤◌, ◌<◌, length}
use Rattle.std.proofs.lemmas.Bool.{cases_Bool, false≢true, leb-false}
use Rattle.os_heap_words.specs.Bytes.{Bytes}
use Rattle.os_heap_words.specs.Memory.{bytes_of, regions}
use Rattle.os_heap_words.specs.Records.{is_heap_kind}
use Rattle.os_heap_words.specs.AddressMap.{AddressMap}
use Rattle.os_heap_words.specs.Kind.{Kind}
use Rattle.os_heap_words.specs.Region.{Region}
use Rattle.os_heap_words.specs.lists.Heap.{HeapList}
use Rattle.os_heap.specs.Ranges.{IsWithinHeapLimit}
use Rattle.os_heap.specs.Store.{Store, IsSound, heaps_in, others_in, store_of, is_module_area, guest_count, area_count, StandAreas, AreInLimits}
use Rattle.os_heap_words.specs.Kind.TheVariants as kind

-- a heap without items
abbrev pub empty : Kind → ℕ → ℕ → HeapList
empty kind at size = record { kind = kind; start = at; end = size; items = [] }

-- one heap more is counted
guests_more : (hs : List HeapList) (h : HeapList) → is_module_area h.kind ≡ false → guest_count (hs ++ h ∷ []) ≡ guest_count hs + 1
guests_more [] h guest = rw guest refl
guests_more (g ∷ hs) h guest = elim (cases_Bool (is_module_area g.kind)) [
  | inl area ↦ rw area (guests_more hs h guest)
  | inr other ↦ rw other (omega (arith, guests_more hs h guest))
]

guests_same : (hs : List HeapList) (h : HeapList) → is_module_area h.kind ≡ true → guest_count (hs ++ h ∷ []) ≡ guest_count hs
guests_same [] h area = rw area refl
guests_same (g ∷ hs) h area = elim (cases_Bool (is_module_area g.kind)) [
  | inl there ↦ rw there (guests_same hs h area)
  | inr other ↦ rw other (omega (arith, guests_same hs h area))
]

areas_more : (hs : List HeapList) (h : HeapList) → area_count (hs ++ h ∷ []) ≤ area_count hs + 1
areas_more [] h = elim (cases_Bool (is_module_area h.kind)) [ inl area ↦ rw area (omega arith) | inr other ↦ rw other (omega arith) ]
areas_more (g ∷ hs) h = elim (cases_Bool (is_module_area g.kind)) [
  | inl there ↦ rw there (omega (arith, areas_more hs h))
  | inr other ↦ rw other (areas_more hs h)
]

areas_same : (hs : List HeapList) (h : HeapList) → is_module_area h.kind ≡ false → area_count (hs ++ h ∷ []) ≡ area_count hs
areas_same [] h guest = rw guest refl
areas_same (g ∷ hs) h guest = elim (cases_Bool (is_module_area g.kind)) [
  | inl there ↦ rw there (omega (arith, areas_same hs h guest))
  | inr other ↦ rw other (areas_same hs h guest)
]

stand_more : (hs : List HeapList) (h : HeapList) → (is_module_area h.kind ≡ true → h.start ≡ module_area_start) → StandAreas hs → StandAreas (hs ++ h ∷ [])
stand_more [] h here stand = (here, tt)
stand_more (g ∷ hs) h here stand = (stand.0, stand_more hs h here stand.1)

pub limits_more : (k : Kind) (s : Store) (at size : ℕ) → IsWithinHeapLimit k s at → AreInLimits s.heaps → AreInLimits (s.heaps ++ empty k at size ∷ [])
limits_more kind.Heap s at size room limits = record {
  guests = omega (arith, guests_more s.heaps (empty kind.Heap at size) refl, leb-false 64 (guest_count s.heaps) room);
  areas = omega (arith, areas_same s.heaps (empty kind.Heap at size) refl, limits.areas);
  place = stand_more s.heaps (empty kind.Heap at size) (λ area. absurd (false≢true area)) limits.place;
}
limits_more kind.Rma s at size room limits = record {
  guests = omega (arith, guests_same s.heaps (empty kind.Rma at size) refl, limits.guests);
  areas = omega (arith, areas_more s.heaps (empty kind.Rma at size), ap area_count room.0);
  place = stand_more s.heaps (empty kind.Rma at size) (λ _. room.1) limits.place;
}
limits_more kind.FlexStore s at size room limits = absurd room
limits_more kind.FlexHeader s at size room limits = absurd room
limits_more kind.Anchor s at size room limits = absurd room
limits_more kind.HeadWord s at size room limits = absurd room
limits_more kind.Image s at size room limits = absurd room
limits_more kind.SystemPage s at size room limits = absurd room

heaps_counted : (hs : List HeapList) → length hs ≡ guest_count hs + area_count hs
heaps_counted [] = refl
heaps_counted (h ∷ hs) = elim (cases_Bool (is_module_area h.kind)) [
  | inl area ↦ rw area (omega (arith, heaps_counted hs))
  | inr other ↦ rw other (omega (arith, heaps_counted hs))
]

few_heaps : (k : Kind) (s : Store) (at : ℕ) → IsWithinHeapLimit k s at → AreInLimits s.heaps → length s.heaps ≤ 64
few_heaps kind.Heap s at room limits = omega (arith, heaps_counted s.heaps, leb-false 64 (guest_count s.heaps) room, limits.areas)
few_heaps kind.Rma s at room limits = omega (arith, ap length room.0)
few_heaps kind.FlexStore s at room limits = absurd room
few_heaps kind.FlexHeader s at room limits = absurd room
few_heaps kind.Anchor s at room limits = absurd room
few_heaps kind.HeadWord s at room limits = absurd room
few_heaps kind.Image s at room limits = absurd room
few_heaps kind.SystemPage s at room limits = absurd room

records_counted : (b : Bytes) (rs : List Region) → length rs ≡ length (heaps_in b rs) + length (others_in rs)
records_counted b [] = refl
records_counted b (r ∷ rs) =
    elim (cases_Bool (is_heap_kind r.kind)) [
      | inl heap ↦ rw heap (omega (arith, records_counted b rs))
      | inr other ↦ rw other (omega (arith, records_counted b rs))
    ]

pub records_room : (m : AddressMap) (k : Kind) (at : ℕ) → IsSound (store_of m) → IsWithinHeapLimit k (store_of m) at → length (regions m) < 133
unfolding store_of
records_room m k at sound room =
    omega (arith, records_counted (bytes_of m) (regions m), few_heaps k (store_of m) at room sound.limits, sound.few)

-- the same of another record
pub range_room : (m : AddressMap) → IsSound (store_of m) → length (store_of m).others < 68 → length (regions m) < 133
unfolding store_of
range_room m sound room =
    omega (arith, records_counted (bytes_of m) (regions m), heaps_counted (store_of m).heaps, sound.limits.guests, sound.limits.areas, room)
