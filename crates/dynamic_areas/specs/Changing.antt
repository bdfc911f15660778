-- OS_ChangeDynamicArea: an area grows out of the pool, and shrinks down to the first page from its
-- top that must stay (RISC OS 3 Programmer's Reference Manual, "OS_ChangeDynamicArea"; what must
-- stay, and that as many pages move as can, are this project's own).
use Rattle.profile.specs.MemoryMap.{module_area_start}
use Rattle.std.specs.Prelude.{ℕ, ◌+◌, ◌-◌, ◌*◌, ◌/◌, ◌^◌, ◌==◌, ◌||◌, Bool, false, zero, suc, ◌≡◌, nat_lt, min, Option, Some, None, Result, Ok, Err, List, [], ◌∷◌, ◌≤◌, if◌then◌else◌}
use Rattle.profile.specs.Outcome.{bind}
use Rattle.profile.specs.ErrorNumber.{ErrorNumber}
use Rattle.profile.specs.ErrorNumber.TheVariants.{AreaUnknown, AreaInUse, AreaNoPages}
use Rattle.os_heap.specs.Items.{size_of}
use Rattle.os_heap.specs.Records.{anchor_among}
use Rattle.os_heap.specs.Region.{Region}
use Rattle.os_heap.specs.lists.Heap.{HeapList}
use Rattle.os_heap.specs.Store.{Store, AreClear, IsClearOfHeaps, find_heap}
use Rattle.os_heap.specs.Calls.{ending}
use Rattle.os_heap.specs.Ranges.{meets_any}
use Rattle.dynamic_areas.specs.declared.area.Area.{Area}
use Rattle.dynamic_areas.specs.declared.area.Changed.{Changed}
use Rattle.dynamic_areas.specs.Areas.{AreaTable, area_in, find_area, with_areas, with_pages, without_area}
use Rattle.dynamic_areas.specs.Creating.{pages_for}
use Rattle.dynamic_areas.specs.Remapped.{with_pages_at, without_pages_at}

-- a change is a signed word in two's complement; its magnitude is rounded up to pages
abbrev pub is_growth : ℕ → Bool
is_growth amount = nat_lt amount (2 ^ 31)

abbrev pub pages_asked : ℕ → ℕ
pages_asked amount = pages_for (if is_growth amount then amount else 2 ^ 32 - amount)

-- the address after the last item of the module area's heap
abbrev pub heap_base : Option HeapList → ℕ
heap_base None = 0
heap_base (Some h) = h.start + (16 + size_of h.items)

-- Must the page at an address stay? It must where it has a byte of a recorded range or of an
-- anchor; in the module area, which is itself such a range, up to the last byte below its base.
unfoldable pub must_stay : Store → ℕ → ℕ → Bool
must_stay s number page = if number == 1 then nat_lt page (heap_base (find_heap module_area_start s.heaps))
    else meets_any page 4096 s

-- how many of the `n` pages from `base` on are left where those at the top go, up to the first that
-- stays
abbrev pub held_from : (ℕ → Bool) → ℕ → ℕ → ℕ
held_from stays base zero = zero
held_from stays base (suc n) = if stays (base + 4096 * n) then suc n else held_from stays base n

-- as many of the pages asked for as can move; where these are fewer, the error shows why
abbrev pub moving : ℕ → ℕ → ErrorNumber → Changed
moving asked room error = record {
  bytes = 4096 * min asked room;
  error = if nat_lt room asked then Some error
      else None;
}

abbrev pub growth_room : ℕ → Area → ℕ
growth_room free a = min (a.maximum / 4096 - a.pages) free

abbrev pub loose_pages : Store → Area → ℕ
loose_pages s a = a.pages - held_from (must_stay s a.number) a.base a.pages

abbrev pub change_of : Store → ℕ → ℕ → Option Area → Changed
change_of s free amount None = record { bytes = 0; error = Some AreaUnknown }
change_of s free amount (Some a) =
    if is_growth amount
    then moving (pages_asked amount) (growth_room free a) AreaNoPages
    else moving (pages_asked amount) (loose_pages s a) AreaInUse

unfoldable pub change_answer : List Area → Store → ℕ → ℕ → ℕ → Changed
change_answer areas s free number amount = change_of s free amount (find_area number areas)

-- the area table, and the store, after an area got `count` pages more after those that it had, or lost as
-- many at its top
abbrev pub pages_had : Option Area → ℕ
pages_had None = 0
pages_had (Some a) = a.pages

abbrev pub area_table_more : AreaTable → ℕ → ℕ → AreaTable
area_table_more l number count = with_areas l (with_pages number
    (pages_had (find_area number l.areas) + count) l.areas)

abbrev pub area_table_less : AreaTable → ℕ → ℕ → AreaTable
area_table_less l number count = with_areas l (with_pages number
    (pages_had (find_area number l.areas) - count) l.areas)

abbrev pub store_more : Store → ℕ → Option Area → Store
store_more s count None = s
store_more s count (Some a) = with_pages_at s (a.base + 4096 * a.pages) (4096 * count)

abbrev pub store_less : Store → ℕ → Option Area → Store
store_less s count None = s
store_less s count (Some a) = without_pages_at s (a.base + 4096 * (a.pages - count)) (4096 * count)

-- ranges that share no address with a recorded one that is no heap
abbrev pub AreRangesClear : ℕ → ℕ → List Region → Type 0
AreRangesClear at len [] = Unit {0}
AreRangesClear at len (r ∷ rs) = AreClear at len r.at r.len × AreRangesClear at len rs

-- the `count` pages at an area's top can go: they have no byte of a recorded range, nor of an
-- anchor
pub record AreLoose (s : Store) (a : Area) (count : ℕ) : Type 0 where
  pub fits : count ≤ a.pages
  pub heaps : IsClearOfHeaps (a.base + 4096 * (a.pages - count)) (4096 * count) s.heaps
  pub ranges : AreRangesClear (a.base + 4096 * (a.pages - count)) (4096 * count) s.others
  pub anchors : anchor_among s.anchor (a.base + 4096 * (a.pages - count)) (4096 * count) ≡ false

-- OS_DynamicArea, reason 1: an area goes, where all its pages can.
abbrev pub store_emptied : Store → Option Area → Store
store_emptied s None = s
store_emptied s (Some a) = without_pages_at s a.base (4096 * a.pages)

unfoldable pub area_table_after_remove : AreaTable → Store → ℕ → Result AreaTable ErrorNumber
area_table_after_remove l s number =
    bind (area_in l.areas number) (λ a.
    if number == 1 || nat_lt (loose_pages s a) a.pages then Err AreaInUse else
    Ok (with_areas l (without_area number l.areas)))

-- the store after the module area's heap got another end
abbrev pub store_after_end : Store → ℕ → Option HeapList → Store
store_after_end s end None = s
store_after_end s end (Some h) = ending s h end

abbrev pub with_heap_end : Store → ℕ → Store
with_heap_end s end = store_after_end s end (find_heap module_area_start s.heaps)

-- The store after a whole change: where the module area changes, its heap gets the end that the
-- area has then, after pages were mapped, or before they are taken away.
abbrev pub store_extended : Store → ℕ → ℕ → Option Area → Store
store_extended s number count found =
    if number == 1 then with_heap_end (store_more s count found) (4096 * (pages_had found + count))
    else store_more s count found

abbrev pub store_reduced : Store → ℕ → ℕ → Option Area → Store
store_reduced s number count found =
    if number == 1 then store_less (with_heap_end s (4096 * (pages_had found - count))) count found
    else store_less s count found

-- area table and store after a change of so many bytes
abbrev pub area_table_changed : AreaTable → ℕ → ℕ → ℕ → AreaTable
area_table_changed l number amount bytes =
    if is_growth amount then area_table_more l number (bytes / 4096) else area_table_less l number
    (bytes / 4096)

abbrev pub store_changed : Store → List Area → ℕ → ℕ → ℕ → Store
store_changed s areas number amount bytes =
    if is_growth amount
    then store_extended s number (bytes / 4096) (find_area number areas)
    else store_reduced s number (bytes / 4096) (find_area number areas)
