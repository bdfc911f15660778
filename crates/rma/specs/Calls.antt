-- The relocatable module area: the heap at its base, which grows with its area out of the pool of
-- pages (RISC OS 3 Programmer's Reference Manual, "OS_Module", reasons 5, 6, 7 and 13; the numbers
-- and the order of the refusals, and that the area grows by the fewest pages that suffice, are this
-- project's own). All sums are exact.
use Rattle.dynamic_areas.specs.MemoryMap.{module_area_start}
use Rattle.std.specs.Prelude.{ℕ, Bool, true, false, ◌+◌, ◌-◌, ◌*◌, ◌==◌, nat_le, nat_lt, Option, Some, None, Result, Ok, Err, if◌then◌else◌}
use Rattle.dynamic_areas.specs.Outcome.{bind}
use Rattle.dynamic_areas.specs.ErrorNumber.{ErrorNumber}
use Rattle.dynamic_areas.specs.ErrorNumber.TheVariants.{HeapNotABlock, HeapHoldsAnchor, HeapNoRoom, BlockHoldsHeap, RmaNotABlock, RmaHoldsAnchor, RmaNoRoom, RmaBlockHoldsHeap}
use Rattle.dynamic_areas.specs.OsHeapWordsLists.{round_up_8, total_for, changed_by}
use Rattle.dynamic_areas.specs.Calls.{heap_description, store_after_get, gave_back, store_after_resize, block_sized}
use Rattle.dynamic_areas.specs.Forgetting.{holds_heap}
use Rattle.dynamic_areas.specs.Room.{base_offset}
use Rattle.dynamic_areas.specs.Store.{Store}
use Rattle.dynamic_areas.specs.declared.area.Area.{Area}
use Rattle.dynamic_areas.specs.Areas.{find_area}
use Rattle.dynamic_areas.specs.Changing.{growth_room, area_table_more, pages_had, store_extended}
use Rattle.dynamic_areas.specs.Creating.{pages_for}
use Rattle.dynamic_areas.specs.Ground.{AreaStore}

-- what a heap refuses has a name of its own in the module area
abbrev pub rma_error : ErrorNumber → ErrorNumber
rma_error HeapNotABlock = RmaNotABlock
rma_error HeapHoldsAnchor = RmaHoldsAnchor
rma_error HeapNoRoom = RmaNoRoom
rma_error BlockHoldsHeap = RmaBlockHoldsHeap
rma_error other = other

abbrev pub with_store : AreaStore → Store → AreaStore
with_store e s = record e { store = s }

-- the area store after a call on the heap alone
abbrev pub in_area : {A : Type 0} → AreaStore → Result (Store × A) ErrorNumber → Result (AreaStore × A)
    ErrorNumber
in_area e (Ok r) = Ok (with_store e r.0, r.1)
in_area e (Err f) = Err (rma_error f)

-- Reason 5, describe: the largest block that can be claimed as the area stands, and all that is
-- free.
abbrev pub or_nothing : Result (ℕ × ℕ) ErrorNumber → ℕ × ℕ
or_nothing (Ok r) = r
or_nothing (Err e) = (0, 0)

unfoldable pub rma_described : Store → ℕ × ℕ
rma_described s = or_nothing (heap_description s module_area_start)

-- the pages that the module area has, and how many more it can get
abbrev pub area_pages : AreaStore → ℕ
area_pages e = pages_had (find_area 1 e.area_table.areas)

abbrev pub room_in : ℕ → Option Area → ℕ
room_in pool None = 0
room_in pool (Some a) = growth_room pool a

abbrev pub area_room : AreaStore → ℕ
area_room e = room_in e.pool (find_area 1 e.area_table.areas)

-- the area store after the module area, and its heap with it, grew by `count` pages out of the pool
abbrev pub with_pages_more : AreaStore → ℕ → AreaStore
with_pages_more e count = record {
  store = store_extended e.store 1 count (find_area 1 e.area_table.areas);
  pool = e.pool - count;
  area_table = area_table_more e.area_table 1 count;
}

-- The area grows so that the heap reaches to `end`, counted from its start: by the fewest pages
-- that suffice, and not at all where it does already.
abbrev pub pages_short : AreaStore → ℕ → ℕ
pages_short e end = pages_for (end - 4096 * area_pages e)

abbrev pub grown_by : AreaStore → ℕ → Result AreaStore ErrorNumber
grown_by e count = if nat_lt (area_room e) count then Err RmaNoRoom else Ok (with_pages_more e count)

unfoldable pub grown_to : AreaStore → ℕ → Result AreaStore ErrorNumber
grown_to e end = if nat_le end (4096 * area_pages e) then Ok e else grown_by e (pages_short e end)

-- A call on the heap, which is done once more in the grown area where it found no room.
abbrev pub in_grown_area : {A : Type 0} → AreaStore → ℕ → (Store → Result (Store × A) ErrorNumber) →
    Result (AreaStore × A) ErrorNumber
in_grown_area e end call = bind (grown_to e end) (λ g. in_area g (call g.store))

abbrev pub is_no_room : ErrorNumber → Bool
is_no_room HeapNoRoom = true
is_no_room other = false

abbrev pub is_full : {A : Type 0} → Result A ErrorNumber → Bool
is_full (Ok r) = false
is_full (Err f) = is_no_room f

abbrev pub or_grown : {A : Type 0} → AreaStore → ℕ → (Store → Result (Store × A) ErrorNumber) →
    Result (Store × A) ErrorNumber
    → Result (AreaStore × A) ErrorNumber
or_grown e end call answer = if is_full answer then in_grown_area e end call else in_area e answer

-- Reason 6, claim: a block of `size` bytes, in free room of the heap, or at its base, for which the
-- area grows. The answer is the address of its first byte.
abbrev pub rma_base : Store → ℕ
rma_base s = base_offset s module_area_start

unfoldable pub rma_claimed : AreaStore → ℕ → Result (AreaStore × ℕ) ErrorNumber
rma_claimed e size =
    or_grown e (rma_base e.store + total_for size) (λ s. store_after_get s module_area_start size)
    (store_after_get e.store module_area_start size)

-- Reason 7, free: a block of the guest's, which no module image is.
unfoldable pub rma_freed : AreaStore → ℕ → Result (AreaStore × Unit {0}) ErrorNumber
rma_freed e block = in_area e (gave_back e.store module_area_start block)

-- Reason 13, extend: a block's size changes as in a heap. But first the area grows for the last
-- block, where that needs it and can have it, so that it gets its bytes where it stands; and where
-- a block must move, the area grows for its new place if no free room fits. A block in which a heap
-- lies is not moved: that is the error where the area could have grown, which it does not then.
abbrev pub total_changed : ℕ → ℕ → ℕ
total_changed size change = round_up_8 (changed_by (size + 4) change)

-- Where the heap would have to end for the block in its place, if that is the last, or for it at
-- the base; 0 where there is none. A block that ends at the base is the last.
abbrev pub end_in_place : ℕ → ℕ → ℕ → Result ℕ ErrorNumber → ℕ
end_in_place base block change (Err f) = 0
end_in_place base block change (Ok size) =
    if block + size == module_area_start + base then (base + total_changed size change) - (size + 4) else 0

abbrev pub end_if_moved : ℕ → ℕ → Result ℕ ErrorNumber → ℕ
end_if_moved base change (Err f) = 0
end_if_moved base change (Ok size) = base + total_changed size change

abbrev pub or_as_before : AreaStore → Result AreaStore ErrorNumber → AreaStore
or_as_before e (Ok g) = g
or_as_before e (Err f) = e

abbrev pub grown_in_place : AreaStore → ℕ → ℕ → AreaStore
grown_in_place e block change =
    or_as_before e (grown_to e (end_in_place (rma_base e.store) block change
    (block_sized e.store module_area_start block)))

abbrev pub resized_or_grown : AreaStore → ℕ → ℕ → Result (AreaStore × ℕ) ErrorNumber
resized_or_grown e block change =
    or_grown e (end_if_moved (rma_base e.store) change (block_sized e.store module_area_start block))
    (λ s. store_after_resize s module_area_start block change)
    (store_after_resize e.store module_area_start block change)

unfoldable pub rma_extended : AreaStore → ℕ → ℕ → Result (AreaStore × ℕ) ErrorNumber
rma_extended e block change = resized_or_grown (grown_in_place e block change) block change

-- does a heap lie in a block of the guest's, which holds so many bytes?
abbrev pub block_holds : Store → ℕ → Result ℕ ErrorNumber → Bool
block_holds s block (Err f) = false
block_holds s block (Ok size) = holds_heap s.heaps block size
