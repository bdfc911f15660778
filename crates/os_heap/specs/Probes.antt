-- How much of a heap the calls look at: a probe is one free item looked at along the links, or one item passed in a walk. Where there is no heap
-- there is none (that a call's work is counted is this project's own).
use Rattle.std.specs.List.{list_any}
use Rattle.std.specs.Prelude.{ℕ, ◌≡◌, ◌≤◌, Bool, ◌&&◌, ◌||◌, ◌==◌, ◌+◌, ◌-◌, ◌*◌, ◌%◌, nat_le, nat_lt, Option, Some, None, List, [], ◌∷◌, length, if◌then◌else◌}
use Rattle.os_heap_words.specs.Bytes.{shares_address}
use Rattle.os_heap_words.specs.Items.{total_of}
use Rattle.os_heap_words.specs.Records.{anchor_among}
use Rattle.os_heap_words.specs.Item.{Item}
use Rattle.os_heap_words.specs.lists.Counts.{looked_at, begun_below, free_below, free_count}
use Rattle.os_heap_words.specs.lists.Heap.{HeapList}
use Rattle.os_heap_words.specs.lists.Lists.{Claim, round_up_8, total_for, claim_in_items, changed_by, live_total, resized_in_place}
use Rattle.os_heap.specs.Store.{Store, find_heap, has_image}
use Rattle.os_heap.specs.Bars.{bars}
use Rattle.os_heap.specs.Calls.{has_own_size, unless_image, holds_anchor}
use Rattle.os_heap.specs.Forgetting.{holds_heap}
use Rattle.os_heap.specs.Nesting.{innermost_heap}
use Rattle.os_heap.specs.Payloads.{holds_byte}
use Rattle.os_heap.specs.Ranges.{is_heap_region}

abbrev pub counted_of : (HeapList → ℕ) → Option HeapList → ℕ
counted_of count None = 0
counted_of count (Some h) = count h

unfoldable pub describe_probes : Store → ℕ → ℕ
describe_probes s heap = counted_of (λ h. free_count h.items) (find_heap heap s.heaps)

unfoldable pub get_probes : Store → ℕ → ℕ → ℕ
get_probes s heap size = counted_of (λ h. looked_at (total_for size) h.items) (find_heap heap s.heaps)

-- free, and block size
unfoldable pub walk_probes : Store → ℕ → ℕ → ℕ
walk_probes s heap block = counted_of (λ h. begun_below block (h.start + 16) h.items) (find_heap heap s.heaps)

-- What a resize looks at: the items of the walk to the block; where the block is moved, the free items that the search for room looks at too,
-- and then, unless a heap lies in the block, the free items below the old block.
abbrev pub move_probes : Store → HeapList → ℕ → ℕ → ℕ → Option Claim → ℕ
move_probes s h block old new None = looked_at new h.items
move_probes s h block old new (Some c) =
    looked_at new h.items + (if holds_heap s.heaps block (old - 4) then 0
    else free_below block (h.start + 16) c.items)

abbrev pub refit_probes : Store → HeapList → ℕ → ℕ → ℕ → Option (List Item) → ℕ
refit_probes s h block old new (Some items) = 0
refit_probes s h block old new None =
    if holds_anchor s.anchor block (Some old) then 0 else move_probes s h block old new
    (claim_in_items new (h.end - 16) h.items)

abbrev pub sum_probes : Store → HeapList → ℕ → ℕ → ℕ → ℕ
sum_probes s h block old sum = if nat_le sum 4 then 0 else
    refit_probes s h block old (round_up_8 sum) (resized_in_place block (h.start + h.end) (round_up_8 sum)
    (h.start + 16) h.items)

abbrev pub probes_after_walk : Store → HeapList → ℕ → ℕ → Option ℕ → ℕ
probes_after_walk s h block change None = 0
probes_after_walk s h block change (Some total) = sum_probes s h block total (changed_by total change)

unfoldable pub resize_probes : Store → ℕ → ℕ → ℕ → ℕ
resize_probes s heap block change =
    counted_of (λ h. begun_below block (h.start + 16) h.items
    + probes_after_walk s h block change (unless_image (has_image block s.others)
    (live_total block (h.start + 16) h.items))) (find_heap heap s.heaps)

-- A walk to the byte at `at`, where the first item is at `here`: it passes the items up to the live one that holds the byte, that one too, or all
-- where none does.
abbrev pub walked_to : ℕ → ℕ → List Item → ℕ
walked_to at here [] = 0
walked_to at here (item ∷ items) = if holds_byte here item at then 1
    else 1 + walked_to at (here + total_of item) items

-- Init, and the change of a size, first ask what is in the way of a range whatever the items of heaps are: a heap that ends in it, and a heap, another
-- recorded range or an anchor in what is new of it. Where nothing is, the innermost heap round the range is walked to its first byte; where there is no
-- heap round it, none is.
abbrev pub is_barred : ℕ → ℕ → ℕ → ℕ → Store → Bool
is_barred at len new more s =
    (list_any (bars at len new more) s.heaps || list_any (λ r. shares_address new more r.at r.len) s.others)
    || anchor_among s.anchor new more

unfoldable pub region_probes : Store → ℕ → ℕ → ℕ → ℕ → ℕ
region_probes s at len new more =
    if is_barred at len new more s then 0 else counted_of (λ h. walked_to at (h.start + 16) h.items)
    (innermost_heap at len s.heaps)

-- where the range is none that a heap may have, or where the heap doesn't grow, nothing is looked at
unfoldable pub init_probes : Store → ℕ → ℕ → ℕ
init_probes s at size = if is_heap_region s.bytes at size then region_probes s at size at size else 0

abbrev pub growth_probes : Store → HeapList → ℕ → ℕ
growth_probes s h end = if nat_lt h.end end then region_probes s h.start end (h.start + h.end) (end - h.end)
    else 0

abbrev pub end_probes : Store → HeapList → ℕ → ℕ
end_probes s h end = if is_heap_region s.bytes h.start end then growth_probes s h end else 0

abbrev pub change_probes_of : Store → HeapList → ℕ → ℕ
change_probes_of s h change = if has_own_size h.kind && change % 4 == 0 then
    end_probes s h (changed_by h.end change) else 0

unfoldable pub change_probes : Store → ℕ → ℕ → ℕ
change_probes s heap change = counted_of (λ h. change_probes_of s h change) (find_heap heap s.heaps)

-- At least the items up to the block are looked at, and at most all items once and all free items twice more; where there is no heap, none.
abbrev pub AreInBounds : ℕ → ℕ → Option HeapList → Type 0
AreInBounds probes block None = probes ≡ 0
AreInBounds probes block (Some h) = (begun_below block (h.start + 16) h.items ≤ probes) ×
    (probes ≤ length h.items + 2 * free_count h.items)
