-- How much of a heap a change of a block's size looks at: at least the walk to the block, at most all items and all free items twice.
use Rattle.std.proofs.Common.{arith, ◌+◌, ◌*◌, ◌≤◌, Option, None, ℕ, Some, ◌-◌, List, inl, inr, refl}
use Rattle.std.proofs.lemmas.Bool.{cases_Bool}
use Rattle.std.specs.Prelude.{nat_le}
use Rattle.os_heap_words.specs.Item.{Item}
use Rattle.os_heap_words.proofs.ListsLemmas.Counts.{below_most, IsNoMore, looked_most, claim_no_more, begun_most}
use Rattle.os_heap_words.specs.lists.Counts.{free_count, begun_below}
use Rattle.os_heap_words.specs.lists.Heap.{HeapList}
use Rattle.os_heap_words.specs.lists.Lists.{Claim, claim_in_items, resized_in_place, round_up_8, changed_by, live_total}
use Rattle.os_heap.specs.Probes.{move_probes, refit_probes, sum_probes, probes_after_walk, AreInBounds, resize_probes, counted_of}
use Rattle.os_heap.specs.Calls.{holds_anchor, unless_image}
use Rattle.os_heap.specs.Forgetting.{holds_heap}
use Rattle.os_heap.specs.Store.{find_heap, has_image, Store}

pub move_most : (s : Store) (h : HeapList) (block old new : ℕ) (c : Option Claim) → IsNoMore h.items c → move_probes s h block old new c ≤ 2 * free_count h.items
move_most s h block old new None more = omega (arith, looked_most new h.items)
move_most s h block old new (Some c) more = elim (cases_Bool (holds_heap s.heaps block (old - 4))) [
  | inl held ↦ rw held (omega (arith, looked_most new h.items))
  | inr free ↦ rw free (omega (arith, looked_most new h.items, below_most block (h.start + 16) c.items, more))
]

refit_most : (s : Store) (h : HeapList) (block old new : ℕ) (items : Option (List Item)) → refit_probes s h block old new items ≤ 2 * free_count h.items
refit_most s h block old new (Some items) = omega arith
refit_most s h block old new None = elim (cases_Bool (holds_anchor s.anchor block (Some old))) [
  | inl held ↦ rw held (omega arith)
  | inr free ↦ rw free (move_most s h block old new (claim_in_items new (h.end - 16) h.items) (claim_no_more new (h.end - 16) h.items))
]

sum_most : (s : Store) (h : HeapList) (block old sum : ℕ) → sum_probes s h block old sum ≤ 2 * free_count h.items
sum_most s h block old sum = elim (cases_Bool (nat_le sum 4)) [
  | inl few ↦ rw few (omega arith)
  | inr more ↦ rw more (refit_most s h block old (round_up_8 sum) (resized_in_place block (h.start + h.end) (round_up_8 sum) (h.start + 16) h.items))
]

after_walk_most : (s : Store) (h : HeapList) (block change : ℕ) (total : Option ℕ) → probes_after_walk s h block change total ≤ 2 * free_count h.items
after_walk_most s h block change None = omega arith
after_walk_most s h block change (Some total) = sum_most s h block total (changed_by total change)

part_in_bounds : (s : Store) (block change : ℕ) (found : Option HeapList)
    → AreInBounds (counted_of (λ h. begun_below block (h.start + 16) h.items + probes_after_walk s h block change (unless_image (has_image block s.others) (live_total block (h.start + 16) h.items))) found) block found
part_in_bounds s block change None = refl
part_in_bounds s block change (Some h) =
    let most = after_walk_most s h block change (unless_image (has_image block s.others) (live_total block (h.start + 16) h.items)) in
    (omega arith, omega (arith, begun_most block (h.start + 16) h.items))

pub in_bounds : (s : Store) (heap block change : ℕ) → AreInBounds (resize_probes s heap block change) block (find_heap heap s.heaps)
unfolding resize_probes
in_bounds s heap block change = part_in_bounds s block change (find_heap heap s.heaps)
