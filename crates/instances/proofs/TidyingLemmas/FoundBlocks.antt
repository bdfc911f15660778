-- The items that were found in the module area, and those of them that can be moved.
use Rattle.instances_table.specs.MemoryMap.{module_area_start}
use Rattle.std.proofs.Common.{◌≡◌, ◌≤◌, ◌+◌, ◌-◌, ◌^◌, ◌∙◌, ℕ, List, [], length, ap, subst, refl, Option, Some, None, arith}
use Rattle.std.specs.Option.{option_map}
use Rattle.rma.proofs.Spans.{mapped_below}
use Rattle.rma.specs.Items.{size_of}
use Rattle.rma.specs.Memory.{anchor_of, bytes_of}
use Rattle.rma.specs.Item.{Item}
use Rattle.rma.specs.AddressMap.{AddressMap}
use Rattle.rma.specs.lists.Heap.{AreTotals, HeapList, IsHeapIn}
use Rattle.rma.proofs.Found.{found_heap, found_start}
use Rattle.rma.specs.OsHeapCalls.{items_of}
use Rattle.rma.specs.Forgetting.{holds_heap}
use Rattle.rma.specs.Store.{find_heap, IsSound, store_of}
use Rattle.instances_table.specs.Modules.{Module}
use Rattle.instances.proofs.TidyingLemmas.Choosing.{few_blocks}
use Rattle.instances.specs.tidying.Movable.{blocks_that, can_move, movable_in}

pub record AreFound (m : AddressMap) (items : List Item) : Type 0 where
  pub heap : HeapList
  pub found : find_heap module_area_start (store_of m).heaps ≡ Some heap
  pub start : heap.start ≡ module_area_start
  pub same : heap.items ≡ items
  pub below : 0x01800010 + size_of items ≤ 2 ^ 26
  pub totals : AreTotals items

found_by : (o : Option HeapList) (items : List Item) → option_map (λ (h : HeapList). h.items) o ≡ Some items → (h : HeapList) × (o ≡ Some h) × (h.items ≡ items)
found_by None items e = absurd (cc)
found_by (Some h) items e = (h, refl, cc)

pub are_found : (m : AddressMap) (items : List Item) → IsSound (store_of m) → items_of (store_of m) module_area_start ≡ Some items → AreFound m items
unfolding items_of store_of
are_found m items sound e =
    let part = found_by (find_heap module_area_start (store_of m).heaps) items e in
    let h : HeapList = part.0 in
    let start : h.start ≡ module_area_start = found_start module_area_start (store_of m).heaps h part.1 in
    let heap : IsHeapIn (bytes_of m) h.start h.end h.items = found_heap (bytes_of m) module_area_start (store_of m).heaps h sound.heaps part.1 in
    let inside : 16 + size_of h.items ≤ h.end = heap.inside in
    let same : size_of h.items ≡ size_of items = ap size_of part.2 in
    record {
      heap = h;
      found = part.1;
      start = start;
      same = part.2;
      below = omega (arith, start, same, inside, mapped_below m (h.start + h.end - 1) (heap.mapped (h.start + h.end - 1) (omega arith) (omega arith)));
      totals = subst AreTotals part.2 heap.totals;
    }

pub found_few : (m : AddressMap) (modules : List Module) (words : List ℕ) (return_address : ℕ) (items : List Item) → AreFound m items → length modules ≤ 64
    → length words ≤ 64 → length (blocks_that (can_move (anchor_of m) (holds_heap (store_of m).heaps) modules words return_address) 0x01800010 items) ≤ 128
found_few m modules words return_address items f images named =
    few_blocks (anchor_of m) (holds_heap (store_of m).heaps) modules words return_address 0x01800010 items f.totals images named

pub found_movable : (m : AddressMap) (modules : List Module) (words : List ℕ) (return_address : ℕ) (items : List Item) → AreFound m items
    → movable_in (store_of m) modules words return_address (find_heap module_area_start (store_of m).heaps)
    ≡ blocks_that (can_move (anchor_of m) (holds_heap (store_of m).heaps) modules words return_address) 0x01800010 items
unfolding store_of
found_movable m modules words return_address items f =
    ap (λ (o : Option HeapList). movable_in (store_of m) modules words return_address o) f.found
    ∙ ap (λ (n : ℕ). blocks_that (can_move (anchor_of m) (holds_heap (store_of m).heaps) modules words return_address) (n + 16) f.heap.items) f.start
    ∙ ap (λ (xs : List Item). blocks_that (can_move (anchor_of m) (holds_heap (store_of m).heaps) modules words return_address) 0x01800010 xs) f.same

none_by : (o : Option HeapList) → option_map (λ (h : HeapList). h.items) o ≡ None → o ≡ None
none_by None e = refl
none_by (Some h) e = absurd (cc)

pub none_movable : (m : AddressMap) (modules : List Module) (words : List ℕ) (return_address : ℕ) → items_of (store_of m) module_area_start ≡ None
    → movable_in (store_of m) modules words return_address (find_heap module_area_start (store_of m).heaps) ≡ []
unfolding items_of
none_movable m modules words return_address e =
    ap (λ (o : Option HeapList). movable_in (store_of m) modules words return_address o) (none_by (find_heap module_area_start (store_of m).heaps) e)
