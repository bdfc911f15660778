-- Where the items of a heap stand.
use Rattle.std.proofs.Common.{◌≡◌, ℕ, ◌+◌, ◌-◌, ◌^◌, ◌≤◌, List, [], ◌∷◌, Option, Some, None, true, refl, sym, ap, subst, ◌∙◌, arith}
use Rattle.std.specs.Option.{option_map}
use Rattle.std.specs.Prelude.{unwrap_or}
use Rattle.address_map.proofs.Spans.{mapped_below}
use Rattle.address_map.specs.Items.{size_of}
use Rattle.address_map.specs.Memory.{bytes_of}
use Rattle.address_map.specs.declared.item.Item.{Item}
use Rattle.address_map.specs.declared.map.AddressMap.{AddressMap}
use Rattle.store_copies.proofs.Found.{found_heap, found_start}
use Rattle.store_copies.specs.Calls.{items_of}
use Rattle.store_copies.specs.Store.{IsSound, Store, find_heap, store_of}
use Rattle.store_copies.specs.Heap.{AreTotals, HeapList, IsHeapIn}
use Rattle.trace_store_text.specs.items.Places.{IsWalk, PlacedItems, first_item, items_with_next, no_items, placed_items, rest_of}

pub none_placed : (s : Store) (heap : ℕ) → items_of s heap ≡ None → no_items ≡ placed_items s heap
unfolding placed_items
none_placed s heap e = rw e refl

pub some_placed : (s : Store) (heap : ℕ) (items : List Item) → items_of s heap ≡ Some items → record { at = heap + 16; items = items } ≡ placed_items s heap
unfolding placed_items
some_placed s heap items e = rw e refl

-- what is known of the items of a heap that is there
pub record AreStanding (heap : ℕ) (items : List Item) : Type 0 where
  pub totals : AreTotals items
  pub below : heap + 16 + size_of items ≤ 2 ^ 26

heap_stands : (m : AddressMap) (heap : ℕ) (h : HeapList) → IsSound (store_of m) → find_heap heap (store_of m).heaps ≡ Some h → AreStanding heap h.items
unfolding store_of
heap_stands m heap h sound e =
    let start : h.start ≡ heap = found_start heap (store_of m).heaps h e in
    let spelled : IsHeapIn (bytes_of m) heap h.end h.items =
    subst (λ (n : ℕ). IsHeapIn (bytes_of m) n h.end h.items) start (found_heap (bytes_of m) heap (store_of m).heaps h sound.heaps e) in
    let inside : 16 + size_of h.items ≤ h.end = spelled.inside in
    record {
      totals = spelled.totals;
      below = omega (arith, inside, mapped_below m (heap + h.end - 1) (spelled.mapped (heap + h.end - 1) (omega arith) (omega arith)));
    }

stand_by : (heap : ℕ) (o : Option HeapList) (items : List Item) → ((h : HeapList) → o ≡ Some h → AreStanding heap h.items)
    → option_map (λ (h : HeapList). h.items) o ≡ Some items → AreStanding heap items
stand_by heap None items stands e = absurd (cc)
stand_by heap (Some h) items stands e = let same : h.items ≡ items = cc in subst (λ (xs : List Item). AreStanding heap xs) same (stands h refl)

pub items_stand : (m : AddressMap) (heap : ℕ) (items : List Item) → IsSound (store_of m) → items_of (store_of m) heap ≡ Some items → AreStanding heap items
unfolding items_of
items_stand m heap items sound e = stand_by heap (find_heap heap (store_of m).heaps) items (λ h is. heap_stands m heap h sound is) e

-- a walk begins with all items
pub all_with_first : (items : List Item) → items_with_next (first_item items) (rest_of items) ≡ items
all_with_first [] = refl
all_with_first (x ∷ xs) = refl

pub walk_begins : (at : ℕ) (items : List Item) → AreTotals items → at + size_of items ≤ 2 ^ 26 → IsWalk at (first_item items) (rest_of items)
walk_begins at [] totals below = record { ended = refl; totals = totals; below = below }
walk_begins at (x ∷ xs) totals below = record { ended = tt; totals = totals; below = below }

-- by what was taken of them
pub begun : (at : ℕ) (items : List Item) (next : Option Item) (rest : List Item) → next ≡ first_item items → rest ≡ rest_of items
    → AreTotals items → at + size_of items ≤ 2 ^ 26 → IsWalk at next rest
begun at items next rest first left totals below = rw (first, left) (walk_begins at items totals below)

pub begun_with : (s : Store) (heap : ℕ) (items : List Item) (next : Option Item) (rest : List Item) → next ≡ first_item items → rest ≡ rest_of items
    → items_of s heap ≡ Some items → record { at = heap + 16; items = items_with_next next rest } ≡ placed_items s heap
begun_with s heap items next rest first left e =
    ap (λ (xs : List Item). record { at = heap + 16; items = xs }) (rw (first, left) (all_with_first items)) ∙ some_placed s heap items e
