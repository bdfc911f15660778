-- Where a heap that was found lies, and how its items go on.
use Rattle.std.proofs.Common.{◌≡◌, ℕ, ◌+◌, ◌-◌, ◌%◌, ◌^◌, ◌≤◌, true, false, List, [], ◌∷◌, ◌++◌, Option, Some, None, Ok, ap, ◌∙◌, arith, refl, subst}
use Rattle.std.proofs.lemmas.Bool.Decides.{nat_tests}
use Rattle.std.specs.Prelude.{nat_le, IsSome, IfSome}
use Rattle.std.specs.Option.{option_map}
use Rattle.swi_dispatch_guest.proofs.OutputLemmas.{AddsAllBut-start, AddsAllBut-more, AddsAllBut-same, Appends-from_all_but}
use Rattle.swi_dispatch_guest.proofs.Spans.{mapped_below}
use Rattle.swi_dispatch_guest.specs.Item.{Item}
use Rattle.swi_dispatch_guest.specs.AddressMap.{AddressMap}
use Rattle.swi_dispatch_guest.specs.Bytes.{word_loaded, word_at, word_start}
use Rattle.swi_dispatch_guest.specs.Items.{total_of, size_of}
use Rattle.swi_dispatch_guest.specs.AddressMapMemory.{bytes_of}
use Rattle.swi_dispatch_guest.specs.lists.Heap.{HeapList, IsHeapIn}
use Rattle.swi_dispatch_guest.specs.HeapCalls.{items_of}
use Rattle.swi_dispatch_guest.specs.Store.{Store, store_of, find_heap, IsSound}
use Rattle.swi_dispatch_guest.proofs.Found.{found_heap, found_start}
use Rattle.debugger.specs.Heap.{limits_text, heap_item_text, heap_items_text, heap_text, heap_blocks_text}

-- the heap that was found at an address: memory spells it, and it lies below 2^26
record IsThere (m : AddressMap) (heap : ℕ) (h : HeapList) : Type 0 where
  start : h.start ≡ heap
  spelled : IsHeapIn (bytes_of m) heap h.end h.items
  below : heap + h.end ≤ 2 ^ 26

there : (m : AddressMap) (heap : ℕ) (h : HeapList) → IsSound (store_of m) → find_heap heap (store_of m).heaps ≡ Some h → IsThere m heap h
unfolding store_of
there m heap h sound e =
    let start : h.start ≡ heap = found_start heap (store_of m).heaps h e in
    let spelled : IsHeapIn (bytes_of m) heap h.end h.items =
    subst (λ (n : ℕ). IsHeapIn (bytes_of m) n h.end h.items) start (found_heap (bytes_of m) heap (store_of m).heaps h sound.heaps e) in
    let inside : 16 + size_of h.items ≤ h.end = spelled.inside in
    record {
      start = start;
      spelled = spelled;
      below = omega (arith, mapped_below m (heap + h.end - 1) (spelled.mapped (heap + h.end - 1) (omega arith) (omega arith)));
    }

word_there : (m : AddressMap) (heap offset word : ℕ) (h : HeapList) → IsThere m heap h → offset + 4 ≤ 16 → offset % 4 ≡ 0
    → word_at (bytes_of m).at (heap + offset) ≡ word → word_loaded (bytes_of m) (heap + offset) ≡ Ok word
unfolding word_loaded
word_there m heap offset word h is low whole e =
    let aligned : heap % 4 ≡ 0 = is.spelled.aligned in
    let inside : 16 + size_of h.items ≤ h.end = is.spelled.inside in
    let below : heap + h.end ≤ 2 ^ 26 = is.below in
    let at : word_start (heap + offset) ≡ heap + offset = omega arith in
    let mapped : (bytes_of m).mapped (heap + offset) ≡ true = is.spelled.mapped (heap + offset) (omega arith) (omega arith) in
    let low : nat_le (2 ^ 26) (heap + offset) ≡ false = grind (arith, nat_tests) in
    rw (at, low, mapped, e) refl

by_heap : (m : AddressMap) (heap : ℕ) (P : HeapList → Type 0) (o : Option HeapList) → ((h : HeapList) → o ≡ Some h → IsThere m heap h)
    → ((h : HeapList) → IsThere m heap h → P h) → IfSome o P
by_heap m heap P None is holds = tt
by_heap m heap P (Some h) is holds = holds h (is h refl)

-- what holds of a heap that is there holds of the one that was found
of_found : (m : AddressMap) (heap : ℕ) (P : HeapList → Type 0) → IsSound (store_of m) → ((h : HeapList) → IsThere m heap h → P h)
    → IfSome (find_heap heap (store_of m).heaps) P
of_found m heap P sound holds = by_heap m heap P (find_heap heap (store_of m).heaps) (λ h e. there m heap h sound e) holds

low_by : (heap : ℕ) (o : Option HeapList) → IsSome o → IfSome o (λ _. heap + 16 ≤ 2 ^ 26) → heap + 16 ≤ 2 ^ 26
low_by heap None some low = absurd (cc)
low_by heap (Some h) some low = low

pub low_heap : (m : AddressMap) (heap : ℕ) → IsSound (store_of m) → IsSome (find_heap heap (store_of m).heaps) → heap + 16 ≤ 2 ^ 26
low_heap m heap sound some =
    low_by heap (find_heap heap (store_of m).heaps) some (of_found m heap (λ _. heap + 16 ≤ 2 ^ 26) sound (λ h is.
    let inside : 16 + size_of h.items ≤ h.end = is.spelled.inside in
    let below : heap + h.end ≤ 2 ^ 26 = is.below in
    omega arith))

-- the words of its descriptor that show its base and its end
pub base_is : (m : AddressMap) (heap : ℕ) → IsSound (store_of m)
    → IfSome (find_heap heap (store_of m).heaps) (λ h. word_loaded (bytes_of m) (heap + 8) ≡ Ok (16 + size_of h.items))
base_is m heap sound = of_found m heap (λ h. word_loaded (bytes_of m) (heap + 8) ≡ Ok (16 + size_of h.items)) sound
    (λ h is. word_there m heap 8 (16 + size_of h.items) h is (omega arith) refl is.spelled.base)

pub end_is : (m : AddressMap) (heap : ℕ) → IsSound (store_of m)
    → IfSome (find_heap heap (store_of m).heaps) (λ h. word_loaded (bytes_of m) (heap + 12) ≡ Ok h.end)
end_is m heap sound = of_found m heap (λ h. word_loaded (bytes_of m) (heap + 12) ≡ Ok h.end) sound
    (λ h is. word_there m heap 12 h.end h is (omega arith) refl is.spelled.limit)

-- a fact of the heap that was found, by another
pub if_then : (o : Option HeapList) (P Q : HeapList → Type 0) → IfSome o P → ((h : HeapList) → P h → Q h) → IfSome o Q
if_then None P Q h then = tt
if_then (Some part) P Q h then = then part h

-- what is shown of a heap whose items were found
pub record IsShown (m : AddressMap) (heap : ℕ) (items : List Item) : Type 0 where
  pub part : HeapList
  pub found : find_heap heap (store_of m).heaps ≡ Some part
  pub text : heap_blocks_text (store_of m) heap ≡ Some (limits_text heap (16 + size_of part.items) part.end ++ heap_items_text (heap + 16) items)
  pub below : heap + 16 + size_of items ≤ 2 ^ 26

found_by : (o : Option HeapList) (items : List Item) → option_map (λ (h : HeapList). h.items) o ≡ Some items → (h : HeapList) × (o ≡ Some h) × (h.items ≡ items)
found_by None items e = absurd (cc)
found_by (Some h) items e = (h, refl, cc)

pub shown : (m : AddressMap) (heap : ℕ) (items : List Item) → IsSound (store_of m) → items_of (store_of m) heap ≡ Some items → IsShown m heap items
unfolding items_of heap_blocks_text heap_text
shown m heap items sound e =
    let part = found_by (find_heap heap (store_of m).heaps) items e in
    let is : IsThere m heap part.0 = there m heap part.0 sound part.1 in
    let inside : 16 + size_of part.0.items ≤ part.0.end = is.spelled.inside in
    let below : heap + part.0.end ≤ 2 ^ 26 = is.below in
    let same : size_of part.0.items ≡ size_of items = ap size_of part.2 in
    record {
      part = part.0;
      found = part.1;
      text = ap (option_map heap_text) part.1
          ∙ ap (λ (n : ℕ). Some (limits_text n (16 + size_of part.0.items) part.0.end ++ heap_items_text (n + 16) part.0.items)) is.start
          ∙ ap (λ (xs : List Item). Some (limits_text heap (16 + size_of part.0.items) part.0.end ++ heap_items_text (heap + 16) xs)) part.2;
      below = omega (arith, same, inside, below);
    }

nothing_by : (o : Option HeapList) → option_map (λ (h : HeapList). h.items) o ≡ None → option_map heap_text o ≡ None
nothing_by None e = refl
nothing_by (Some h) e = absurd (cc)

pub not_shown : (s : Store) (heap : ℕ) → items_of s heap ≡ None → heap_blocks_text s heap ≡ None
unfolding items_of heap_blocks_text
not_shown s heap e = nothing_by (find_heap heap s.heaps) e

pub no_items : (at : ℕ) → heap_items_text at [] ≡ []
unfolding heap_items_text
no_items at = refl

pub next_item : (at next : ℕ) (item : Item) (rest : List Item) → next ≡ at + total_of item
    → heap_items_text at (item ∷ rest) ≡ heap_item_text at item ++ heap_items_text next rest
unfolding heap_items_text
next_item at next item rest e = rw e refl

pub ruleset item_steps = (AddsAllBut-start, AddsAllBut-more, AddsAllBut-same, Appends-from_all_but, no_items, next_item)
