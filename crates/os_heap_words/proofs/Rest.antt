-- A walk over the items of a heap by address: what the words of each step say.
use Rattle.std.proofs.Common.{◌-◌, arith, ◌≤◌, ℕ, ◌^◌, ◌<◌, ◌+◌, ◌≡◌, refl, ◌∙◌, ◌%◌, ap}
use Rattle.address_map.proofs.Spans.{mapped_below}
use Rattle.address_map.specs.Bytes.{word_at}
use Rattle.address_map.specs.Items.{link_target, size_of}
use Rattle.address_map.specs.Memory.{bytes_of, byte_at}
use Rattle.address_map.specs.declared.map.AddressMap.{AddressMap}
use Rattle.os_heap_words.proofs.ListsLemmas.Reading.{linked_to}
use Rattle.os_heap_words.specs.lists.Heap.{next_free}
use Rattle.os_heap_words.specs.lists.Walks.{IsRestOfHeap}
use Rattle.os_heap_words.specs.Outcomes.{IsHeapAt, items_at}

-- the rest of a heap lies below 2^26
pub rest_below : (m : AddressMap) (at free base : ℕ) → IsRestOfHeap (bytes_of m) at free base → at < base → base ≤ 2 ^ 26
rest_below m at free base r below = omega (arith, mapped_below m (base - 1) (r.mapped (base - 1) (omega arith) (omega arith)))

-- all items of a heap
pub rest_of : (m : AddressMap) (start end at free base : ℕ) → IsHeapAt m start end → at ≡ start + 16
    → free ≡ link_target start (word_at (byte_at m) (start + 4)) → base ≡ start + word_at (byte_at m) (start + 8)
    → (r : IsRestOfHeap (bytes_of m) at free base) × (r.items ≡ items_at m start)
rest_of m start end at free base heap first next last =
    let aligned : start % 4 ≡ 0 = heap.aligned in
    let inside : 16 + size_of (items_at m start) ≤ end = heap.inside in
    let word : word_at (byte_at m) (start + 8) ≡ 16 + size_of (items_at m start) = heap.base in
    let link : link_target start (word_at (byte_at m) (start + 4)) ≡ next_free (start + 16) (items_at m start) 0 =
    ap (link_target start) heap.first ∙ linked_to start (start + 16) (items_at m start) (omega arith) in (
      record {
        items = items_at m start;
        next = rw first (next ∙ link);
        spelled = rw first heap.spelled;
        totals = heap.totals;
        end = omega arith;
        aligned = omega arith;
        above = omega arith;
        mapped = λ a low high. heap.mapped a (omega arith) (omega arith);
      },
      refl,
    )
