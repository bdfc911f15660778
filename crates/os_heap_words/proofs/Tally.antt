-- The walk along the links of free items, and what it finds.
use Rattle.std.proofs.Common.{◌-◌, arith, ◌+◌, ◌≤◌, ℕ, ◌^◌, ◌≡◌, ◌∙◌, ◌%◌, ap}
use Rattle.std.proofs.lemmas.Bool.Decides.{nat_tests}
use Rattle.address_map.proofs.Spans.{mapped_below}
use Rattle.address_map.specs.Bytes.{word_at}
use Rattle.address_map.specs.Items.{size_of, link_target}
use Rattle.address_map.specs.Memory.{byte_at}
use Rattle.address_map.specs.declared.map.AddressMap.{AddressMap}
use Rattle.os_heap_words.proofs.ListsLemmas.Reading.{linked_to}
use Rattle.os_heap_words.proofs.ListsLemmas.Tally.{link_below}
use Rattle.os_heap_words.specs.lists.Heap.{next_free}
use Rattle.os_heap_words.specs.lists.Walks.{IsTallied}
use Rattle.os_heap_words.specs.Outcomes.{IsHeapAt, items_at}

-- a heap lies below 2^26
pub heap_below : (m : AddressMap) (start end : ℕ) → IsHeapAt m start end → start + end ≤ 2 ^ 26
heap_below m start end heap =
    let inside : 16 + size_of (items_at m start) ≤ end = heap.inside in
    omega (arith, mapped_below m (start + end - 1) (heap.mapped (start + end - 1) (omega arith) (omega arith)))

-- the walk at its start
pub tally_start : (m : AddressMap) (start end at : ℕ) → IsHeapAt m start end → at ≡ link_target start (word_at (byte_at m) (start + 4))
    → IsTallied (word_at (byte_at m)) start (start + end) (items_at m start) at 0 0 0
tally_start m start end at heap is =
    let aligned : start % 4 ≡ 0 = heap.aligned in
    let inside : 16 + size_of (items_at m start) ≤ end = heap.inside in
    record {
      place = start + 16;
      rest = items_at m start;
      next = is ∙ ap (link_target start) heap.first ∙ linked_to start (start + 16) (items_at m start) (omega arith);
      spelled = heap.spelled;
      totals = heap.totals;
      aligned = omega arith;
      low = omega arith;
      high = omega arith;
      counted = omega arith;
      summed = omega arith;
      most = grind (arith, nat_tests);
    }

pub first_link_below : (m : AddressMap) (start end : ℕ) → IsHeapAt m start end → link_target start (word_at (byte_at m) (start + 4)) ≤ 2 ^ 26
first_link_below m start end heap =
    let below : start + end ≤ 2 ^ 26 = heap_below m start end heap in
    let inside : 16 + size_of (items_at m start) ≤ end = heap.inside in
    let is : link_target start (word_at (byte_at m) (start + 4)) ≡ next_free (start + 16) (items_at m start) 0 =
    ap (link_target start) heap.first ∙ linked_to start (start + 16) (items_at m start) (omega arith) in
    omega (arith, is, link_below (start + 16) (items_at m start) (start + end) heap.totals (omega arith))
