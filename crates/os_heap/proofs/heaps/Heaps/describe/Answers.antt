use Rattle.std.proofs.Common.{◌≡◌, ◌≤◌, ◌+◌, ◌-◌, ◌^◌, ap, sym, ◌∙◌, arith}
use Rattle.os_heap_words.specs.Items.{size_of}
use Rattle.os_heap_words.specs.lists.Counts.{larger, round_down_8, largest_free}
use Rattle.os_heap_words.specs.Outcomes.{IsHeapAt, items_at}
use Rattle.os_heap.specs.Store.{store_of}
use Rattle.os_heap.proofs.Found.{found_at, described_none, described_found, probes_none, probes_found}
use Rattle.os_heap_words.proofs.Tally.{heap_below}
use Rattle.os_heap_words.proofs.ListsLemmas.Tally.{free_total-bound, larger_max}
use Rattle.os_heap.proofs.heaps.Heaps.describe.Goals as goal

pub returns-in_default-clause-answer : goal.returns-in_default-clause-answer
returns-in_default-clause-answer c = rw c.refused.ensures (sym (described_none (store_of c.args.map.now) c.args.heap c.in_default.ensures))

pub returns-in_default-clause-probes : goal.returns-in_default-clause-probes
returns-in_default-clause-probes c = rw c.refused.ensures (sym (probes_none (store_of c.args.map.now) c.args.heap c.in_default.ensures))

pub free_room-free-requires : goal.free_room-free-requires
free_room-free-requires c =
    let m = c.args.map.now in
    let r = c.in-Some.region in
    let heap : IsHeapAt m c.args.heap r.len = found_at m c.args.heap r c.requires c.in-Some.ensures.0 c.in-Some.ensures.1 in
    let below : c.args.heap + r.len ≤ 2 ^ 26 = heap_below m c.args.heap r.len heap in
    let inside : 16 + size_of (items_at m c.args.heap) ≤ r.len = heap.inside in
    heap

pub overflow_add-heap : goal.overflow_add-heap
overflow_add-heap c =
    let m = c.args.map.now in
    let r = c.in-Some.region in
    let heap : IsHeapAt m c.args.heap r.len = found_at m c.args.heap r c.requires c.in-Some.ensures.0 c.in-Some.ensures.1 in
    let below : c.args.heap + r.len ≤ 2 ^ 26 = heap_below m c.args.heap r.len heap in
    let inside : 16 + size_of (items_at m c.args.heap) ≤ r.len = heap.inside in
    omega arith

pub word-requires-clause-aligned : goal.word-requires-clause-aligned
word-requires-clause-aligned c =
    let m = c.args.map.now in
    let r = c.in-Some.region in
    let heap : IsHeapAt m c.args.heap r.len = found_at m c.args.heap r c.requires c.in-Some.ensures.0 c.in-Some.ensures.1 in
    let below : c.args.heap + r.len ≤ 2 ^ 26 = heap_below m c.args.heap r.len heap in
    let inside : 16 + size_of (items_at m c.args.heap) ≤ r.len = heap.inside in
    omega (arith, heap.aligned)

pub word-requires-clause-mapped : goal.word-requires-clause-mapped
word-requires-clause-mapped c =
    let m = c.args.map.now in
    let r = c.in-Some.region in
    let heap : IsHeapAt m c.args.heap r.len = found_at m c.args.heap r c.requires c.in-Some.ensures.0 c.in-Some.ensures.1 in
    let below : c.args.heap + r.len ≤ 2 ^ 26 = heap_below m c.args.heap r.len heap in
    let inside : 16 + size_of (items_at m c.args.heap) ≤ r.len = heap.inside in
    heap.mapped (c.args.heap + 8) (omega arith) (omega arith)

pub overflow_sub-room : goal.overflow_sub-room
overflow_sub-room c =
    let m = c.args.map.now in
    let r = c.in-Some.region in
    let heap : IsHeapAt m c.args.heap r.len = found_at m c.args.heap r c.requires c.in-Some.ensures.0 c.in-Some.ensures.1 in
    let below : c.args.heap + r.len ≤ 2 ^ 26 = heap_below m c.args.heap r.len heap in
    let inside : 16 + size_of (items_at m c.args.heap) ≤ r.len = heap.inside in
    rw (c.word.ensures, heap.base) inside

pub overflow_add-result : goal.overflow_add-result
overflow_add-result c =
    let m = c.args.map.now in
    let r = c.in-Some.region in
    let heap : IsHeapAt m c.args.heap r.len = found_at m c.args.heap r c.requires c.in-Some.ensures.0 c.in-Some.ensures.1 in
    let below : c.args.heap + r.len ≤ 2 ^ 26 = heap_below m c.args.heap r.len heap in
    let inside : 16 + size_of (items_at m c.args.heap) ≤ r.len = heap.inside in
    rw (c.free_room-free.ensures.total, c.word.ensures, heap.base) (omega (arith, free_total-bound (items_at m c.args.heap)))

pub returns-clause-answer : goal.returns-clause-answer
returns-clause-answer c =
    let m = c.args.map.now in
    let r = c.in-Some.region in
    let heap : IsHeapAt m c.args.heap r.len = found_at m c.args.heap r c.requires c.in-Some.ensures.0 c.in-Some.ensures.1 in
    let below : c.args.heap + r.len ≤ 2 ^ 26 = heap_below m c.args.heap r.len heap in
    let inside : 16 + size_of (items_at m c.args.heap) ≤ r.len = heap.inside in
    let word : c.word.result ≡ 16 + size_of (items_at m c.args.heap) = c.word.ensures ∙ heap.base in
    let most : c.max-largest.result ≡ larger (largest_free (items_at m c.args.heap)) (round_down_8 (r.len - (16 + size_of (items_at m c.args.heap)))) =
    c.max-largest.ensures ∙ rw (c.free_room-free.ensures.largest, word) (larger_max _ _ ∙ ap (larger (largest_free (items_at m c.args.heap))) (omega arith)) in
    rw (c.saturating_sub.ensures, most, c.free_room-free.ensures.total, word)
    (sym (described_found m c.args.heap r c.in-Some.ensures.0 c.in-Some.ensures.1))

pub returns-clause-probes : goal.returns-clause-probes
returns-clause-probes c =
    let m = c.args.map.now in
    let r = c.in-Some.region in
    let heap : IsHeapAt m c.args.heap r.len = found_at m c.args.heap r c.requires c.in-Some.ensures.0 c.in-Some.ensures.1 in
    let below : c.args.heap + r.len ≤ 2 ^ 26 = heap_below m c.args.heap r.len heap in
    let inside : 16 + size_of (items_at m c.args.heap) ≤ r.len = heap.inside in
    c.free_room-free.ensures.count ∙ sym (probes_found m c.args.heap r c.in-Some.ensures.0 c.in-Some.ensures.1)
