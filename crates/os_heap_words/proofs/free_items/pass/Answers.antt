use Rattle.std.proofs.Common.{◌≤◌, ◌+◌, ◌^◌, arith}
use Rattle.address_map.specs.Bytes.{word_at}
use Rattle.address_map.specs.Memory.{byte_at}
use Rattle.os_heap_words.specs.Outcomes.{items_at}
use Rattle.os_heap_words.proofs.Tally.{heap_below}
use Rattle.os_heap_words.proofs.ListsLemmas.Tally.{IsAtItem, tally_next, free_count-bound, free_total-bound, larger_max}
use Rattle.os_heap_words.proofs.free_items.pass.Goals as goal

pub overflow_add-tally : goal.overflow_add-tally
overflow_add-tally c =
    let t = c.args.tally.now in
    let a : IsAtItem (word_at (byte_at c.args.map.now)) c.args.heap (c.args.heap + c.args.end) (items_at c.args.map.now c.args.heap) t.at t.count t.total t.largest =
    tally_next (word_at (byte_at c.args.map.now)) c.args.heap (c.args.heap + c.args.end) (items_at c.args.map.now c.args.heap)
    t.at t.count t.total t.largest c.requires.tally c.requires.more in
    let below : c.args.heap + c.args.end ≤ 2 ^ 26 = heap_below c.args.map.now c.args.heap c.args.end c.requires.heap in
    omega (arith, a.high, a.some)

pub word-total-requires-clause-aligned : goal.word-total-requires-clause-aligned
word-total-requires-clause-aligned c =
    let t = c.args.tally.now in
    let a : IsAtItem (word_at (byte_at c.args.map.now)) c.args.heap (c.args.heap + c.args.end) (items_at c.args.map.now c.args.heap) t.at t.count t.total t.largest =
    tally_next (word_at (byte_at c.args.map.now)) c.args.heap (c.args.heap + c.args.end) (items_at c.args.map.now c.args.heap)
    t.at t.count t.total t.largest c.requires.tally c.requires.more in
    let below : c.args.heap + c.args.end ≤ 2 ^ 26 = heap_below c.args.map.now c.args.heap c.args.end c.requires.heap in
    omega (arith, a.aligned)

pub word-total-requires-clause-mapped : goal.word-total-requires-clause-mapped
word-total-requires-clause-mapped c =
    let t = c.args.tally.now in
    let a : IsAtItem (word_at (byte_at c.args.map.now)) c.args.heap (c.args.heap + c.args.end) (items_at c.args.map.now c.args.heap) t.at t.count t.total t.largest =
    tally_next (word_at (byte_at c.args.map.now)) c.args.heap (c.args.heap + c.args.end) (items_at c.args.map.now c.args.heap)
    t.at t.count t.total t.largest c.requires.tally c.requires.more in
    let below : c.args.heap + c.args.end ≤ 2 ^ 26 = heap_below c.args.map.now c.args.heap c.args.end c.requires.heap in
    c.requires.heap.mapped (t.at + 4) (omega (arith, a.low)) (omega (arith, a.high, a.some))

pub word-requires-clause-aligned : goal.word-requires-clause-aligned
word-requires-clause-aligned c =
    let t = c.args.tally.now in
    let a : IsAtItem (word_at (byte_at c.args.map.now)) c.args.heap (c.args.heap + c.args.end) (items_at c.args.map.now c.args.heap) t.at t.count t.total t.largest =
    tally_next (word_at (byte_at c.args.map.now)) c.args.heap (c.args.heap + c.args.end) (items_at c.args.map.now c.args.heap)
    t.at t.count t.total t.largest c.requires.tally c.requires.more in
    let below : c.args.heap + c.args.end ≤ 2 ^ 26 = heap_below c.args.map.now c.args.heap c.args.end c.requires.heap in
    a.aligned

pub word-requires-clause-mapped : goal.word-requires-clause-mapped
word-requires-clause-mapped c =
    let t = c.args.tally.now in
    let a : IsAtItem (word_at (byte_at c.args.map.now)) c.args.heap (c.args.heap + c.args.end) (items_at c.args.map.now c.args.heap) t.at t.count t.total t.largest =
    tally_next (word_at (byte_at c.args.map.now)) c.args.heap (c.args.heap + c.args.end) (items_at c.args.map.now c.args.heap)
    t.at t.count t.total t.largest c.requires.tally c.requires.more in
    let below : c.args.heap + c.args.end ≤ 2 ^ 26 = heap_below c.args.map.now c.args.heap c.args.end c.requires.heap in
    c.requires.heap.mapped t.at (omega (arith, a.low)) (omega (arith, a.high, a.some))

pub linked-requires : goal.linked-requires
linked-requires c =
    let t = c.args.tally.now in
    let a : IsAtItem (word_at (byte_at c.args.map.now)) c.args.heap (c.args.heap + c.args.end) (items_at c.args.map.now c.args.heap) t.at t.count t.total t.largest =
    tally_next (word_at (byte_at c.args.map.now)) c.args.heap (c.args.heap + c.args.end) (items_at c.args.map.now c.args.heap)
    t.at t.count t.total t.largest c.requires.tally c.requires.more in
    let below : c.args.heap + c.args.end ≤ 2 ^ 26 = heap_below c.args.map.now c.args.heap c.args.end c.requires.heap in
    rw c.word.ensures (omega (arith, a.link))

pub overflow_add-result : goal.overflow_add-result
overflow_add-result c =
    let t = c.args.tally.now in
    let a : IsAtItem (word_at (byte_at c.args.map.now)) c.args.heap (c.args.heap + c.args.end) (items_at c.args.map.now c.args.heap) t.at t.count t.total t.largest =
    tally_next (word_at (byte_at c.args.map.now)) c.args.heap (c.args.heap + c.args.end) (items_at c.args.map.now c.args.heap)
    t.at t.count t.total t.largest c.requires.tally c.requires.more in
    let below : c.args.heap + c.args.end ≤ 2 ^ 26 = heap_below c.args.map.now c.args.heap c.args.end c.requires.heap in
    omega (arith, a.counted, free_count-bound (items_at c.args.map.now c.args.heap) c.requires.heap.totals, c.requires.heap.inside)

pub overflow_add-result-2 : goal.overflow_add-result-2
overflow_add-result-2 c =
    let t = c.args.tally.now in
    let a : IsAtItem (word_at (byte_at c.args.map.now)) c.args.heap (c.args.heap + c.args.end) (items_at c.args.map.now c.args.heap) t.at t.count t.total t.largest =
    tally_next (word_at (byte_at c.args.map.now)) c.args.heap (c.args.heap + c.args.end) (items_at c.args.map.now c.args.heap)
    t.at t.count t.total t.largest c.requires.tally c.requires.more in
    let below : c.args.heap + c.args.end ≤ 2 ^ 26 = heap_below c.args.map.now c.args.heap c.args.end c.requires.heap in
    rw c.word-total.ensures (omega (arith, a.summed, free_total-bound (items_at c.args.map.now c.args.heap), c.requires.heap.inside))

pub returns-clause-tally : goal.returns-clause-tally
returns-clause-tally c =
    let t = c.args.tally.now in
    let a : IsAtItem (word_at (byte_at c.args.map.now)) c.args.heap (c.args.heap + c.args.end) (items_at c.args.map.now c.args.heap) t.at t.count t.total t.largest =
    tally_next (word_at (byte_at c.args.map.now)) c.args.heap (c.args.heap + c.args.end) (items_at c.args.map.now c.args.heap)
    t.at t.count t.total t.largest c.requires.tally c.requires.more in
    let below : c.args.heap + c.args.end ≤ 2 ^ 26 = heap_below c.args.map.now c.args.heap c.args.end c.requires.heap in
    rw (c.linked.ensures, c.word.ensures, c.max.ensures, c.word-total.ensures, larger_max) a.next

pub returns-clause-below : goal.returns-clause-below
returns-clause-below c =
    let t = c.args.tally.now in
    let a : IsAtItem (word_at (byte_at c.args.map.now)) c.args.heap (c.args.heap + c.args.end) (items_at c.args.map.now c.args.heap) t.at t.count t.total t.largest =
    tally_next (word_at (byte_at c.args.map.now)) c.args.heap (c.args.heap + c.args.end) (items_at c.args.map.now c.args.heap)
    t.at t.count t.total t.largest c.requires.tally c.requires.more in
    let below : c.args.heap + c.args.end ≤ 2 ^ 26 = heap_below c.args.map.now c.args.heap c.args.end c.requires.heap in
    a.counted
