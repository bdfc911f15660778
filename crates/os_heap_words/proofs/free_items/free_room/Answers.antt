use Rattle.std.proofs.Common.{◌+◌, ap, ◌∙◌, arith}
use Rattle.address_map.specs.Bytes.{word_at}
use Rattle.address_map.specs.Items.{link_target}
use Rattle.address_map.specs.Memory.{byte_at}
use Rattle.os_heap_words.specs.Outcomes.{items_at}
use Rattle.os_heap_words.proofs.Tally.{heap_below, first_link_below, tally_start}
use Rattle.os_heap_words.proofs.ListsLemmas.Tally.{tally_end}
use Rattle.os_heap_words.proofs.free_items.free_room.Goals as goal

pub overflow_add-heap : goal.overflow_add-heap
overflow_add-heap c = omega (arith, heap_below c.args.map.now c.args.heap c.args.end c.requires, c.requires.inside)

pub linked-requires : goal.linked-requires
linked-requires c = rw c.word.ensures (omega (arith, first_link_below c.args.map.now c.args.heap c.args.end c.requires))

pub loop-tally-init : goal.loop-tally-init
loop-tally-init c =
    tally_start c.args.map.now c.args.heap c.args.end c.linked.result c.requires (c.linked.ensures ∙ ap (link_target c.args.heap) c.word.ensures)

pub returns-clause-count : goal.returns-clause-count
returns-clause-count c =
    let t = c.loop-tally.tally in
    (tally_end (word_at (byte_at c.args.map.now)) c.args.heap (c.args.heap + c.args.end) (items_at c.args.map.now c.args.heap)
    t.at t.count t.total t.largest c.loop-tally.invariant c.loop-tally-test.false).0

pub returns-clause-total : goal.returns-clause-total
returns-clause-total c =
    let t = c.loop-tally.tally in
    (tally_end (word_at (byte_at c.args.map.now)) c.args.heap (c.args.heap + c.args.end) (items_at c.args.map.now c.args.heap)
    t.at t.count t.total t.largest c.loop-tally.invariant c.loop-tally-test.false).1.0

pub returns-clause-largest : goal.returns-clause-largest
returns-clause-largest c =
    let t = c.loop-tally.tally in
    (tally_end (word_at (byte_at c.args.map.now)) c.args.heap (c.args.heap + c.args.end) (items_at c.args.map.now c.args.heap)
    t.at t.count t.total t.largest c.loop-tally.invariant c.loop-tally-test.false).1.1
