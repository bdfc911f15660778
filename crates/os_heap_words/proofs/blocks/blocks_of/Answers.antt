use Rattle.std.proofs.Common.{◌≤◌, ◌+◌, ◌^◌, ap, refl, ◌∙◌, arith}
use Rattle.address_map.specs.Items.{link_target, size_of}
use Rattle.address_map.specs.Memory.{bytes_of}
use Rattle.os_heap_words.specs.Outcomes.{items_at}
use Rattle.os_heap_words.proofs.Tally.{heap_below, first_link_below}
use Rattle.os_heap_words.proofs.Rest.{rest_of}
use Rattle.os_heap_words.proofs.ListsLemmas.Rest.{rest_items}
use Rattle.os_heap_words.proofs.blocks.blocks_of.Goals as goal

pub overflow_add-result : goal.overflow_add-result
overflow_add-result c =
    let m = c.args.map.now in
    let below : c.args.heap + c.args.end ≤ 2 ^ 26 = heap_below m c.args.heap c.args.end c.requires in
    let inside : 16 + size_of (items_at m c.args.heap) ≤ c.args.end = c.requires.inside in
    omega arith

pub overflow_add-heap : goal.overflow_add-heap
overflow_add-heap c =
    let m = c.args.map.now in
    let below : c.args.heap + c.args.end ≤ 2 ^ 26 = heap_below m c.args.heap c.args.end c.requires in
    let inside : 16 + size_of (items_at m c.args.heap) ≤ c.args.end = c.requires.inside in
    omega arith

pub overflow_add-heap-2 : goal.overflow_add-heap-2
overflow_add-heap-2 c =
    let m = c.args.map.now in
    let below : c.args.heap + c.args.end ≤ 2 ^ 26 = heap_below m c.args.heap c.args.end c.requires in
    let inside : 16 + size_of (items_at m c.args.heap) ≤ c.args.end = c.requires.inside in
    omega arith

pub linked-requires : goal.linked-requires
linked-requires c =
    let m = c.args.map.now in
    let below : c.args.heap + c.args.end ≤ 2 ^ 26 = heap_below m c.args.heap c.args.end c.requires in
    let inside : 16 + size_of (items_at m c.args.heap) ≤ c.args.end = c.requires.inside in
    rw c.word.ensures (omega (arith, first_link_below m c.args.heap c.args.end c.requires))

pub overflow_add-result-2 : goal.overflow_add-result-2
overflow_add-result-2 c =
    let m = c.args.map.now in
    let below : c.args.heap + c.args.end ≤ 2 ^ 26 = heap_below m c.args.heap c.args.end c.requires in
    let inside : 16 + size_of (items_at m c.args.heap) ≤ c.args.end = c.requires.inside in
    rw c.word-2.ensures (omega (arith, c.requires.base))

pub invariant_of-result : goal.invariant_of-result
invariant_of-result c =
    let m = c.args.map.now in
    let below : c.args.heap + c.args.end ≤ 2 ^ 26 = heap_below m c.args.heap c.args.end c.requires in
    let inside : 16 + size_of (items_at m c.args.heap) ≤ c.args.end = c.requires.inside in
    (rest_of m c.args.heap c.args.end (c.args.heap + 16) c.linked.result (c.args.heap + c.word-2.result) c.requires refl
    (c.linked.ensures ∙ ap (link_target c.args.heap) c.word.ensures) (ap (λ w. c.args.heap + w) c.word-2.ensures)).0

pub returns : goal.returns
returns c =
    let m = c.args.map.now in
    let below : c.args.heap + c.args.end ≤ 2 ^ 26 = heap_below m c.args.heap c.args.end c.requires in
    let inside : 16 + size_of (items_at m c.args.heap) ≤ c.args.end = c.requires.inside in
    let r = rest_of m c.args.heap c.args.end (c.args.heap + 16) c.linked.result (c.args.heap + c.word-2.result) c.requires refl
    (c.linked.ensures ∙ ap (link_target c.args.heap) c.word.ensures) (ap (λ w. c.args.heap + w) c.word-2.ensures) in
    rest_items (bytes_of m) (c.args.heap + 16) c.linked.result (c.args.heap + c.word-2.result) r.0 ∙ r.1
