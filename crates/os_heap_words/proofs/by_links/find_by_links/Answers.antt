use Rattle.std.proofs.Common.{◌∙◌, arith, inl, inr}
use Rattle.os_heap_words.specs.Outcomes.{end_at}
use Rattle.os_heap_words.proofs.Replace.{heap_below}
use Rattle.os_heap_words.proofs.Searching.{first_link, first_below}
use Rattle.os_heap_words.proofs.ListsLemmas.LinkWalk.{IsNotBelow, linked_begun, linked_ends}
use Rattle.os_heap_words.proofs.by_links.find_by_links.Goals as goal
use Rattle.os_heap_words.proofs.by_links.find_by_links.Goals.{then-loop-cursor-test+else-cursor-block, else-loop-cursor-test}

pub overflow_add-cursor : goal.overflow_add-cursor
overflow_add-cursor c =
    omega (arith, heap_below c.args.map.now c.args.heap (end_at c.args.map.now c.args.heap) _ c.requires.heap, c.requires.heap.inside)

pub follow-requires-clause-below : goal.follow-requires-clause-below
follow-requires-clause-below c =
    omega (arith, heap_below c.args.map.now c.args.heap (end_at c.args.map.now c.args.heap) _ c.requires.heap, c.requires.heap.inside)

pub follow-requires-clause-fits : goal.follow-requires-clause-fits
follow-requires-clause-fits c =
    rw (first_link c.args.map.now c.args.heap (end_at c.args.map.now c.args.heap) _ c.requires.heap) (omega (arith, first_below c.args.map.now c.args.heap (end_at c.args.map.now c.args.heap) _ c.requires.heap))

pub loop-cursor-init : goal.loop-cursor-init
loop-cursor-init c =
    let e = c.follow.ensures ∙ first_link c.args.map.now c.args.heap (end_at c.args.map.now c.args.heap) _ c.requires.heap in
    rw e (linked_begun c.args.heap _ c.args.block c.requires.live)

pub overflow_sub-at : goal.overflow_sub-at
overflow_sub-at c =
    let far : IsNotBelow c.args.block c.loop-cursor.cursor.free = elim c.loop-cursor-test.branch [
      | then-loop-cursor-test+else-cursor-block w ↦ inr w.if-cursor-block.false
      | else-loop-cursor-test w ↦ inl w.loop-cursor-test.false
    ] in
    let b = linked_ends c.args.heap _ c.args.block _ _ _ _ _ c.requires.heap.totals c.loop-cursor.invariant far in
    b.low

pub returns-then-cursor-at-clause-block : goal.returns-then-cursor-at-clause-block
returns-then-cursor-at-clause-block c =
    let far : IsNotBelow c.args.block c.loop-cursor.cursor.free = elim c.loop-cursor-test.branch [
      | then-loop-cursor-test+else-cursor-block w ↦ inr w.if-cursor-block.false
      | else-loop-cursor-test w ↦ inl w.loop-cursor-test.false
    ] in
    let b = linked_ends c.args.heap _ c.args.block _ _ _ _ _ c.requires.heap.totals c.loop-cursor.invariant far in
    b.here c.if-cursor-at.true

pub returns-then-cursor-at-clause-probes : goal.returns-then-cursor-at-clause-probes
returns-then-cursor-at-clause-probes c =
    let far : IsNotBelow c.args.block c.loop-cursor.cursor.free = elim c.loop-cursor-test.branch [
      | then-loop-cursor-test+else-cursor-block w ↦ inr w.if-cursor-block.false
      | else-loop-cursor-test w ↦ inl w.loop-cursor-test.false
    ] in
    let b = linked_ends c.args.heap _ c.args.block _ _ _ _ _ c.requires.heap.totals c.loop-cursor.invariant far in
    b.count

pub last_link-requires : goal.last_link-requires
last_link-requires c =
    let far : IsNotBelow c.args.block c.loop-cursor.cursor.free = elim c.loop-cursor-test.branch [
      | then-loop-cursor-test+else-cursor-block w ↦ inr w.if-cursor-block.false
      | else-loop-cursor-test w ↦ inl w.loop-cursor-test.false
    ] in
    let b = linked_ends c.args.heap _ c.args.block _ _ _ _ _ c.requires.heap.totals c.loop-cursor.invariant far in
    b.room

pub returns-clause-block : goal.returns-clause-block
returns-clause-block c =
    let far : IsNotBelow c.args.block c.loop-cursor.cursor.free = elim c.loop-cursor-test.branch [
      | then-loop-cursor-test+else-cursor-block w ↦ inr w.if-cursor-block.false
      | else-loop-cursor-test w ↦ inl w.loop-cursor-test.false
    ] in
    let b = linked_ends c.args.heap _ c.args.block _ _ _ _ _ c.requires.heap.totals c.loop-cursor.invariant far in
    rw c.last_link.ensures (b.ahead c.if-cursor-at.false)

pub returns-clause-probes : goal.returns-clause-probes
returns-clause-probes c =
    let far : IsNotBelow c.args.block c.loop-cursor.cursor.free = elim c.loop-cursor-test.branch [
      | then-loop-cursor-test+else-cursor-block w ↦ inr w.if-cursor-block.false
      | else-loop-cursor-test w ↦ inl w.loop-cursor-test.false
    ] in
    let b = linked_ends c.args.heap _ c.args.block _ _ _ _ _ c.requires.heap.totals c.loop-cursor.invariant far in
    b.count
