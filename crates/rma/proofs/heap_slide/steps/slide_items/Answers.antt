use Rattle.std.proofs.Common.{◌∙◌, arith}
use Rattle.dynamic_areas.proofs.Replace.{heap_below}
use Rattle.dynamic_areas.specs.Outcomes.{end_at}
use Rattle.rma.proofs.HeapSlideLemmas.Sliding.{all_slid, at_free, at_live, free_went, live_room, live_went}
use Rattle.rma.proofs.heap_slide.steps.slide_items.Goals as goal

pub overflow_add-heap : goal.overflow_add-heap
overflow_add-heap c =
    omega (arith, heap_below c.args.map.now c.args.heap (end_at c.args.map.now c.args.heap) _ c.requires.heap, c.requires.heap.inside)

pub overflow_add-base : goal.overflow_add-base
overflow_add-base c =
    omega (arith, heap_below c.args.map.now c.args.heap (end_at c.args.map.now c.args.heap) _ c.requires.heap, c.requires.heap.inside, c.word.ensures, c.requires.heap.base)

pub pass_free-cursor-requires : goal.pass_free-cursor-requires
pass_free-cursor-requires c =
    let here = at_free _ _ _ _ _ _ _ _ _ _ c.loop-cursor.invariant c.requires.heap (omega (arith, c.loop-cursor-test.true, c.word.ensures)) c.if-cursor.true in
    here.here

pub loop-cursor-smaller-then-cursor : goal.loop-cursor-smaller-then-cursor
loop-cursor-smaller-then-cursor c =
    let here = at_free _ _ _ _ _ _ _ _ _ _ c.loop-cursor.invariant c.requires.heap (omega (arith, c.loop-cursor-test.true, c.word.ensures)) c.if-cursor.true in
    omega (arith, c.pass_free-cursor.ensures.at, here.word, here.facts.size, here.facts.high, here.facts.top)

pub loop-cursor-preserved-then-cursor : goal.loop-cursor-preserved-then-cursor
loop-cursor-preserved-then-cursor c =
    let here = at_free _ _ _ _ _ _ _ _ _ _ c.loop-cursor.invariant c.requires.heap (omega (arith, c.loop-cursor-test.true, c.word.ensures)) c.if-cursor.true in
    free_went _ _ _ _ _ _ _ _ _ _ _ _ _ _ _ c.loop-cursor.invariant here c.pass_free-cursor.ensures.from c.pass_free-cursor.ensures.top c.pass_free-cursor.ensures.at
    c.pass_free-cursor.ensures.free c.pass_free-cursor.ensures.kept.bytes c.pass_free-cursor.ensures.kept.layout c.pass_free-cursor.ensures.marks

pub word-total-requires-clause-aligned : goal.word-total-requires-clause-aligned
word-total-requires-clause-aligned c =
    let here = at_live _ _ _ _ _ _ _ _ _ _ c.loop-cursor.invariant c.requires.heap (omega (arith, c.loop-cursor-test.true, c.word.ensures)) c.if-cursor.false in
    here.facts.whole

pub word-total-requires-clause-mapped : goal.word-total-requires-clause-mapped
word-total-requires-clause-mapped c =
    let here = at_live _ _ _ _ _ _ _ _ _ _ c.loop-cursor.invariant c.requires.heap (omega (arith, c.loop-cursor-test.true, c.word.ensures)) c.if-cursor.false in
    c.loop-cursor.invariant.heap.mapped _ (omega (arith, here.facts.low)) (omega (arith, here.facts.high, here.facts.size))

pub place-to-requires : goal.place-to-requires
place-to-requires c =
    let here = at_live _ _ _ _ _ _ _ _ _ _ c.loop-cursor.invariant c.requires.heap (omega (arith, c.loop-cursor-test.true, c.word.ensures)) c.if-cursor.false in
    omega (arith, here.facts.high, here.facts.size, here.facts.top)

pub add_move-requires-clause-room : goal.add_move-requires-clause-room
add_move-requires-clause-room c =
    let here = at_live _ _ _ _ _ _ _ _ _ _ c.loop-cursor.invariant c.requires.heap (omega (arith, c.loop-cursor-test.true, c.word.ensures)) c.if-cursor.false in
    (live_room _ _ _ _ _ _ _ _ _ _ _ _ c.loop-cursor.invariant here c.requires.heap (c.word-total.ensures ∙ here.word) c.place-to.ensures.to).moves

pub add_move-requires-clause-low : goal.add_move-requires-clause-low
add_move-requires-clause-low c =
    let here = at_live _ _ _ _ _ _ _ _ _ _ c.loop-cursor.invariant c.requires.heap (omega (arith, c.loop-cursor-test.true, c.word.ensures)) c.if-cursor.false in
    (live_room _ _ _ _ _ _ _ _ _ _ _ _ c.loop-cursor.invariant here c.requires.heap (c.word-total.ensures ∙ here.word) c.place-to.ensures.to).high

pub add_move-requires-clause-fits : goal.add_move-requires-clause-fits
add_move-requires-clause-fits c =
    let here = at_live _ _ _ _ _ _ _ _ _ _ c.loop-cursor.invariant c.requires.heap (omega (arith, c.loop-cursor-test.true, c.word.ensures)) c.if-cursor.false in
    omega (arith, here.facts.high, here.facts.size, here.facts.top)

pub lay-cursor-requires-clause-room : goal.lay-cursor-requires-clause-room
lay-cursor-requires-clause-room c =
    let here = at_live _ _ _ _ _ _ _ _ _ _ c.loop-cursor.invariant c.requires.heap (omega (arith, c.loop-cursor-test.true, c.word.ensures)) c.if-cursor.false in
    (live_room _ _ _ _ _ _ _ _ _ _ _ _ c.loop-cursor.invariant here c.requires.heap (c.word-total.ensures ∙ here.word) c.place-to.ensures.to).room

pub lay-cursor-requires-clause-high : goal.lay-cursor-requires-clause-high
lay-cursor-requires-clause-high c =
    let here = at_live _ _ _ _ _ _ _ _ _ _ c.loop-cursor.invariant c.requires.heap (omega (arith, c.loop-cursor-test.true, c.word.ensures)) c.if-cursor.false in
    (live_room _ _ _ _ _ _ _ _ _ _ _ _ c.loop-cursor.invariant here c.requires.heap (c.word-total.ensures ∙ here.word) c.place-to.ensures.to).high

pub lay-cursor-requires-clause-aligned : goal.lay-cursor-requires-clause-aligned
lay-cursor-requires-clause-aligned c =
    let here = at_live _ _ _ _ _ _ _ _ _ _ c.loop-cursor.invariant c.requires.heap (omega (arith, c.loop-cursor-test.true, c.word.ensures)) c.if-cursor.false in
    here.facts.whole

pub loop-cursor-smaller : goal.loop-cursor-smaller
loop-cursor-smaller c =
    let here = at_live _ _ _ _ _ _ _ _ _ _ c.loop-cursor.invariant c.requires.heap (omega (arith, c.loop-cursor-test.true, c.word.ensures)) c.if-cursor.false in
    omega (arith, c.lay-cursor.ensures.at, c.word-total.ensures, here.word, here.facts.size, here.facts.high, here.facts.top)

pub loop-cursor-preserved : goal.loop-cursor-preserved
loop-cursor-preserved c =
    let here = at_live _ _ _ _ _ _ _ _ _ _ c.loop-cursor.invariant c.requires.heap (omega (arith, c.loop-cursor-test.true, c.word.ensures)) c.if-cursor.false in
    live_went _ _ _ _ _ _ _ _ _ _ _ _ _ _ _ _ _ _ _ c.loop-cursor.invariant here (c.word-total.ensures ∙ here.word) c.place-to.ensures.to c.place-to.ensures.rest
    c.add_move.ensures c.lay-cursor.ensures.from c.lay-cursor.ensures.top c.lay-cursor.ensures.at c.lay-cursor.ensures.free c.lay-cursor.ensures.laid

pub returns : goal.returns
returns c =
    all_slid _ _ _ _ _ _ _ _ _ _ c.loop-cursor.invariant c.requires.heap (omega (arith, c.loop-cursor-test.false, c.word.ensures))
