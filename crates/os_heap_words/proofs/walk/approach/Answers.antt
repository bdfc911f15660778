use Rattle.std.proofs.Common.{◌∙◌, arith}
use Rattle.os_heap_words.specs.Outcomes.{end_at}
use Rattle.os_heap_words.proofs.Replace.{heap_below}
use Rattle.os_heap_words.proofs.Searching.{first_link, first_below}
use Rattle.os_heap_words.proofs.ListsLemmas.ItemWalk.{walk_begun}
use Rattle.os_heap_words.proofs.walk.approach.Goals as goal

pub overflow_add-heap : goal.overflow_add-heap
overflow_add-heap c =
    omega (arith, heap_below c.args.map.now c.args.heap (end_at c.args.map.now c.args.heap) _ c.requires, c.requires.inside)

pub overflow_add-base : goal.overflow_add-base
overflow_add-base c =
    omega (arith, heap_below c.args.map.now c.args.heap (end_at c.args.map.now c.args.heap) _ c.requires, c.requires.inside, c.word.ensures, c.requires.base)

pub follow-free-requires-clause-below : goal.follow-free-requires-clause-below
follow-free-requires-clause-below c =
    omega (arith, heap_below c.args.map.now c.args.heap (end_at c.args.map.now c.args.heap) _ c.requires, c.requires.inside)

pub follow-free-requires-clause-fits : goal.follow-free-requires-clause-fits
follow-free-requires-clause-fits c =
    rw (first_link c.args.map.now c.args.heap (end_at c.args.map.now c.args.heap) _ c.requires) (omega (arith, first_below c.args.map.now c.args.heap (end_at c.args.map.now c.args.heap) _ c.requires))

pub overflow_add-cursor : goal.overflow_add-cursor
overflow_add-cursor c =
    omega (arith, heap_below c.args.map.now c.args.heap (end_at c.args.map.now c.args.heap) _ c.requires, c.requires.inside)

pub loop-cursor-init : goal.loop-cursor-init
loop-cursor-init c =
    let e = c.follow-free.ensures ∙ first_link c.args.map.now c.args.heap (end_at c.args.map.now c.args.heap) _ c.requires in
    rw e (walk_begun c.args.heap _ c.args.block)
