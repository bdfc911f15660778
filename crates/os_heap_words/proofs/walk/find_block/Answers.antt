use Rattle.std.proofs.Common.{arith}
use Rattle.os_heap_words.specs.Outcomes.{end_at}
use Rattle.os_heap_words.proofs.Replace.{heap_below}
use Rattle.os_heap_words.proofs.Walking.{walk_free, walk_live, begun_few}
use Rattle.os_heap_words.proofs.ListsLemmas.ItemWalk.{near, walk_past}
use Rattle.os_heap_words.proofs.Freeing.{walk_over, free_ends, block_found}
use Rattle.os_heap_words.proofs.walk.find_block.Goals as goal

pub overflow_add-heap : goal.overflow_add-heap
overflow_add-heap c =
    omega (arith, heap_below c.args.map.now c.args.heap (end_at c.args.map.now c.args.heap) _ c.requires, c.requires.inside)

pub overflow_add-base : goal.overflow_add-base
overflow_add-base c =
    omega (arith, heap_below c.args.map.now c.args.heap (end_at c.args.map.now c.args.heap) _ c.requires, c.requires.inside, c.word.ensures, c.requires.base)

pub returns-then-cursor-base-clause-block : goal.returns-then-cursor-base-clause-block
returns-then-cursor-base-clause-block c =
    (walk_over c.args.map.now c.args.heap (end_at c.args.map.now c.args.heap) c.args.block _ _ _ _ _ c.requires c.approach-cursor.ensures.walk (let word = c.word.ensures in omega arith)).0

pub returns-then-cursor-block-clause-block : goal.returns-then-cursor-block-clause-block
returns-then-cursor-block-clause-block c =
    (walk_past c.args.heap _ c.args.block _ _ _ _ _ c.approach-cursor.ensures.walk c.if-cursor-block.true).0

pub returns-then-cursor-base-clause-probes : goal.returns-then-cursor-base-clause-probes
returns-then-cursor-base-clause-probes c =
    (walk_over c.args.map.now c.args.heap (end_at c.args.map.now c.args.heap) c.args.block _ _ _ _ _ c.requires c.approach-cursor.ensures.walk (let word = c.word.ensures in omega arith)).1

pub returns-then-cursor-block-clause-probes : goal.returns-then-cursor-block-clause-probes
returns-then-cursor-block-clause-probes c =
    (walk_past c.args.heap _ c.args.block _ _ _ _ _ c.approach-cursor.ensures.walk c.if-cursor-block.true).1

pub overflow_add-probes : goal.overflow_add-probes
overflow_add-probes c =
    omega (arith, c.approach-cursor.ensures.walk.walk.count, begun_few c.args.map.now c.args.heap (end_at c.args.map.now c.args.heap) c.args.block _ c.requires)

pub returns-then-cursor-clause-block : goal.returns-then-cursor-clause-block
returns-then-cursor-clause-block c =
    let f = walk_free c.args.map.now c.args.heap (end_at c.args.map.now c.args.heap) c.args.block _ _ _ _ _ c.requires c.approach-cursor.ensures.walk (omega (arith, c.word.ensures)) c.if-cursor.true in
    (free_ends c.args.map.now c.args.heap (end_at c.args.map.now c.args.heap) c.args.block _ _ _ _ _ f c.if-cursor-block.false (near c.args.block c.approach-cursor.result.at _ c.approach-cursor.ensures.end (omega (arith, c.word.ensures)))).0

pub returns-then-cursor-clause-probes : goal.returns-then-cursor-clause-probes
returns-then-cursor-clause-probes c =
    let f = walk_free c.args.map.now c.args.heap (end_at c.args.map.now c.args.heap) c.args.block _ _ _ _ _ c.requires c.approach-cursor.ensures.walk (omega (arith, c.word.ensures)) c.if-cursor.true in
    (free_ends c.args.map.now c.args.heap (end_at c.args.map.now c.args.heap) c.args.block _ _ _ _ _ f c.if-cursor-block.false (near c.args.block c.approach-cursor.result.at _ c.approach-cursor.ensures.end (omega (arith, c.word.ensures)))).1

pub returns-clause-block : goal.returns-clause-block
returns-clause-block c =
    let f = walk_live c.args.map.now c.args.heap (end_at c.args.map.now c.args.heap) c.args.block _ _ _ _ _ c.requires c.approach-cursor.ensures.walk (omega (arith, c.word.ensures)) c.if-cursor.false in
    (block_found c.args.map.now c.args.heap (end_at c.args.map.now c.args.heap) c.args.block _ _ _ _ _ f (omega (arith, c.if-cursor-block.false, near c.args.block c.approach-cursor.result.at _ c.approach-cursor.ensures.end (omega (arith, c.word.ensures))))).0

pub returns-clause-probes : goal.returns-clause-probes
returns-clause-probes c =
    let f = walk_live c.args.map.now c.args.heap (end_at c.args.map.now c.args.heap) c.args.block _ _ _ _ _ c.requires c.approach-cursor.ensures.walk (omega (arith, c.word.ensures)) c.if-cursor.false in
    (block_found c.args.map.now c.args.heap (end_at c.args.map.now c.args.heap) c.args.block _ _ _ _ _ f (omega (arith, c.if-cursor-block.false, near c.args.block c.approach-cursor.result.at _ c.approach-cursor.ensures.end (omega (arith, c.word.ensures))))).1

pub overflow_add-cursor : goal.overflow_add-cursor
overflow_add-cursor c =
    omega (arith, heap_below c.args.map.now c.args.heap (end_at c.args.map.now c.args.heap) _ c.requires, c.requires.inside, c.word.ensures, c.requires.base, c.if-cursor-base.false)
