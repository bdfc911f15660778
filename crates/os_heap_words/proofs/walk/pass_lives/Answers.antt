use Rattle.std.proofs.Common.{◌∙◌, arith}
use Rattle.os_heap_words.specs.Outcomes.{end_at}
use Rattle.os_heap_words.proofs.Replace.{heap_mapped}
use Rattle.os_heap_words.proofs.Walking.{from_kept, walk_live, live_passed}
use Rattle.os_heap_words.proofs.walk.pass_lives.Goals as goal

pub word-at-requires-clause-aligned : goal.word-at-requires-clause-aligned
word-at-requires-clause-aligned c =
    let f = walk_live c.args.map.now c.args.heap (end_at c.args.map.now c.args.heap) c.args.block _ _ _ _ _ c.requires.heap c.loop-at.invariant.0 (omega (arith, c.loop-at-test.true, c.requires.more)) c.if-at-cursor.true in
    f.facts.whole

pub word-at-requires-clause-mapped : goal.word-at-requires-clause-mapped
word-at-requires-clause-mapped c =
    let f = walk_live c.args.map.now c.args.heap (end_at c.args.map.now c.args.heap) c.args.block _ _ _ _ _ c.requires.heap c.loop-at.invariant.0 (omega (arith, c.loop-at-test.true, c.requires.more)) c.if-at-cursor.true in
    heap_mapped c.args.map.now c.args.heap (end_at c.args.map.now c.args.heap) c.loop-at.at _ c.requires.heap (omega (arith, f.facts.low)) (omega (arith, f.facts.high, f.facts.size))

pub overflow_add-at : goal.overflow_add-at
overflow_add-at c =
    let f = walk_live c.args.map.now c.args.heap (end_at c.args.map.now c.args.heap) c.args.block _ _ _ _ _ c.requires.heap c.loop-at.invariant.0 (omega (arith, c.loop-at-test.true, c.requires.more)) c.if-at-cursor.true in
    let total = c.word-at.ensures ∙ f.facts.total_word in
    omega (arith, total, f.facts.high, f.facts.top)

pub overflow_add-probes : goal.overflow_add-probes
overflow_add-probes c =
    let f = walk_live c.args.map.now c.args.heap (end_at c.args.map.now c.args.heap) c.args.block _ _ _ _ _ c.requires.heap c.loop-at.invariant.0 (omega (arith, c.loop-at-test.true, c.requires.more)) c.if-at-cursor.true in
    omega (arith, f.walk.count, f.few)

pub loop-at-smaller : goal.loop-at-smaller
loop-at-smaller c =
    let f = walk_live c.args.map.now c.args.heap (end_at c.args.map.now c.args.heap) c.args.block _ _ _ _ _ c.requires.heap c.loop-at.invariant.0 (omega (arith, c.loop-at-test.true, c.requires.more)) c.if-at-cursor.true in
    let total = c.word-at.ensures ∙ f.facts.total_word in
    omega (arith, total, f.facts.size, c.loop-at-test.true)

pub loop-at-preserved : goal.loop-at-preserved
loop-at-preserved c =
    let f = walk_live c.args.map.now c.args.heap (end_at c.args.map.now c.args.heap) c.args.block _ _ _ _ _ c.requires.heap c.loop-at.invariant.0 (omega (arith, c.loop-at-test.true, c.requires.more)) c.if-at-cursor.true in
    let total = c.word-at.ensures ∙ f.facts.total_word in
    let low = c.requires.before c.loop-at.at c.loop-at-test.true in (
      rw total (from_kept _ _ _ _ _ _ _ _ _ c.if-cursor-ne0.false
          (live_passed c.args.map.now c.args.heap (end_at c.args.map.now c.args.heap) c.args.block _ _ _ _ _ f low)),
      omega (arith, c.loop-at.invariant.1),
    )
