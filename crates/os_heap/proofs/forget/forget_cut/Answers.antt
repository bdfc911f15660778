use Rattle.std.proofs.Common.{arith}
use Rattle.os_heap.proofs.ForgetLemmas.{LiesAt, forgets_beyond, lies_at}
use Rattle.os_heap.proofs.forget.forget_cut.Goals as goal

pub overflow_sub-block : goal.overflow_sub-block
overflow_sub-block c = omega (arith, (lies_at c.args.map.now c.args.block c.args.total c.requires.state c.requires.block).above)

pub overflow_add-block : goal.overflow_add-block
overflow_add-block c =
    let at : LiesAt c.args.map.now c.args.block c.args.total = lies_at c.args.map.now c.args.block c.args.total c.requires.state c.requires.block in
    omega (arith, at.above, at.below)

pub forget-requires-clause-aligned : goal.forget-requires-clause-aligned
forget-requires-clause-aligned c =
    let at : LiesAt c.args.map.now c.args.block c.args.total = lies_at c.args.map.now c.args.block c.args.total c.requires.state c.requires.block in
    omega (arith, at.aligned, at.above, c.requires.aligned)

pub returns-else-needed-from-clause-forgets : goal.returns-else-needed-from-clause-forgets
returns-else-needed-from-clause-forgets c =
    let at : LiesAt c.args.map.now c.args.block c.args.total = lies_at c.args.map.now c.args.block c.args.total c.requires.state c.requires.block in
    forgets_beyond c.args.map.now c.args.block c.args.total _ c.requires.state c.requires.block (omega (arith, at.above))
