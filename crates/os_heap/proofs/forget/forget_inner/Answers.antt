use Rattle.std.proofs.Common.{◌-◌, ◌∙◌, sym, arith}
use Rattle.os_heap.proofs.ForgetLemmas.{forgets_unheld, lies_at, shown_held}
use Rattle.os_heap.proofs.forget.forget_inner.Goals as goal

pub overflow_sub-total : goal.overflow_sub-total
overflow_sub-total c = omega (arith, (lies_at c.args.map.now c.args.block c.args.total c.requires.state c.requires.block).some)

pub forget-requires-clause-aligned : goal.forget-requires-clause-aligned
forget-requires-clause-aligned c = (lies_at c.args.map.now c.args.block c.args.total c.requires.state c.requires.block).aligned

pub returns-else-holds_heap : goal.returns-else-holds_heap
returns-else-holds_heap c =
    let held = shown_held c.args.map.now _ c.args.block (c.args.total - 4) c.holds_heap.result c.regions.ensures c.holds_heap.ensures in
    forgets_unheld c.args.map.now c.args.block c.args.total c.requires.state c.requires.block (sym held ∙ c.if-holds_heap.false)
