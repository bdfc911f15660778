use Rattle.std.proofs.Common.{◌≡◌, ◌+◌, ◌-◌, ◌∙◌, false, sym, arith}
use Rattle.os_heap.specs.Forgetting.{holds_heap, lowest_lost}
use Rattle.os_heap.specs.Store.{store_of}
use Rattle.os_heap.proofs.ForgetLemmas.{LiesAt, forgets, forgets_none, lies_at, swept, shown_held, shown_low}
use Rattle.os_heap.proofs.LostHeaps.{held_some}
use Rattle.os_heap.proofs.forget.forget.Goals as goal

pub overflow_sub-held : goal.overflow_sub-held
overflow_sub-held c = omega (arith, (lies_at c.args.map.now c.args.block c.args.total c.requires.state c.requires.block).some)

pub overflow_add-block : goal.overflow_add-block
overflow_add-block c =
    let at : LiesAt c.args.map.now c.args.block c.args.total = lies_at c.args.map.now c.args.block c.args.total c.requires.state c.requires.block in
    omega (arith, at.some, at.above, at.below)

pub unmark_heads-requires-clause-aligned : goal.unmark_heads-requires-clause-aligned
unmark_heads-requires-clause-aligned c =
    let s = swept c.args.map.now c.args.block c.args.total c.args.from c.requires.state c.requires.block c.requires.above c.requires.aligned in
    let low = shown_low c.args.map.now _ c.args.block (c.args.total - 4) c.args.from c.lowest_lost-low.result c.regions.ensures c.lowest_lost-low.ensures in
    rw low s.aligned

pub unmark_heads-requires-clause-whole : goal.unmark_heads-requires-clause-whole
unmark_heads-requires-clause-whole c =
    let s = swept c.args.map.now c.args.block c.args.total c.args.from c.requires.state c.requires.block c.requires.above c.requires.aligned in
    let at : LiesAt c.args.map.now c.args.block c.args.total = lies_at c.args.map.now c.args.block c.args.total c.requires.state c.requires.block in
    let low = shown_low c.args.map.now _ c.args.block (c.args.total - 4) c.args.from c.lowest_lost-low.result c.regions.ensures c.lowest_lost-low.ensures in
    let len : c.saturating_sub-len.result ≡ c.args.block - 4 + c.args.total - lowest_lost c.args.block (c.args.total - 4) c.args.from (store_of c.args.map.now).heaps =
    omega (arith, c.saturating_sub-len.ensures, low, at.above, at.some) in
    rw len s.whole

pub unmark_heads-requires-clause-mapped : goal.unmark_heads-requires-clause-mapped
unmark_heads-requires-clause-mapped c =
    let s = swept c.args.map.now c.args.block c.args.total c.args.from c.requires.state c.requires.block c.requires.above c.requires.aligned in
    let at : LiesAt c.args.map.now c.args.block c.args.total = lies_at c.args.map.now c.args.block c.args.total c.requires.state c.requires.block in
    let low = shown_low c.args.map.now _ c.args.block (c.args.total - 4) c.args.from c.lowest_lost-low.result c.regions.ensures c.lowest_lost-low.ensures in
    let len : c.saturating_sub-len.result ≡ c.args.block - 4 + c.args.total - lowest_lost c.args.block (c.args.total - 4) c.args.from (store_of c.args.map.now).heaps =
    omega (arith, c.saturating_sub-len.ensures, low, at.above, at.some) in
    rw (low, len) s.mapped

pub unmark_heads-requires-clause-end : goal.unmark_heads-requires-clause-end
unmark_heads-requires-clause-end c =
    let at : LiesAt c.args.map.now c.args.block c.args.total = lies_at c.args.map.now c.args.block c.args.total c.requires.state c.requires.block in
    let held = shown_held c.args.map.now _ c.lowest_lost-low.result c.saturating_sub-len.result c.holds_heap.result c.regions-2.ensures c.holds_heap.ensures in
    let some = held_some c.lowest_lost-low.result c.saturating_sub-len.result (store_of c.args.map.now).heaps (sym held ∙ c.if-holds_heap.true) in
    omega (arith, c.saturating_sub-len.ensures, some, at.above, at.some, at.below)

pub returns-then-holds_heap : goal.returns-then-holds_heap
returns-then-holds_heap c =
    let at : LiesAt c.args.map.now c.args.block c.args.total = lies_at c.args.map.now c.args.block c.args.total c.requires.state c.requires.block in
    let low = shown_low c.args.map.now _ c.args.block (c.args.total - 4) c.args.from c.lowest_lost-low.result c.regions.ensures c.lowest_lost-low.ensures in
    let len : c.saturating_sub-len.result ≡ c.args.block - 4 + c.args.total - lowest_lost c.args.block (c.args.total - 4) c.args.from (store_of c.args.map.now).heaps =
    omega (arith, c.saturating_sub-len.ensures, low, at.above, at.some) in
    forgets c.args.map.now c.unmark_heads.new.map c.forget_heaps.new.self c.args.block c.args.total c.args.from c.requires.state c.requires.block c.requires.above
    (rw (low, len) at c.unmark_heads.ensures) (rw (low, len) at c.forget_heaps.ensures.regions) c.forget_heaps.ensures.mapping c.forget_heaps.ensures.bytes
    c.forget_heaps.ensures.marks

pub returns-else-holds_heap : goal.returns-else-holds_heap
returns-else-holds_heap c =
    let at : LiesAt c.args.map.now c.args.block c.args.total = lies_at c.args.map.now c.args.block c.args.total c.requires.state c.requires.block in
    let low = shown_low c.args.map.now _ c.args.block (c.args.total - 4) c.args.from c.lowest_lost-low.result c.regions.ensures c.lowest_lost-low.ensures in
    let len : c.saturating_sub-len.result ≡ c.args.block - 4 + c.args.total - lowest_lost c.args.block (c.args.total - 4) c.args.from (store_of c.args.map.now).heaps =
    omega (arith, c.saturating_sub-len.ensures, low, at.above, at.some) in
    let held = shown_held c.args.map.now _ c.lowest_lost-low.result c.saturating_sub-len.result c.holds_heap.result c.regions-2.ensures c.holds_heap.ensures in
    let none : holds_heap (store_of c.args.map.now).heaps c.lowest_lost-low.result c.saturating_sub-len.result ≡ false = sym held ∙ c.if-holds_heap.false in
    forgets_none c.args.map.now c.args.block c.args.total c.args.from c.requires.state (rw (low, len) at none)
