use Rattle.std.proofs.Common.{ℕ, ◌+◌, ◌-◌, ◌∙◌, leb, refl, sym, ap, arith}
use Rattle.os_heap_words.specs.Items.{total_of}
use Rattle.os_heap.proofs.Holding.{range_decided, walk_ends}
use Rattle.os_heap.proofs.obstacles.range_among.Goals as goal

pub returns-then-holds_byte-clause-yes : goal.returns-then-holds_byte-clause-yes
returns-then-holds_byte-clause-yes c =
    let here : ℕ = c.loop-item.here in
    let at : ℕ = c.args.at in
    let len : ℕ = c.args.len in
    let place = rw c.in-Some.ensures.steps at c.loop-item.invariant.place in
    ap (λ (t : ℕ). leb len (here + t - at)) c.total.ensures
    ∙ range_decided here c.in-Some.item c.next.new.self at len (leb len (here + total_of c.in-Some.item - at)) (sym c.holds_byte.ensures ∙ c.if-holds_byte.true) refl
    ∙ place

pub returns-then-holds_byte-clause-probes : goal.returns-then-holds_byte-clause-probes
returns-then-holds_byte-clause-probes c =
    let count = rw c.in-Some.ensures.steps at c.loop-item.invariant.count in
    let last = walk_ends c.args.at c.loop-item.here c.in-Some.item c.next.new.self (sym c.holds_byte.ensures ∙ c.if-holds_byte.true) in
    omega (arith, count, last)
