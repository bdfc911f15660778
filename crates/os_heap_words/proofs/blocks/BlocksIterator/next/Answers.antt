use Rattle.std.proofs.Common.{◌≤◌, ◌+◌, ◌^◌, length, ap, sym, ◌∙◌, arith}
use Rattle.address_map.specs.Memory.{bytes_of}
use Rattle.os_heap_words.proofs.ListsLemmas.Rest.{IsFreeFirst, free_first, IsLiveFirst, live_first}
use Rattle.os_heap_words.proofs.Rest.{rest_below}
use Rattle.os_heap_words.proofs.blocks.BlocksIterator.next.Goals as goal

pub overflow_add-self-inside : goal.overflow_add-self-inside
overflow_add-self-inside c =
    let m = c.self.inside.map.now in
    let i = c.self.inside in
    let f : IsFreeFirst (bytes_of m) i.at i.free i.base = free_first (bytes_of m) i.at i.free i.base c.self.invariant c.if-self.false c.if-self-2.true in
    let p = f.passed in
    let below : i.base ≤ 2 ^ 26 = rest_below m i.at i.free i.base c.self.invariant c.if-self.false in
    omega (arith, p.some, p.within)

pub word-total-requires-clause-mapped : goal.word-total-requires-clause-mapped
word-total-requires-clause-mapped c =
    let m = c.self.inside.map.now in
    let i = c.self.inside in
    let f : IsFreeFirst (bytes_of m) i.at i.free i.base = free_first (bytes_of m) i.at i.free i.base c.self.invariant c.if-self.false c.if-self-2.true in
    let p = f.passed in
    let below : i.base ≤ 2 ^ 26 = rest_below m i.at i.free i.base c.self.invariant c.if-self.false in
    c.self.invariant.mapped (i.at + 4) (omega arith) (omega (arith, p.some, p.within))

pub linked-self-inside-requires : goal.linked-self-inside-requires
linked-self-inside-requires c =
    let m = c.self.inside.map.now in
    let i = c.self.inside in
    let f : IsFreeFirst (bytes_of m) i.at i.free i.base = free_first (bytes_of m) i.at i.free i.base c.self.invariant c.if-self.false c.if-self-2.true in
    let p = f.passed in
    let below : i.base ≤ 2 ^ 26 = rest_below m i.at i.free i.base c.self.invariant c.if-self.false in
    rw c.word.ensures (omega (arith, f.link))

pub overflow_add-self : goal.overflow_add-self
overflow_add-self c =
    let m = c.self.inside.map.now in
    let i = c.self.inside in
    let f : IsFreeFirst (bytes_of m) i.at i.free i.base = free_first (bytes_of m) i.at i.free i.base c.self.invariant c.if-self.false c.if-self-2.true in
    let p = f.passed in
    let below : i.base ≤ 2 ^ 26 = rest_below m i.at i.free i.base c.self.invariant c.if-self.false in
    rw c.word-total.ensures (omega (arith, p.within))

pub invariant_of-self : goal.invariant_of-self
invariant_of-self c =
    let m = c.self.inside.map.now in
    let i = c.self.inside in
    let f : IsFreeFirst (bytes_of m) i.at i.free i.base = free_first (bytes_of m) i.at i.free i.base c.self.invariant c.if-self.false c.if-self-2.true in
    let p = f.passed in
    let below : i.base ≤ 2 ^ 26 = rest_below m i.at i.free i.base c.self.invariant c.if-self.false in
    rw (c.linked-self-inside.ensures, c.word.ensures, c.word-total.ensures) p.next

pub returns-then-self-2-clause-steps : goal.returns-then-self-2-clause-steps
returns-then-self-2-clause-steps c =
    let m = c.self.inside.map.now in
    let i = c.self.inside in
    let f : IsFreeFirst (bytes_of m) i.at i.free i.base = free_first (bytes_of m) i.at i.free i.base c.self.invariant c.if-self.false c.if-self-2.true in
    let p = f.passed in
    let below : i.base ≤ 2 ^ 26 = rest_below m i.at i.free i.base c.self.invariant c.if-self.false in
    rw (c.linked-self-inside.ensures, c.word.ensures, c.word-total.ensures) (sym c.self.view_is ∙ p.list)

pub returns-then-self-2-clause-goes : goal.returns-then-self-2-clause-goes
returns-then-self-2-clause-goes c =
    let m = c.self.inside.map.now in
    let i = c.self.inside in
    let f : IsFreeFirst (bytes_of m) i.at i.free i.base = free_first (bytes_of m) i.at i.free i.base c.self.invariant c.if-self.false c.if-self-2.true in
    let p = f.passed in
    let below : i.base ≤ 2 ^ 26 = rest_below m i.at i.free i.base c.self.invariant c.if-self.false in
    let e = returns-then-self-2-clause-steps c in
    record { on = λ _. (tt, tt, omega (arith, ap length e)); keeps = tt; rests = λ _. tt }

pub overflow_add-self-2 : goal.overflow_add-self-2
overflow_add-self-2 c =
    let m = c.self.inside.map.now in
    let i = c.self.inside in
    let f : IsLiveFirst (bytes_of m) i.at i.free i.base = live_first (bytes_of m) i.at i.free i.base c.self.invariant c.if-self.false c.if-self-2.false in
    let p = f.passed in
    let below : i.base ≤ 2 ^ 26 = rest_below m i.at i.free i.base c.self.invariant c.if-self.false in
    rw c.word-total-2.ensures (omega (arith, p.within))

pub invariant_of-self-2 : goal.invariant_of-self-2
invariant_of-self-2 c =
    let m = c.self.inside.map.now in
    let i = c.self.inside in
    let f : IsLiveFirst (bytes_of m) i.at i.free i.base = live_first (bytes_of m) i.at i.free i.base c.self.invariant c.if-self.false c.if-self-2.false in
    let p = f.passed in
    let below : i.base ≤ 2 ^ 26 = rest_below m i.at i.free i.base c.self.invariant c.if-self.false in
    rw c.word-total-2.ensures p.next

pub returns-clause-steps : goal.returns-clause-steps
returns-clause-steps c =
    let m = c.self.inside.map.now in
    let i = c.self.inside in
    let f : IsLiveFirst (bytes_of m) i.at i.free i.base = live_first (bytes_of m) i.at i.free i.base c.self.invariant c.if-self.false c.if-self-2.false in
    let p = f.passed in
    let below : i.base ≤ 2 ^ 26 = rest_below m i.at i.free i.base c.self.invariant c.if-self.false in
    rw c.word-total-2.ensures (sym c.self.view_is ∙ p.list)

pub returns-clause-goes : goal.returns-clause-goes
returns-clause-goes c =
    let m = c.self.inside.map.now in
    let i = c.self.inside in
    let f : IsLiveFirst (bytes_of m) i.at i.free i.base = live_first (bytes_of m) i.at i.free i.base c.self.invariant c.if-self.false c.if-self-2.false in
    let p = f.passed in
    let below : i.base ≤ 2 ^ 26 = rest_below m i.at i.free i.base c.self.invariant c.if-self.false in
    let e = returns-clause-steps c in
    record { on = λ _. (tt, tt, omega (arith, ap length e)); keeps = tt; rests = λ _. tt }
