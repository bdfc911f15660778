use Rattle.std.proofs.Common.{◌≡◌, ◌+◌, ℕ, length, ap, sym, ◌∙◌, arith}
use Rattle.os_heap.specs.Bytes.{word_at}
use Rattle.os_heap.specs.Memory.{byte_at}
use Rattle.flex_store.specs.Blocks.{bytes_taken_by}
use Rattle.flex_store.specs.Memory.{blocks_in}
use Rattle.flex_store.proofs.Listing.{next_listed, none_listed}
use Rattle.flex_store.proofs.Walks.{ahead}
use Rattle.flex_store.proofs.blocks.FlexBlocksIterator.next.Goals as goal

pub returns-then-self-clause-steps : goal.returns-then-self-clause-steps
returns-then-self-clause-steps c =
    let i = c.self.inside in
    let none = sym c.self.view_is ∙ none_listed (byte_at i.map.now) i.header i.end c.if-self.true in
    (none, none)

pub overflow_add-self-inside : goal.overflow_add-self-inside
overflow_add-self-inside c =
    let i = c.self.inside in
    let a = ahead i.map.now i.header i.end (blocks_in (byte_at i.map.now) i.header i.end) c.self.invariant c.if-self.false in
    omega (arith, a.fits, a.low)

pub word-size-requires-clause-mapped : goal.word-size-requires-clause-mapped
word-size-requires-clause-mapped c =
    let i = c.self.inside in
    (ahead i.map.now i.header i.end (blocks_in (byte_at i.map.now) i.header i.end) c.self.invariant c.if-self.false).second

pub overflow_add-at : goal.overflow_add-at
overflow_add-at c =
    let i = c.self.inside in
    let a = ahead i.map.now i.header i.end (blocks_in (byte_at i.map.now) i.header i.end) c.self.invariant c.if-self.false in
    omega (arith, a.fits, a.low)

pub overflow_cast-self : goal.overflow_cast-self
overflow_cast-self c =
    let i = c.self.inside in
    let a = ahead i.map.now i.header i.end (blocks_in (byte_at i.map.now) i.header i.end) c.self.invariant c.if-self.false in
    let size : c.taken.result ≡ bytes_taken_by (word_at (byte_at i.map.now) (i.header + 4)) = c.taken.ensures ∙ ap bytes_taken_by (c.from.ensures ∙ c.word-size.ensures) in
    omega (arith, a.fits, a.low, size)

pub overflow_add-self : goal.overflow_add-self
overflow_add-self c =
    let i = c.self.inside in
    let a = ahead i.map.now i.header i.end (blocks_in (byte_at i.map.now) i.header i.end) c.self.invariant c.if-self.false in
    let size : c.taken.result ≡ bytes_taken_by (word_at (byte_at i.map.now) (i.header + 4)) = c.taken.ensures ∙ ap bytes_taken_by (c.from.ensures ∙ c.word-size.ensures) in
    omega (arith, a.fits, a.low, size)

pub invariant_of-self : goal.invariant_of-self
invariant_of-self c =
    let i = c.self.inside in
    let size : c.taken.result ≡ bytes_taken_by (word_at (byte_at i.map.now) (i.header + 4)) = c.taken.ensures ∙ ap bytes_taken_by (c.from.ensures ∙ c.word-size.ensures) in
    (next_listed i.map.now i.header i.end (i.header + c.taken.result) c.self.invariant c.if-self.false (ap (λ (n : ℕ). i.header + n) size)).rest

pub returns-clause-steps : goal.returns-clause-steps
returns-clause-steps c =
    let i = c.self.inside in
    let size : c.taken.result ≡ bytes_taken_by (word_at (byte_at i.map.now) (i.header + 4)) = c.taken.ensures ∙ ap bytes_taken_by (c.from.ensures ∙ c.word-size.ensures) in
    let n = next_listed i.map.now i.header i.end (i.header + c.taken.result) c.self.invariant c.if-self.false (ap (λ (n : ℕ). i.header + n) size) in
    rw (c.word-anchor.ensures, c.word-size.ensures) (sym c.self.view_is ∙ n.list)

pub returns-clause-goes : goal.returns-clause-goes
returns-clause-goes c =
    let e = returns-clause-steps c in
    record { on = λ _. (tt, tt, omega (arith, ap length e)); keeps = tt; rests = λ _. tt }
