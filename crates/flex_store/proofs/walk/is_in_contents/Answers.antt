use Rattle.std.proofs.Common.{ℕ, ◌≡◌, ◌+◌, ◌&&◌, ◌∙◌, ap, arith, refl, sym}
use Rattle.std.specs.Prelude.{nat_le}
use Rattle.os_heap.specs.Bytes.{word_at}
use Rattle.os_heap.specs.Memory.{byte_at}
use Rattle.flex_store.specs.Blocks.{bytes_taken_by}
use Rattle.flex_store.specs.Memory.{blocks_in}
use Rattle.flex_store.proofs.Contents.{looked_at, sought_all}
use Rattle.flex_store.proofs.Walks.{ahead}
use Rattle.flex_store.proofs.walk.is_in_contents.Goals as goal

pub loop-header-init : goal.loop-header-init
loop-header-init c = record { rest = blocks_in (byte_at c.args.map.now) c.args.at c.args.end; text = c.requires; same = refl }

pub overflow_add-header : goal.overflow_add-header
overflow_add-header c =
    let a = ahead c.args.map.now c.loop-header.header c.args.end c.loop-header.invariant.rest c.loop-header.invariant.text c.loop-header-test.true in
    omega (arith, a.fits, a.low)

pub word-size-requires-clause-aligned : goal.word-size-requires-clause-aligned
word-size-requires-clause-aligned c =
    let a = ahead c.args.map.now c.loop-header.header c.args.end c.loop-header.invariant.rest c.loop-header.invariant.text c.loop-header-test.true in
    omega (arith, a.aligned)

pub word-size-requires-clause-mapped : goal.word-size-requires-clause-mapped
word-size-requires-clause-mapped c = (ahead c.args.map.now c.loop-header.header c.args.end c.loop-header.invariant.rest c.loop-header.invariant.text c.loop-header-test.true).second

pub overflow_add-header-in-loop-header : goal.overflow_add-header-in-loop-header
overflow_add-header-in-loop-header c =
    let a = ahead c.args.map.now c.loop-header.header c.args.end c.loop-header.invariant.rest c.loop-header.invariant.text c.loop-header-test.true in
    omega (arith, a.fits, a.low)

pub returns-then-is_among : goal.returns-then-is_among
returns-then-is_among c =
    let held : c.is_among.result ≡ (nat_le (c.loop-header.header + 8) c.args.place && nat_le (c.args.place + 4) (c.loop-header.header + 8 + word_at (byte_at c.args.map.now) (c.loop-header.header + 4))) =
    c.is_among.ensures ∙ ap (λ (n : ℕ). nat_le (c.loop-header.header + 8) c.args.place && nat_le (c.args.place + 4) (c.loop-header.header + 8 + n)) c.word-size.ensures in
    let l = looked_at c.args.map.now c.args.at c.args.place c.loop-header.header c.args.end c.loop-header-test.true c.loop-header.invariant in
    sym (l.here (sym held ∙ c.if-is_among.true))

pub overflow_cast-header : goal.overflow_cast-header
overflow_cast-header c =
    let a = ahead c.args.map.now c.loop-header.header c.args.end c.loop-header.invariant.rest c.loop-header.invariant.text c.loop-header-test.true in
    let size : c.word-size.result ≡ word_at (byte_at c.args.map.now) (c.loop-header.header + 4) = c.word-size.ensures in
    let total : c.taken.result ≡ bytes_taken_by (word_at (byte_at c.args.map.now) (c.loop-header.header + 4)) = c.taken.ensures ∙ ap bytes_taken_by (c.from.ensures ∙ size) in
    omega (arith, a.fits, a.low)

pub overflow_add-header-in-loop-header-2 : goal.overflow_add-header-in-loop-header-2
overflow_add-header-in-loop-header-2 c =
    let a = ahead c.args.map.now c.loop-header.header c.args.end c.loop-header.invariant.rest c.loop-header.invariant.text c.loop-header-test.true in
    let size : c.word-size.result ≡ word_at (byte_at c.args.map.now) (c.loop-header.header + 4) = c.word-size.ensures in
    let total : c.taken.result ≡ bytes_taken_by (word_at (byte_at c.args.map.now) (c.loop-header.header + 4)) = c.taken.ensures ∙ ap bytes_taken_by (c.from.ensures ∙ size) in
    omega (arith, a.fits, a.low)

pub loop-header-preserved : goal.loop-header-preserved
loop-header-preserved c =
    let held : c.is_among.result ≡ (nat_le (c.loop-header.header + 8) c.args.place && nat_le (c.args.place + 4) (c.loop-header.header + 8 + word_at (byte_at c.args.map.now) (c.loop-header.header + 4))) =
    c.is_among.ensures ∙ ap (λ (n : ℕ). nat_le (c.loop-header.header + 8) c.args.place && nat_le (c.args.place + 4) (c.loop-header.header + 8 + n)) c.word-size.ensures in
    let l = looked_at c.args.map.now c.args.at c.args.place c.loop-header.header c.args.end c.loop-header-test.true c.loop-header.invariant in
    let next : bytes_taken_by (word_at (byte_at c.args.map.now) (c.loop-header.header + 4)) ≡ c.taken.result = sym (c.taken.ensures ∙ ap bytes_taken_by (c.from.ensures ∙ c.word-size.ensures)) in
    rw (← next) (l.there (sym held ∙ c.if-is_among.false))

pub returns : goal.returns
returns c = sought_all c.args.map.now c.args.at c.args.place c.loop-header.header c.args.end c.loop-header-test.false c.loop-header.invariant
