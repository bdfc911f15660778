use Rattle.std.proofs.Common.{ℕ, ◌≡◌, ◌+◌, true, arith, ◌∙◌, ap, Bool, sym}
use Rattle.os_heap.proofs.Bytes.{is_mapped-layout}
use Rattle.os_heap.specs.Bytes.{word_at, with_word_at}
use Rattle.os_heap.specs.Memory.{byte_at, class_of, is_mapped}
use Rattle.os_heap.specs.Class.{Class}
use Rattle.os_heap.specs.Class.TheVariants as class
use Rattle.flex_store.specs.Blocks.{bytes_taken_by}
use Rattle.flex_store.specs.Marks.{with_block_marks}
use Rattle.flex_store.specs.Shifts.{gone_to}
use Rattle.flex_store.proofs.Settling.{gone_ahead, settling_all, settling_more}
use Rattle.flex_store.proofs.Walks.{ahead}
use Rattle.flex_store.proofs.walk.settle.Goals as goal

pub overflow_add-header : goal.overflow_add-header
overflow_add-header c =
    let a = ahead c.loop-header.map c.loop-header.header c.args.end c.loop-header.invariant.rest c.loop-header.invariant.text c.loop-header-test.true in
    omega (arith, a.fits, a.low)

pub word-size-requires-clause-mapped : goal.word-size-requires-clause-mapped
word-size-requires-clause-mapped c =
    (ahead c.loop-header.map c.loop-header.header c.args.end c.loop-header.invariant.rest c.loop-header.invariant.text c.loop-header-test.true).second

pub mark_block-requires-clause-second : goal.mark_block-requires-clause-second
mark_block-requires-clause-second c =
    (ahead c.loop-header.map c.loop-header.header c.args.end c.loop-header.invariant.rest c.loop-header.invariant.text c.loop-header-test.true).second

pub mark_block-requires-clause-low : goal.mark_block-requires-clause-low
mark_block-requires-clause-low c =
    let a = ahead c.loop-header.map c.loop-header.header c.args.end c.loop-header.invariant.rest c.loop-header.invariant.text c.loop-header-test.true in
    omega (arith, a.fits, a.low)

pub mark_block-requires-clause-anchor : goal.mark_block-requires-clause-anchor
mark_block-requires-clause-anchor c = rw (c.gone_to-anchor.ensures ∙ ap (gone_to c.args.shifts.now) c.word.ensures) (gone_ahead c.args.shifts.now c.loop-header.map c.loop-header.header c.args.end c.loop-header.invariant.rest c.loop-header.invariant.text c.loop-header.invariant.words c.loop-header-test.true).aligned

pub mark_block-requires-clause-there : goal.mark_block-requires-clause-there
mark_block-requires-clause-there c = rw (c.gone_to-anchor.ensures ∙ ap (gone_to c.args.shifts.now) c.word.ensures) (gone_ahead c.args.shifts.now c.loop-header.map c.loop-header.header c.args.end c.loop-header.invariant.rest c.loop-header.invariant.text c.loop-header.invariant.words c.loop-header-test.true).there

pub overflow_cast-header : goal.overflow_cast-header
overflow_cast-header c =
    let a = ahead c.loop-header.map c.loop-header.header c.args.end c.loop-header.invariant.rest c.loop-header.invariant.text c.loop-header-test.true in
    let size : c.word-size.result ≡ word_at (byte_at c.loop-header.map) (c.loop-header.header + 4) = c.word-size.ensures in
    omega (arith, a.fits, a.low)

pub overflow_add-header-in-loop-header : goal.overflow_add-header-in-loop-header
overflow_add-header-in-loop-header c =
    let a = ahead c.loop-header.map c.loop-header.header c.args.end c.loop-header.invariant.rest c.loop-header.invariant.text c.loop-header-test.true in
    let size : c.word-size.result ≡ word_at (byte_at c.loop-header.map) (c.loop-header.header + 4) = c.word-size.ensures in
    omega (arith, a.fits, a.low)

pub overflow_add-header-in-loop-header-2 : goal.overflow_add-header-in-loop-header-2
overflow_add-header-in-loop-header-2 c =
    let a = ahead c.loop-header.map c.loop-header.header c.args.end c.loop-header.invariant.rest c.loop-header.invariant.text c.loop-header-test.true in
    let size : c.word-size.result ≡ word_at (byte_at c.loop-header.map) (c.loop-header.header + 4) = c.word-size.ensures in
    omega (arith, a.fits, a.low)

pub put_word-requires-clause-mapped : goal.put_word-requires-clause-mapped
put_word-requires-clause-mapped c =
    let a = ahead c.loop-header.map c.loop-header.header c.args.end c.loop-header.invariant.rest c.loop-header.invariant.text c.loop-header-test.true in
    ap (λ (p : ℕ → Bool). p c.loop-header.header) (is_mapped-layout c.loop-header.map c.mark_block.new.map c.mark_block.ensures.kept.layout) ∙ a.here

pub put_word-requires-in-loop-header-clause-aligned : goal.put_word-requires-in-loop-header-clause-aligned
put_word-requires-in-loop-header-clause-aligned c = rw (c.gone_to-anchor.ensures ∙ ap (gone_to c.args.shifts.now) c.word.ensures) (gone_ahead c.args.shifts.now c.loop-header.map c.loop-header.header c.args.end c.loop-header.invariant.rest c.loop-header.invariant.text c.loop-header.invariant.words c.loop-header-test.true).aligned

pub put_word-requires-in-loop-header-clause-mapped : goal.put_word-requires-in-loop-header-clause-mapped
put_word-requires-in-loop-header-clause-mapped c =
    let there : is_mapped c.loop-header.map c.gone_to-anchor.result ≡ true = rw (c.gone_to-anchor.ensures ∙ ap (gone_to c.args.shifts.now) c.word.ensures) (gone_ahead c.args.shifts.now c.loop-header.map c.loop-header.header c.args.end c.loop-header.invariant.rest c.loop-header.invariant.text c.loop-header.invariant.words c.loop-header-test.true).there in
    ap (λ (p : ℕ → Bool). p c.gone_to-anchor.result)
    (is_mapped-layout c.loop-header.map c.put_word.new.self (c.put_word.ensures.layout ∙ c.mark_block.ensures.kept.layout)) ∙ there

pub loop-header-preserved : goal.loop-header-preserved
loop-header-preserved c =
    let m = c.loop-header.map in
    let to : ℕ = c.loop-header.header in
    let gone : c.gone_to-anchor.result ≡ gone_to c.args.shifts.now (word_at (byte_at m) to) = (c.gone_to-anchor.ensures ∙ ap (gone_to c.args.shifts.now) c.word.ensures) in
    let next : bytes_taken_by (word_at (byte_at m) (to + 4)) ≡ c.taken.result = sym (c.taken.ensures ∙ ap bytes_taken_by (c.from.ensures ∙ c.word-size.ensures)) in
    rw (← next) (settling_more c.args.shifts.now c.args.map.now c.args.at m c.put_word-in-loop-header.new.self to c.args.end c.loop-header-test.true c.loop-header.invariant
    (c.put_word-in-loop-header.ensures.layout ∙ (c.put_word.ensures.layout ∙ c.mark_block.ensures.kept.layout))
    (λ a. c.put_word-in-loop-header.ensures.bytes a
    ∙ (ap (λ (f : ℕ → ℕ). with_word_at f c.gone_to-anchor.result (to + 8) a) (λ i x. c.put_word.ensures.bytes x i)
    ∙ (ap (λ (f : ℕ → ℕ). with_word_at (with_word_at f to c.gone_to-anchor.result) c.gone_to-anchor.result (to + 8) a) c.mark_block.ensures.kept.bytes
    ∙ ap (λ (w : ℕ). with_word_at (with_word_at (byte_at m) to w) w (to + 8) a) gone)))
    (λ a. ap (λ (f : ℕ → Class). f a) (c.put_word-in-loop-header.ensures.marks ∙ c.put_word.ensures.marks) ∙ (c.mark_block.ensures.marks a
    ∙ ap (λ (w : ℕ). with_block_marks class.FlexHeader class.Anchor to w (class_of m) a) gone)))

pub returns-clause-bytes : goal.returns-clause-bytes
returns-clause-bytes c =
    (settling_all c.args.shifts.now c.args.map.now c.args.at c.loop-header.map c.loop-header.header c.args.end c.loop-header-test.false c.loop-header.invariant).bytes

pub returns-clause-marks : goal.returns-clause-marks
returns-clause-marks c =
    (settling_all c.args.shifts.now c.args.map.now c.args.at c.loop-header.map c.loop-header.header c.args.end c.loop-header-test.false c.loop-header.invariant).marks
