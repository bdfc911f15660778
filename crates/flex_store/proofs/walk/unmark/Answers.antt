use Rattle.std.proofs.Common.{ℕ, ◌≡◌, ◌+◌, arith, ◌∙◌, ap, sym}
use Rattle.os_heap.specs.Bytes.{word_at}
use Rattle.os_heap.specs.Memory.{byte_at, class_of}
use Rattle.os_heap.specs.Class.TheVariants as class
use Rattle.flex_store.specs.Blocks.{bytes_taken_by}
use Rattle.flex_store.specs.Marks.{with_block_marks}
use Rattle.flex_store.proofs.Walks.{ahead, anchor_ahead, marking_all, marking_more}
use Rattle.flex_store.proofs.walk.unmark.Goals as goal

pub overflow_add-header : goal.overflow_add-header
overflow_add-header c =
    let a = ahead c.loop-header.map c.loop-header.header c.args.end c.loop-header.invariant.rest c.loop-header.invariant.text c.loop-header-test.true in
    omega (arith, a.fits, a.low)

pub word-size-requires-clause-mapped : goal.word-size-requires-clause-mapped
word-size-requires-clause-mapped c =
    (ahead c.loop-header.map c.loop-header.header c.args.end c.loop-header.invariant.rest c.loop-header.invariant.text c.loop-header-test.true).second

pub clear_block-requires-clause-second : goal.clear_block-requires-clause-second
clear_block-requires-clause-second c =
    (ahead c.loop-header.map c.loop-header.header c.args.end c.loop-header.invariant.rest c.loop-header.invariant.text c.loop-header-test.true).second

pub clear_block-requires-clause-low : goal.clear_block-requires-clause-low
clear_block-requires-clause-low c =
    let a = ahead c.loop-header.map c.loop-header.header c.args.end c.loop-header.invariant.rest c.loop-header.invariant.text c.loop-header-test.true in
    omega (arith, a.fits, a.low)

pub clear_block-requires-clause-anchor : goal.clear_block-requires-clause-anchor
clear_block-requires-clause-anchor c =
    rw c.word-anchor.ensures (anchor_ahead c.loop-header.map c.loop-header.header c.args.end c.loop-header.invariant.rest c.loop-header.invariant.text c.loop-header.invariant.words c.loop-header-test.true).aligned

pub clear_block-requires-clause-there : goal.clear_block-requires-clause-there
clear_block-requires-clause-there c =
    rw c.word-anchor.ensures (anchor_ahead c.loop-header.map c.loop-header.header c.args.end c.loop-header.invariant.rest c.loop-header.invariant.text c.loop-header.invariant.words c.loop-header-test.true).there

pub overflow_cast-header : goal.overflow_cast-header
overflow_cast-header c =
    let a = ahead c.loop-header.map c.loop-header.header c.args.end c.loop-header.invariant.rest c.loop-header.invariant.text c.loop-header-test.true in
    let size : c.word-size.result ≡ word_at (byte_at c.loop-header.map) (c.loop-header.header + 4) = c.word-size.ensures in
    omega (arith, a.fits, a.low)

pub overflow_add-header-in-loop-header : goal.overflow_add-header-in-loop-header
overflow_add-header-in-loop-header c =
    let a = ahead c.loop-header.map c.loop-header.header c.args.end c.loop-header.invariant.rest c.loop-header.invariant.text c.loop-header-test.true in
    let size : c.word-size.result ≡ word_at (byte_at c.loop-header.map) (c.loop-header.header + 4) = c.word-size.ensures in
    omega (arith, a.fits, a.low)

pub loop-header-preserved : goal.loop-header-preserved
loop-header-preserved c =
    let m = c.loop-header.map in
    let n = c.clear_block.new.map in
    let next : bytes_taken_by (word_at (byte_at m) (c.loop-header.header + 4)) ≡ c.taken.result = sym (c.taken.ensures ∙ ap bytes_taken_by (c.from.ensures ∙ c.word-size.ensures)) in
    rw (← next) (marking_more class.Plain c.args.map.now c.args.at m n c.loop-header.header c.args.end c.loop-header-test.true c.loop-header.invariant
    c.clear_block.ensures.kept.layout c.clear_block.ensures.kept.bytes
    (λ a. c.clear_block.ensures.marks a ∙ ap (λ (w : ℕ). with_block_marks class.Plain class.Plain c.loop-header.header w (class_of m) a) c.word-anchor.ensures))

pub returns-clause-marks : goal.returns-clause-marks
returns-clause-marks c =
    marking_all class.Plain c.args.map.now c.args.at c.loop-header.map c.loop-header.header c.args.end c.loop-header-test.false c.loop-header.invariant
