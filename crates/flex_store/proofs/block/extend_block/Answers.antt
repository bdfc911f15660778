use Rattle.std.proofs.Common.{◌≡◌, ◌-◌, arith, ◌∙◌}
use Rattle.flex_store.proofs.Answering.{extend_done, extend_same}
use Rattle.flex_store.proofs.Finding.{header_word}
use Rattle.flex_store.proofs.block.extend_block.Goals as goal

pub overflow_add-header : goal.overflow_add-header
overflow_add-header c = omega (arith, (header_word c.args.map.now c.args.extent.now c.args.anchor c.in-Some.header c.requires c.in-Some.ensures).low)

pub word-old-requires-clause-aligned : goal.word-old-requires-clause-aligned
word-old-requires-clause-aligned c = (header_word c.args.map.now c.args.extent.now c.args.anchor c.in-Some.header c.requires c.in-Some.ensures).aligned

pub word-old-requires-clause-mapped : goal.word-old-requires-clause-mapped
word-old-requires-clause-mapped c = (header_word c.args.map.now c.args.extent.now c.args.anchor c.in-Some.header c.requires c.in-Some.ensures).there

pub returns-then-size-old-clause-state : goal.returns-then-size-old-clause-state
returns-then-size-old-clause-state c =
    extend_same c.args.map.now c.args.extent.now c.args.anchor c.in-Some.header c.args.size (header_word c.args.map.now c.args.extent.now c.args.anchor c.in-Some.header c.requires c.in-Some.ensures)
    (c.if-size-old.true ∙ c.word-old.ensures)

pub splice_block-requires-clause-some : goal.splice_block-requires-clause-some
splice_block-requires-clause-some c =
    let differs : c.args.size ≡ c.word-old.result → ⊥ = c.if-size-old.false in
    let cut : c.saturating_sub.result ≡ c.word-old.result - c.args.size = c.saturating_sub.ensures in
    let more : c.saturating_sub-2.result ≡ c.args.size - c.word-old.result = c.saturating_sub-2.ensures in
    rw (cut, more) (omega arith)

pub returns-clause-state : goal.returns-clause-state
returns-clause-state c =
    extend_done c.args.map.now c.splice_block.new.map c.args.extent.now c.splice_block.new.extent c.args.anchor c.in-Some.header c.args.size
    c.word-old.result c.saturating_sub.result c.saturating_sub-2.result c.splice_block.result (header_word c.args.map.now c.args.extent.now c.args.anchor c.in-Some.header c.requires c.in-Some.ensures)
    c.word-old.ensures c.if-size-old.false c.saturating_sub.ensures c.saturating_sub-2.ensures c.splice_block.ensures.state
