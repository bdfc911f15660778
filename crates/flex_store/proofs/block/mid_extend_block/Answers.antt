use Rattle.std.proofs.Common.{ℕ, ◌≤◌, ◌<◌, arith, subst}
use Rattle.flex_store.proofs.Answering.{mid_done, mid_past, mid_same, some_change}
use Rattle.flex_store.proofs.Finding.{header_word}
use Rattle.flex_store.proofs.block.mid_extend_block.Goals as goal

pub overflow_add-header : goal.overflow_add-header
overflow_add-header c = omega (arith, (header_word c.args.map.now c.args.extent.now c.args.anchor c.in-Some.header c.requires c.in-Some.ensures).low)

pub word-requires-clause-aligned : goal.word-requires-clause-aligned
word-requires-clause-aligned c = (header_word c.args.map.now c.args.extent.now c.args.anchor c.in-Some.header c.requires c.in-Some.ensures).aligned

pub word-requires-clause-mapped : goal.word-requires-clause-mapped
word-requires-clause-mapped c = (header_word c.args.map.now c.args.extent.now c.args.anchor c.in-Some.header c.requires c.in-Some.ensures).there

pub returns-then-at-word-clause-state : goal.returns-then-at-word-clause-state
returns-then-at-word-clause-state c =
    mid_past c.args.map.now c.args.extent.now c.args.anchor c.in-Some.header c.args.at c.args.by
    (subst (λ (n : ℕ). n ≤ c.args.at) c.cut_of-cut.ensures c.if-cut-at.false) (header_word c.args.map.now c.args.extent.now c.args.anchor c.in-Some.header c.requires c.in-Some.ensures)
    (subst (λ (n : ℕ). n < c.args.at) c.word.ensures c.if-at-word.true)

pub returns-then-by-eq0-clause-state : goal.returns-then-by-eq0-clause-state
returns-then-by-eq0-clause-state c =
    mid_same c.args.map.now c.args.extent.now c.args.anchor c.in-Some.header c.args.at c.args.by
    (subst (λ (n : ℕ). n ≤ c.args.at) c.cut_of-cut.ensures c.if-cut-at.false) (header_word c.args.map.now c.args.extent.now c.args.anchor c.in-Some.header c.requires c.in-Some.ensures)
    (subst (λ (n : ℕ). c.args.at ≤ n) c.word.ensures c.if-at-word.false) c.if-by-eq0.true

pub splice_block-requires-clause-some : goal.splice_block-requires-clause-some
splice_block-requires-clause-some c = some_change c.args.by c.cut_of-cut.result c.more_of.result c.cut_of-cut.ensures c.more_of.ensures c.if-by-eq0.false (omega arith)

pub returns-clause-state : goal.returns-clause-state
returns-clause-state c =
    mid_done c.args.map.now c.splice_block.new.map c.args.extent.now c.splice_block.new.extent c.args.anchor c.in-Some.header c.args.at c.args.by
    c.cut_of-cut.result c.more_of.result c.splice_block.result
    (subst (λ (n : ℕ). n ≤ c.args.at) c.cut_of-cut.ensures c.if-cut-at.false) (header_word c.args.map.now c.args.extent.now c.args.anchor c.in-Some.header c.requires c.in-Some.ensures)
    (subst (λ (n : ℕ). c.args.at ≤ n) c.word.ensures c.if-at-word.false) c.if-by-eq0.false c.cut_of-cut.ensures c.more_of.ensures c.splice_block.ensures.state
