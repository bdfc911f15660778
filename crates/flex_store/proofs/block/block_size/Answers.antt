use Rattle.std.proofs.Common.{arith}
use Rattle.flex_store.proofs.Answering.{size_done}
use Rattle.flex_store.proofs.Finding.{header_word}
use Rattle.flex_store.proofs.block.block_size.Goals as goal

pub overflow_add-header : goal.overflow_add-header
overflow_add-header c = omega (arith, (header_word c.args.map.now c.args.extent.now c.args.anchor c.in-Some.header c.requires c.in-Some.ensures).low)

pub word-requires-clause-aligned : goal.word-requires-clause-aligned
word-requires-clause-aligned c = (header_word c.args.map.now c.args.extent.now c.args.anchor c.in-Some.header c.requires c.in-Some.ensures).aligned

pub word-requires-clause-mapped : goal.word-requires-clause-mapped
word-requires-clause-mapped c = (header_word c.args.map.now c.args.extent.now c.args.anchor c.in-Some.header c.requires c.in-Some.ensures).there

pub returns : goal.returns
returns c = size_done c.args.map.now c.args.extent.now c.args.anchor c.in-Some.header c.word.result (header_word c.args.map.now c.args.extent.now c.args.anchor c.in-Some.header c.requires c.in-Some.ensures) c.word.ensures
