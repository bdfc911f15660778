use Rattle.std.proofs.Common.{◌<◌, ◌+◌, ◌%◌, ap, sym, ◌∙◌, arith}
use Rattle.address_map.proofs.Lending.{page_fits, place_ahead}
use Rattle.address_map.specs.Memory.{bytes_of}
use Rattle.arm_step.specs.Blocks.{transferred_count, block_value}
use Rattle.arm_core.proofs.Listing.{few_of_all}
use Rattle.arm_core.proofs.Lowest.{length_next}
use Rattle.arm_step.proofs.PageBlocks.{stored_as, put_next, put_end}
use Rattle.arm_step.proofs.PageWords.{page_within}
use Rattle.arm_step.proofs.page_block.put_each.Goals as goal

pub overflow_add-at : goal.overflow_add-at
overflow_add-at c =
    let m = c.args.memory.now in
    omega (arith, page_fits m c.args.first c.args.at 0 c.requires.place (omega arith), m.in_limit, c.loop-rest.invariant.room, few_of_all c.args.block.now.list)

pub put_word_at-requires-clause-there : goal.put_word_at-requires-clause-there
put_word_at-requires-clause-there c =
    let more = length_next _ _ _ c.split_lowest-register.ensures.registers in
    let below : c.args.first % 4096 + c.loop-rest.offset < 4096 =
    omega (arith, page_within c.args.first (transferred_count c.args.block.now) c.requires.page, c.loop-rest.invariant.room, more) in
    ap (λ l. l.place (c.args.first + c.loop-rest.offset)) c.loop-rest.invariant.layout
    ∙ place_ahead c.args.memory.now c.args.first c.loop-rest.offset c.args.at c.requires.place below

pub loop-rest-preserved : goal.loop-rest-preserved
loop-rest-preserved c =
    let s = c.args.cpu.now in
    let t = c.args.block.now in
    let more = length_next _ _ _ c.split_lowest-register.ensures.registers in
    let value = stored_as s t c.args.bank c.split_lowest-register.result.0 c.args.changed c.stored_value-value.result
    c.requires.changed c.requires.bank c.stored_value-value.ensures in
    record {
      stored = c.loop-rest.invariant.stored
          ∙ put_next c.loop-rest.memory c.put_word_at.new.self (block_value s t) c.args.first c.loop-rest.offset c.loop-rest.rest c.split_lowest-register.result.1
          c.split_lowest-register.result.0 c.stored_value-value.result c.put_word_at.ensures.layout c.put_word_at.ensures.bytes
          c.split_lowest-register.ensures.registers value;
      layout = c.put_word_at.ensures.layout ∙ c.loop-rest.invariant.layout;
      marks = c.put_word_at.ensures.marks ∙ c.loop-rest.invariant.marks;
      room = omega (arith, c.loop-rest.invariant.room, more);
      bits = c.split_lowest-register.ensures.bits;
    }

pub returns-clause-bytes : goal.returns-clause-bytes
returns-clause-bytes c =
    let s = c.args.cpu.now in
    let t = c.args.block.now in
    sym (c.loop-rest.invariant.stored
    ∙ put_end (bytes_of c.loop-rest.memory) (block_value s t) (c.args.first + c.loop-rest.offset) c.loop-rest.rest c.loop-rest-test.false)
