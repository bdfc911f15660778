use Rattle.std.proofs.Common.{◌<◌, ◌+◌, ◌%◌, ℕ, ap, sym, ◌∙◌, arith, length}
use Rattle.arm_step.proofs.Lending.{page_fits, place_ahead}
use Rattle.arm_step.specs.Memory.{bytes_of}
use Rattle.arm_core.specs.Listed.{registers_of_list}
use Rattle.arm_core.specs.State.{register_in}
use Rattle.arm_core.proofs.Listing.{few_of_all}
use Rattle.arm_core.proofs.Lowest.{length_next}
use Rattle.arm_step.proofs.PageBlocks.{put_next, put_end}
use Rattle.arm_step.proofs.PageWords.{page_within}
use Rattle.arm_run.proofs.blocks.put_words.Goals as goal

pub overflow_add-at : goal.overflow_add-at
overflow_add-at c =
    let m = c.args.memory.now in
    omega (arith, page_fits m c.args.first c.args.at 0 c.requires.place (omega arith), m.in_limit, c.loop-rest.invariant.room, few_of_all c.args.list)

pub put_word_at-requires-clause-there : goal.put_word_at-requires-clause-there
put_word_at-requires-clause-there c =
    let more = length_next _ _ _ c.split_lowest-register.ensures.registers in
    let below : c.args.first % 4096 + c.loop-rest.offset < 4096 =
    omega (arith, page_within c.args.first (length (registers_of_list c.args.list)) c.requires.page, c.loop-rest.invariant.room, more) in
    ap (λ l. l.place (c.args.first + c.loop-rest.offset)) c.loop-rest.invariant.layout
    ∙ place_ahead c.args.memory.now c.args.first c.loop-rest.offset c.args.at c.requires.place below

pub loop-rest-preserved : goal.loop-rest-preserved
loop-rest-preserved c =
    let s = c.args.cpu.now in
    let so_far = c.loop-rest.invariant in
    let more = length_next _ _ _ c.split_lowest-register.ensures.registers in
    let value = c.current-value.ensures ∙ ap (λ (n : ℕ). register_in s.psr.mode s n) c.number.ensures.value in
    record {
      stored = so_far.stored
          ∙ put_next c.loop-rest.memory c.put_word_at.new.self (register_in s.psr.mode s) c.args.first c.loop-rest.offset c.loop-rest.rest c.split_lowest-register.result.1
          c.split_lowest-register.result.0 c.current-value.result c.put_word_at.ensures.layout c.put_word_at.ensures.bytes
          c.split_lowest-register.ensures.registers value;
      layout = c.put_word_at.ensures.layout ∙ so_far.layout;
      marks = c.put_word_at.ensures.marks ∙ so_far.marks;
      room = omega (arith, so_far.room, more);
      bits = c.split_lowest-register.ensures.low so_far.bits;
    }

pub returns-clause-bytes : goal.returns-clause-bytes
returns-clause-bytes c =
    let s = c.args.cpu.now in
    sym (c.loop-rest.invariant.stored
    ∙ put_end (bytes_of c.loop-rest.memory) (register_in s.psr.mode s) (c.args.first + c.loop-rest.offset) c.loop-rest.rest c.loop-rest-test.false)
