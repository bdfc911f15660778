use Rattle.std.proofs.Common.{ap, ◌∙◌, arith}
use Rattle.arm_core.specs.State.{with_register_in}
use Rattle.arm_core.specs.declared.psr.Mode.TheVariants.{User}
use Rattle.arm_core.proofs.Lowest.{length_next}
use Rattle.arm_step.proofs.PageBlocks.{loaded_low}
use Rattle.arm_step.proofs.page_block.place_low.Goals as goal

pub loop-rest-preserved : goal.loop-rest-preserved
loop-rest-preserved c =
    let more = length_next _ _ _ c.split_lowest-register.ensures.registers in
    let below = c.split_lowest-register.ensures.below c.loop-rest.invariant.bits in
    let set = c.set_register_in.ensures ∙ ap (λ r. with_register_in User c.loop-rest.cpu r c.word_in.result) c.number.ensures.value in
    record {
      placed = c.loop-rest.invariant.placed
          ∙ loaded_low User c.loop-rest.cpu c.set_register_in.new.self c.loop-rest.rest c.split_lowest-register.result.1
          c.split_lowest-register.result.0 c.word_in.result c.loop-rest.at c.args.bytes.now c.split_lowest-register.ensures.registers
          c.word_in.ensures below set;
      room = omega (arith, c.loop-rest.invariant.room, more);
      bits = c.split_lowest-register.ensures.low c.loop-rest.invariant.bits;
    }
