use Rattle.std.proofs.Common.{ℕ, ap, sym, ◌∙◌, arith}
use Rattle.arm_core.specs.State.{State, with_register_in}
use Rattle.arm_core.specs.declared.psr.Psr.{Psr}
use Rattle.arm_core.proofs.Lowest.{length_next}
use Rattle.arm_step.proofs.PageBlocks.{loaded_low, loaded_end}
use Rattle.arm_run.specs.Standing.{core_at}
use Rattle.arm_run.proofs.blocks.place_words.Goals as goal

pub loop-rest-preserved : goal.loop-rest-preserved
loop-rest-preserved c =
    let so_far = c.loop-rest.invariant in
    let more = length_next _ _ _ c.split_lowest-register.ensures.registers in
    let below = c.split_lowest-register.ensures.below so_far.bits in
    let set = c.set_current.ensures ∙ ap (λ (p : Psr). with_register_in p.mode c.loop-rest.cpu c.number.result c.word_in.result) so_far.status
    ∙ ap (λ (r : ℕ). with_register_in c.args.cpu.now.psr.mode c.loop-rest.cpu r c.word_in.result) c.number.ensures.value in
    record {
      placed = λ p. so_far.placed p
          ∙ loaded_low c.args.cpu.now.psr.mode (core_at c.loop-rest.cpu p) (core_at c.set_current.new.self p) c.loop-rest.rest c.split_lowest-register.result.1
          c.split_lowest-register.result.0 c.word_in.result c.loop-rest.at c.args.bytes.now c.split_lowest-register.ensures.registers
          c.word_in.ensures below (ap (λ (s : State). core_at s p) set);
      status = ap (λ (s : State). s.psr) c.set_current.ensures ∙ so_far.status;
      room = omega (arith, so_far.room, more);
      bits = c.split_lowest-register.ensures.low so_far.bits;
    }

pub returns : goal.returns
returns c p =
    sym (c.loop-rest.invariant.placed p
    ∙ loaded_end c.args.cpu.now.psr.mode (core_at c.loop-rest.cpu p) c.loop-rest.rest _ c.loop-rest-test.false)
