-- By the lemmas of `saving`.
use Rattle.std.proofs.Common.{arith}
use Rattle.std.proofs.lemmas.Grind.{common_steps}
use Rattle.swi_dispatch_answers.proofs.FramesLemmas.Saving.{one_read, saving}
use Rattle.swi_dispatch_answers.proofs.frames.frame.shared_registers.Goals as goal

pub loop-number-preserved : goal.loop-number-preserved
loop-number-preserved c = record {
  read = one_read c.args.cpu.now.file c.loop-number.saved c.loop-number.number c.register_in.result
      (omega arith) (omega arith) c.register_in.ensures c.loop-number.invariant.read;
  long = grind (arith, common_steps);
}

pub returns : goal.returns
returns c = grind (arith, saving)
