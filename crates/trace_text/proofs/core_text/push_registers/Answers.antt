use Rattle.std.proofs.Common.{refl, arith}
use Rattle.trace_text.specs.Core.{register_word}
use Rattle.trace_text.proofs.RegisterLemmas.{none_written}
use Rattle.trace_text.proofs.core_text.push_registers.Goals as goal

pub loop-change-init : goal.loop-change-init
loop-change-init g c = record {
  text = none_written (register_word c.args.after.now.psr.mode) _ c.args.before.now.file c.args.after.now.file;
  same_flag = refl;
  inside = omega arith;
}
