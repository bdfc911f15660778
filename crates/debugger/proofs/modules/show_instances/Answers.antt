-- By the lemmas of `instance_steps`.
use Rattle.std.proofs.Common.{arith}
use Rattle.debugger.proofs.ModuleLemmas.{instance_steps}
use Rattle.debugger.proofs.modules.show_instances.Goals as goal

pub loop-instance-preserved : goal.loop-instance-preserved
loop-instance-preserved g c = grind (arith, instance_steps)
