-- By the lemmas of `module_steps`.
use Rattle.std.proofs.Common.{arith}
use Rattle.debugger.proofs.ModuleLemmas.{module_steps}
use Rattle.debug_labels.proofs.place_views.frames.show_name.Goals as goal

pub loop-number-preserved : goal.loop-number-preserved
loop-number-preserved g c = grind (arith, module_steps)
