-- By the lemmas of `entry_steps`.
use Rattle.std.proofs.Common.{arith}
use Rattle.debug_labels.proofs.PlaceViewsLemmas.StackLemmas.{entry_steps}
use Rattle.debug_labels.proofs.place_views.stack.show_from.Goals as goal

pub loop-left-preserved : goal.loop-left-preserved
loop-left-preserved g c = grind (arith, entry_steps)

pub returns : goal.returns
returns g c = grind (arith, entry_steps)

pub returns-in_default : goal.returns-in_default
returns-in_default g c = grind (arith, entry_steps)
