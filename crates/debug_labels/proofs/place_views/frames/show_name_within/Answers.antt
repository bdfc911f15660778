-- By the lemmas of `name_steps`.
use Rattle.std.proofs.Common.{arith}
use Rattle.debug_labels.proofs.PlaceViewsLemmas.FrameLemmas.{name_steps}
use Rattle.debug_labels.proofs.place_views.frames.show_name_within.Goals as goal

pub loop-instance-preserved : goal.loop-instance-preserved
loop-instance-preserved g c = grind (arith, name_steps)
