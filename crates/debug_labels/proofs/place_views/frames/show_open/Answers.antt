-- By the lemmas of `frame_steps`.
use Rattle.std.proofs.Common.{arith}
use Rattle.debug_labels.proofs.PlaceViewsLemmas.FrameLemmas.{frame_steps}
use Rattle.debug_labels.proofs.place_views.frames.show_open.Goals as goal

pub loop-number-preserved : goal.loop-number-preserved
loop-number-preserved g c = grind (arith, frame_steps)

pub returns : goal.returns
returns g c = grind (arith, frame_steps)
