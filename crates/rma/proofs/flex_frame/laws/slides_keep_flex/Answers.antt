use Rattle.rma.proofs.FlexFrameLemmas.Slides.{slides_keep}
use Rattle.rma.proofs.flex_frame.laws.slides_keep_flex.Goals as goal

pub returns : goal.returns
returns c = slides_keep
