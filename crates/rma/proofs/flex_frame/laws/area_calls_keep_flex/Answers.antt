use Rattle.rma.proofs.FlexFrameLemmas.Areas.{area_calls_keep}
use Rattle.rma.proofs.flex_frame.laws.area_calls_keep_flex.Goals as goal

pub returns : goal.returns
returns c = area_calls_keep
