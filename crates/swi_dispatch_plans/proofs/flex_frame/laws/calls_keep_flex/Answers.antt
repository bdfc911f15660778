use Rattle.swi_dispatch_plans.proofs.FlexFrameLemmas.Kept.{flex_frame}
use Rattle.swi_dispatch_plans.proofs.flex_frame.laws.calls_keep_flex.Goals as goal

pub returns : goal.returns
returns c = flex_frame
