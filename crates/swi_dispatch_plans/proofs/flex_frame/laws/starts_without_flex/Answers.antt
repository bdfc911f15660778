use Rattle.swi_dispatch_plans.proofs.FlexFrameLemmas.Kept.{flex_started}
use Rattle.swi_dispatch_plans.proofs.flex_frame.laws.starts_without_flex.Goals as goal

pub returns : goal.returns
returns c = flex_started
