use Rattle.swi_dispatch_plans.proofs.FlexFrameLemmas.Kept.{flex_unmade}
use Rattle.swi_dispatch_plans.proofs.flex_frame.laws.no_flex_stays.Goals as goal

pub returns : goal.returns
returns c = flex_unmade
