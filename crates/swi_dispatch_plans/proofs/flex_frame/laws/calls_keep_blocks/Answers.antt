use Rattle.swi_dispatch_plans.proofs.FlexFrameLemmas.Kept.{blocks_kept}
use Rattle.swi_dispatch_plans.proofs.flex_frame.laws.calls_keep_blocks.Goals as goal

pub returns : goal.returns
returns c = blocks_kept
