use Rattle.swi_dispatch_plans.proofs.FlexFrameLemmas.Kept.{store_apart}
use Rattle.swi_dispatch_plans.proofs.flex_frame.laws.the_store_shares_no_byte_with_heaps.Goals as goal

pub returns : goal.returns
returns c = store_apart
