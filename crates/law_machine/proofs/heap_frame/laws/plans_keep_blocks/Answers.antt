use Rattle.law_machine.proofs.HeapFrameLemmas.BlockPlans.{plans_keep_blocks}
use Rattle.law_machine.proofs.heap_frame.laws.plans_keep_blocks.Goals as goal

pub returns : goal.returns
returns c = plans_keep_blocks
