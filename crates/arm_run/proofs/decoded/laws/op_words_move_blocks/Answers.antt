use Rattle.arm_run.proofs.DecodedLemmas.BlockLemmas.{blocks_load, blocks_store}
use Rattle.arm_run.proofs.decoded.laws.op_words_move_blocks.Goals as goal

pub returns-clause-load : goal.returns-clause-load
returns-clause-load c = blocks_load

pub returns-clause-store : goal.returns-clause-store
returns-clause-store c = blocks_store
