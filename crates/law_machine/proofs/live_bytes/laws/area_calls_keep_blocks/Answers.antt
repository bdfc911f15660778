use Rattle.law_machine.proofs.LiveBytesLemmas.AreaBlocks.{area_calls_keep_both}
use Rattle.law_machine.proofs.live_bytes.laws.area_calls_keep_blocks.Goals as goal

pub returns : goal.returns
returns c = area_calls_keep_both
