-- By the lemmas of `put_is_written`.
use Rattle.std.proofs.Common.{arith}
use Rattle.raw_store.proofs.Pieces.{put_is_written}
use Rattle.raw_store.proofs.lanes.zero_lane.Goals as goal

pub returns : goal.returns
returns c = grind (arith, put_is_written)
