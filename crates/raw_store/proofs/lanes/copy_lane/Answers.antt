use Rattle.raw_store.proofs.Pieces.{copied_lane}
use Rattle.raw_store.proofs.lanes.copy_lane.Goals as goal

pub returns : goal.returns
returns c = copied_lane _ _ _ 32 c.requires.source c.requires.target
