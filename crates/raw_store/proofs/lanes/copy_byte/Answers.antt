-- By the lemmas of `copied_byte`.
use Rattle.std.proofs.Common.{arith}
use Rattle.raw_store.proofs.Pieces.{copied_byte}
use Rattle.raw_store.proofs.lanes.copy_byte.Goals as goal

pub returns : goal.returns
returns c = grind (arith, copied_byte)
