-- By the lemmas of `without_none`.
use Rattle.std.proofs.Common.{arith}
use Rattle.dynamic_areas.proofs.RoomLemmas.{without_none}
use Rattle.dynamic_areas.proofs.table.take_area.Goals as goal

pub returns-in_err-index-clause-rest : goal.returns-in_err-index-clause-rest
returns-in_err-index-clause-rest c = grind (arith, without_none)
