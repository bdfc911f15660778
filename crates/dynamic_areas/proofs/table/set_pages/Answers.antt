-- By the lemmas of `pages_none`.
use Rattle.std.proofs.Common.{arith}
use Rattle.dynamic_areas.proofs.RoomLemmas.{pages_none}
use Rattle.dynamic_areas.proofs.table.set_pages.Goals as goal

pub returns-in_default : goal.returns-in_default
returns-in_default c = grind (arith, pages_none)
