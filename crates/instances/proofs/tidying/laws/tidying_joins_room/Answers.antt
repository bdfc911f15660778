use Rattle.instances.proofs.TidyingLemmas.LawLemmas.{tidy_joins_room}
use Rattle.instances.proofs.tidying.laws.tidying_joins_room.Goals as goal

pub returns : goal.returns
returns c = tidy_joins_room
