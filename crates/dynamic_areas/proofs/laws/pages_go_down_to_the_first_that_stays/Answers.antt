-- By the lemmas of `shrinks_to`.
use Rattle.std.proofs.Common.{arith}
use Rattle.dynamic_areas.proofs.Choices.{shrinks_to}
use Rattle.dynamic_areas.proofs.laws.pages_go_down_to_the_first_that_stays.Goals as goal

pub returns : goal.returns
returns c = grind (arith, shrinks_to)
