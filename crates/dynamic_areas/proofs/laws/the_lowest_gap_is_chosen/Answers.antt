-- By the lemmas of `lowest_gap_is`.
use Rattle.std.proofs.Common.{arith}
use Rattle.dynamic_areas.proofs.Choices.{lowest_gap_is}
use Rattle.dynamic_areas.proofs.laws.the_lowest_gap_is_chosen.Goals as goal

pub returns : goal.returns
returns c = grind (arith, lowest_gap_is)
