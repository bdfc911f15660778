-- By the lemmas of `least_number_is`.
use Rattle.std.proofs.Common.{arith}
use Rattle.dynamic_areas.proofs.Choices.{least_number_is}
use Rattle.dynamic_areas.proofs.laws.the_least_number_is_chosen.Goals as goal

pub returns : goal.returns
returns c = grind (arith, least_number_is)
