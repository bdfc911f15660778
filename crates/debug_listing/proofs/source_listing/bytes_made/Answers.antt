-- What is taken and left past the end is nothing.
use Rattle.std.proofs.Common.{arith}
use Rattle.std.proofs.lemmas.Grind.{common_steps}
use Rattle.std.proofs.lemmas.List.{drop_min, take_min}
use Rattle.debug_listing.proofs.source_listing.bytes_made.Goals as goal

pub returns : goal.returns
returns c = grind (arith, common_steps, drop_min, take_min)
