-- Taking as many lines as there are takes all of them, by `take_all`.
use Rattle.std.proofs.Common.{arith}
use Rattle.assembler.specs.Passes.{means}
use Rattle.std.proofs.lemmas.List.{take_all}
use Rattle.assembler.proofs.assembling.assemble.Goals as goal

pub returns-clause-below : goal.returns-clause-below
unfolding means
returns-clause-below c = grind (arith, take_all)

pub returns-clause-modulo : goal.returns-clause-modulo
unfolding means
returns-clause-modulo c = grind (arith, take_all)
