-- By the lemmas of `search_steps`.
use Rattle.std.proofs.Common.{arith}
use Rattle.assembler_text.proofs.Rotations.{search_steps}
use Rattle.assembler_text.proofs.numbers.least_rotation.Goals as goal

pub loop-rotation-init : goal.loop-rotation-init
loop-rotation-init c = grind (arith, search_steps)

pub returns-then-gives-clause-least : goal.returns-then-gives-clause-least
returns-then-gives-clause-least c = grind (arith, search_steps)

pub loop-rotation-preserved : goal.loop-rotation-preserved
loop-rotation-preserved c = grind (arith, search_steps)

pub returns-clause-least : goal.returns-clause-least
returns-clause-least c = grind (arith, search_steps)
