-- By the lemmas of `character_steps`.
use Rattle.std.proofs.Common.{arith}
use Rattle.debug_modes.proofs.ExpectationsLemmas.DumpLemmas.{character_steps}
use Rattle.debug_modes.proofs.expectations.dump.show_characters.Goals as goal

pub loop-left-preserved : goal.loop-left-preserved
loop-left-preserved g c = grind (arith, character_steps)

pub returns : goal.returns
returns g c = grind (arith, character_steps)
