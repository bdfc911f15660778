-- By the lemmas of `cut_steps`.
use Rattle.std.proofs.Common.{arith}
use Rattle.profile.proofs.TextLinesLemmas.LineLemmas.{cut_steps}
use Rattle.profile.proofs.text_lines.lines.cut.Goals as goal

pub returns-in-Some-clause-parts : goal.returns-in-Some-clause-parts
returns-in-Some-clause-parts c = grind (arith, cut_steps)

pub returns-in-None-clause-parts : goal.returns-in-None-clause-parts
returns-in-None-clause-parts c = grind (arith, cut_steps)
