-- By the lemmas of `line_steps`.
use Rattle.std.proofs.Common.{arith}
use Rattle.profile.proofs.TextLinesLemmas.LineLemmas.{line_steps}
use Rattle.profile.proofs.text_lines.lines.Lines.next_line.Goals as goal

pub returns-in-Some-clause-line : goal.returns-in-Some-clause-line
returns-in-Some-clause-line c = grind (arith, line_steps)

pub returns-in-None-clause-line : goal.returns-in-None-clause-line
returns-in-None-clause-line c = grind (arith, line_steps)
