use Rattle.debug_lines.proofs.WordLemmas.{five_words}
use Rattle.debug_lines.proofs.few_words.behind_three.Goals as goal

pub returns-in-Some : goal.returns-in-Some
returns-in-Some c =
    five_words c.args.first.now c.args.second.now c.args.third.now c.args.line.now c.cut.result.0.now
    c.in-Some.field-0.now (rw c.in-Some.is at c.cut.ensures.parts)
