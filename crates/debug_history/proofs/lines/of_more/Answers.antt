use Rattle.std.proofs.Common.{sym}
use Rattle.debug_history.proofs.LinesLemmas.{five_words}
use Rattle.debug_history.proofs.lines.of_more.Goals as goal

pub returns-in-Some : goal.returns-in-Some
returns-in-Some c =
    sym (five_words c.args.mode c.args.word.now c.args.second.now c.args.third.now c.cut.result.0.now c.args.line.now
    c.in-Some.field-0.now (rw c.in-Some.is at c.cut.ensures.parts))
