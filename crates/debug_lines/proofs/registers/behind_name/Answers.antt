use Rattle.std.proofs.Common.{sym}
use Rattle.debug_lines.proofs.WordLemmas.{three_parts}
use Rattle.debug_lines.proofs.registers.behind_name.Goals as goal

pub returns-in-Some : goal.returns-in-Some
returns-in-Some c =
    sym (three_parts c.args.name.now c.args.text.now c.cut.result.0.now c.in-Some.field-0.now
    (rw c.in-Some.is at c.cut.ensures.parts))
