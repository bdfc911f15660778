use Rattle.std.proofs.Common.{sym}
use Rattle.command_shell_lines.proofs.LineLemmas.{four_words}
use Rattle.command_shell_lines.proofs.requests.command_of_more.Goals as goal

pub returns-in-Some : goal.returns-in-Some
returns-in-Some c =
    sym (four_words c.args.word.now c.args.first.now c.cut.result.0.now c.args.rest.now c.in-Some.field-0.now
    (rw c.in-Some.is at c.cut.ensures.parts))
