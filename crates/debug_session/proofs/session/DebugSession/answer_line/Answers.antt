-- A line of a script by what was read of it.
use Rattle.std.proofs.Common.{◌≡◌, ◌+◌, Bool, subst, sym, ◌∙◌}
use Rattle.std.specs.Prelude.{OnOk}
use Rattle.command_shell_lines.specs.Blocks.{block_lines, lines_after, lines_taken}
use Rattle.debug_session.specs.Session.{debug_state}
use Rattle.debug_session.proofs.LineLemmas.{line_as_script, opens_as_script}
use Rattle.debug_session.proofs.FailLemmas.{front_start, unwritten}
use Rattle.debug_session.proofs.session.DebugSession.answer_line.Goals as goal

pub returns-then-is_script_command-clause-reported : goal.returns-then-is_script_command-clause-reported
returns-then-is_script_command-clause-reported g c =
    let read = c.command_of-command.ensures in
    line_as_script c.script_line.result (g.W.Sink.contents c.args.sink.now) (g.W.Sink.contents c.script_line.new.sink)
    (debug_state c.script_line.new.self c.script_line.new.images) (debug_state c.args.self.now c.args.images.now)
    c.args.self.now.setting c.args.script.now.number c.args.line.now (block_lines c.args.script.now.left) _ read
    (sym c.is_script_command.ensures ∙ c.if-is_script_command.true) c.script_line.ensures.reported

pub returns-then-is_script_command-clause-left : goal.returns-then-is_script_command-clause-left
returns-then-is_script_command-clause-left g c =
    subst (λ (b : Bool). OnOk c.script_line.result
    (c.script_line.new.script.left ≡ lines_after b c.args.script.now.left))
    (opens_as_script c.args.line.now _ c.command_of-command.ensures
    (sym c.is_script_command.ensures ∙ c.if-is_script_command.true)) c.script_line.ensures.left

pub returns-then-is_script_command-clause-number : goal.returns-then-is_script_command-clause-number
returns-then-is_script_command-clause-number g c =
    subst (λ (b : Bool). OnOk c.script_line.result (c.script_line.new.script.number
    ≡ c.args.script.now.number + lines_taken b c.args.script.now.left))
    (opens_as_script c.args.line.now _ c.command_of-command.ensures
    (sym c.is_script_command.ensures ∙ c.if-is_script_command.true)) c.script_line.ensures.number

pub returns-then-is_script_command-clause-memory : goal.returns-then-is_script_command-clause-memory
returns-then-is_script_command-clause-memory g c = λ is.
    unwritten g.W.Sink.contents c.args.sink.now c.script_line.new.sink _ (c.script_line.ensures.ends.memory is)

pub returns-in_err-words-clause-memory : goal.returns-in_err-words-clause-memory
returns-in_err-words-clause-memory g c = λ is. front_start _ _
