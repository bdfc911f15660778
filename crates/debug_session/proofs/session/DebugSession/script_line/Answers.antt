use Rattle.std.proofs.Common.{◌∙◌, refl}
use Rattle.command_shell_lines.specs.Blocks.{block_lines}
use Rattle.command_shell_lines.specs.Requests.{request_of_command}
use Rattle.debug_session.specs.Session.{debug_state}
use Rattle.debug_session.proofs.EndLemmas.{ends_failed, ends_handed, ends_unwritten, ends_written}
use Rattle.debug_tables.specs.RunError.TheVariants.{Memory}
use Rattle.debug_session.proofs.OwnLemmas.{line_below}
use Rattle.debug_session.proofs.session.DebugSession.script_line.Goals as goal

pub returns-clause-reported : goal.returns-clause-reported
returns-clause-reported g c =
    let old = c.args.self.now in
    let images = c.args.images.now in
    line_below (g.W.Sink.contents c.args.sink.now) (g.W.Sink.contents c.line_in_modes.new.sink)
    (g.W.Sink.contents c.push_answer.new.sink) old.setting c.note_block.new.self.setting (debug_state old images)
    (debug_state c.note_block.new.self images) (debug_state c.line_in_modes.new.self c.line_in_modes.new.images)
    c.args.script.now.number (request_of_command c.args.command.now) (block_lines c.args.script.now.left)
    c.as_slice.result.now c.in_ok-note_block.ensures.setting (c.in_ok-note_block.ensures.reported images)
    (c.as_slice.ensures.value ∙ c.in_ok-below.ensures)
    c.in_ok-line_in_modes.ensures.reported c.in_ok-push_answer.ensures.text

pub returns-in_err-below-clause-ends : goal.returns-in_err-below-clause-ends
returns-in_err-below-clause-ends g c = ends_unwritten g.W.Sink.has_failed c.args.sink.now c.from_residual.result Memory c.from_residual.ensures.1 refl

pub returns-in_err-note_block-clause-ends : goal.returns-in_err-note_block-clause-ends
returns-in_err-note_block-clause-ends g c = ends_unwritten g.W.Sink.has_failed c.args.sink.now c.from_residual-in_err-note_block.result Memory c.from_residual-in_err-note_block.ensures.1 refl

pub returns-in_err-line_in_modes-clause-ends : goal.returns-in_err-line_in_modes-clause-ends
returns-in_err-line_in_modes-clause-ends g c =
    ends_handed g.W.Sink.has_failed c.args.sink.now c.line_in_modes.new.sink c.from_residual-in_err-line_in_modes.result _
    c.in_err-line_in_modes.ensures.ends c.from_residual-in_err-line_in_modes.ensures.1

pub returns-in_err-push_answer-clause-ends : goal.returns-in_err-push_answer-clause-ends
returns-in_err-push_answer-clause-ends g c = ends_failed g.W.Sink.has_failed c.args.sink.now c.push_answer.new.sink
    c.from_residual-in_err-push_answer.result c.from_residual-in_err-push_answer.ensures.1 c.in_err-push_answer.ensures.flag

pub returns-clause-ends : goal.returns-clause-ends
returns-clause-ends g c = ends_written g.W.Sink.has_failed c.args.sink.now c.push_answer.new.sink _
    (c.in_ok-push_answer.ensures.same_flag ∙ c.in_ok-line_in_modes.ensures.ends.same_flag)

pub returns-in_err-below-clause-setting : goal.returns-in_err-below-clause-setting
returns-in_err-below-clause-setting g c = refl

pub returns-in_err-note_block-clause-setting : goal.returns-in_err-note_block-clause-setting
returns-in_err-note_block-clause-setting g c = c.in_err-note_block.ensures.setting

pub returns-in_err-line_in_modes-clause-setting : goal.returns-in_err-line_in_modes-clause-setting
returns-in_err-line_in_modes-clause-setting g c = c.in_err-line_in_modes.ensures.setting ∙ c.in_ok-note_block.ensures.setting

pub returns-in_err-push_answer-clause-setting : goal.returns-in_err-push_answer-clause-setting
returns-in_err-push_answer-clause-setting g c = c.in_ok-line_in_modes.ensures.setting ∙ c.in_ok-note_block.ensures.setting

pub returns-clause-setting : goal.returns-clause-setting
returns-clause-setting g c = c.in_ok-line_in_modes.ensures.setting ∙ c.in_ok-note_block.ensures.setting
