-- By whether the line's block is refused.
use Rattle.command_shell_lines.specs.Blocks.{block_lines}
use Rattle.command_shell_lines.specs.Requests.{request_of_command}
use Rattle.debug_session.specs.declared.session.DebugSession.{DebugSession}
use Rattle.debug_session.proofs.NotingLemmas.{KeepsAnswer, line_noted, refused_noted}
use Rattle.debug_session.proofs.session.DebugSession.note_line.Goals as goal

pub returns-then-is_refused-clause-noted : goal.returns-then-is_refused-clause-noted
returns-then-is_refused-clause-noted c =
    let kept = c.in_ok-note.ensures in
    let answer : KeepsAnswer c.args.self.now c.note.new.self c.takes_steps.result c.args.answer.now = record {
      rest = kept.rest;
      answer = kept.answer;
      output = kept.output;
      steps = kept.steps;
    } in
    refused_noted c.args.self.now c.note.new.self c.args.images.now c.args.block.now.number c.args.is_refused c.takes_steps.result
    (request_of_command c.args.command.now) c.args.answer.now (block_lines c.args.block.now.left) c.takes_steps.ensures
    c.if-is_refused.true answer

pub returns-clause-noted : goal.returns-clause-noted
returns-clause-noted c =
    let kept = c.in_ok-note.ensures in
    let noted : DebugSession = c.note.new.self in
    let answer : KeepsAnswer c.args.self.now noted c.takes_steps.result c.args.answer.now = record {
      rest = kept.rest;
      answer = kept.answer;
      output = kept.output;
      steps = kept.steps;
    } in
    line_noted c.keep_source.result c.args.self.now noted c.args.images.now c.take_labels.new.labels c.keep_source.new.sources
    c.note-2.new.self c.number-number.result c.args.block.now.number c.steps_taken-taken.result c.args.is_refused c.takes_steps.result
    c.is_faulted-has_faulted.result (request_of_command c.args.command.now) c.args.answer.now (block_lines c.args.block.now.left)
    c.takes_steps.ensures c.if-is_refused.false answer c.number-number.ensures c.steps_taken-taken.ensures
    (c.is_faulted-has_faulted.ensures c.args.images.now) c.in_ok-note-2.ensures c.in_ok-take_labels.ensures c.keep_source.ensures

pub returns-in_err-note-2-clause-setting : goal.returns-in_err-note-2-clause-setting
returns-in_err-note-2-clause-setting c = c.in_ok-note.ensures.setting

pub returns-in_err-take_labels-clause-setting : goal.returns-in_err-take_labels-clause-setting
returns-in_err-take_labels-clause-setting c = c.in_ok-note.ensures.setting

pub returns-clause-setting : goal.returns-clause-setting
returns-clause-setting c = c.in_ok-note.ensures.setting
