use Rattle.std.proofs.Common.{◌∙◌, List, ℕ, None, ap, sym}
use Rattle.command_shell_lines.specs.Blocks.{block_lines}
use Rattle.command_shell_lines.specs.Requests.{request_of_command}
use Rattle.command_shell.specs.Script.{lines_answer, request_answer}
use Rattle.command_shell.specs.Session.{script_state}
use Rattle.command_shell.specs.State.{ScriptState}
use Rattle.profile.proofs.OutputLemmas.{AddsAllBut-more}
use Rattle.command_shell.proofs.ImageLemmas.{at_err, front_more, line_keeps, stops_at}
use Rattle.command_shell.proofs.ScriptLemmas.{fewer_left, number_step, state_step, text_step}
use Rattle.command_shell.proofs.session.Session.answer_lines.Goals as goal

pub returns-in_err-answer-clause-added : goal.returns-in_err-answer-clause-added
returns-in_err-answer-clause-added g c =
    let before = script_state c.loop-line.self c.loop-line.images in
    let start = script_state c.args.self.now c.args.images.now in
    at_err _ _
    (stops_at c.args.images.now c.answer.new.images c.loop-line.script.number c.next_line.new.self.number before
    c.in-Some.line.now c.loop-line.script.left c.next_line.new.self.left (request_of_command c.command_of.result)
    (lines_answer c.args.script.now.number start None c.args.script.now.left)
    c.in-Some.ensures.line c.in-Some.ensures.number c.command_of.ensures c.loop-line.invariant.state
    c.loop-line.invariant.images c.in_err-answer.ensures.images)

pub loop-line-preserved : goal.loop-line-preserved
loop-line-preserved g c =
    let before = script_state c.loop-line.self c.loop-line.images in
    let after = script_state c.answer.new.self c.answer.new.images in
    let number = c.loop-line.script.number in
    let here = c.next_line.new.self.number in
    let next = c.answer.new.script.number in
    let line = c.in-Some.line.now in
    let all = c.loop-line.script.left in
    let rest = c.next_line.new.self.left in
    let left = c.answer.new.script.left in
    let r = request_of_command c.command_of.result in
    let reported = c.in_ok-answer.ensures.reported in
    let first = request_answer before here r (block_lines rest) in
    let text = ap (λ (xs : List (List ℕ)). (lines_answer number before None xs).text) c.in-Some.ensures.line
    ∙ text_step number here next before after line rest left r c.in-Some.ensures.number c.command_of.ensures reported.state
    c.in_ok-answer.ensures.number c.in_ok-answer.ensures.left in
    let state = ap (λ (xs : List (List ℕ)). (lines_answer number before None xs).state) c.in-Some.ensures.line
    ∙ state_step number here next before after line rest left r c.in-Some.ensures.number c.command_of.ensures reported.state
    c.in_ok-answer.ensures.number c.in_ok-answer.ensures.left in
    record {
      text = AddsAllBut-more (g.W.Sink.contents c.args.sink.now) (g.W.Sink.contents c.loop-line.sink)
          (g.W.Sink.contents c.answer.new.sink) (lines_answer number before None all).text first.text
          (lines_answer next after None left).text _ c.loop-line.invariant.text reported.text text;
      state = sym state ∙ c.loop-line.invariant.state;
      images = front_more c.args.images.now c.answer.new.images before first c.loop-line.invariant.images
          (line_keeps before here r (block_lines rest)) (ap (λ (w : ScriptState). w.images) reported.state);
      number = number_step number here next _ line all rest left r c.loop-line.invariant.number c.in-Some.ensures.line
          c.in-Some.ensures.number c.in_ok-answer.ensures.number c.in_ok-answer.ensures.left;
      same_flag = c.in_ok-answer.ensures.same_flag ∙ c.loop-line.invariant.same_flag;
    }

pub loop-line-smaller : goal.loop-line-smaller
loop-line-smaller g c =
    fewer_left c.in-Some.line.now c.loop-line.script.left c.next_line.new.self.left c.answer.new.script.left
    (request_of_command c.command_of.result)
    c.in-Some.ensures.line c.in_ok-answer.ensures.left
