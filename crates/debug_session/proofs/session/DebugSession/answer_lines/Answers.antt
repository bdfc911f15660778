use Rattle.std.proofs.Common.{◌+◌, ◌∙◌, ap, length, refl, rules, sym}
use Rattle.command_shell_lines.specs.Blocks.{block_lines, lines_after, lines_taken}
use Rattle.profile.specs.text_lines.Lines.{ReadingPlace}
use Rattle.debug_session.specs.DebugScript.{debug_line_answer, debug_lines_answer, line_opens}
use Rattle.debug_session.specs.DebugState.{DebugAnswered}
use Rattle.debug_session.specs.Session.{debug_state}
use Rattle.profile.proofs.OutputLemmas.{AddsAllBut-more, Appends-from_all_but}
use Rattle.debug_session.proofs.FailLemmas.{front_then}
use Rattle.debug_session.proofs.LineLemmas.{fewer, lines_counted, none_left, none_answer, step_state, step_text}
use Rattle.debug_session.proofs.session.DebugSession.answer_lines.Goals as goal

pub returns-in_default-clause-reported : goal.returns-in_default-clause-reported
returns-in_default-clause-reported g c =
    let now = debug_state c.loop-self.self c.loop-self.images in
    let none = none_left c.args.self.now.setting c.loop-self.script.number now c.loop-self.script.left c.in_default.ensures.line in
    record {
      text = Appends-from_all_but (g.W.Sink.contents c.args.sink.now) (g.W.Sink.contents c.loop-self.sink) _ _
          c.loop-self.invariant.text (ap (λ (a : DebugAnswered). a.text) none);
      state = sym (ap (λ (a : DebugAnswered). a.state) none) ∙ c.loop-self.invariant.state;
    }

pub returns-in_default-clause-counted : goal.returns-in_default-clause-counted
returns-in_default-clause-counted g c =
    ap (λ (place : ReadingPlace). place.number + length place.left) c.in_default.ensures.end ∙ c.loop-self.invariant.counted

pub loop-self-smaller : goal.loop-self-smaller
loop-self-smaller g c =
    fewer c.in-Some.line.now c.loop-self.script.left c.next_line.new.self.left c.answer_line.new.script.left
    c.in-Some.ensures.line c.in_ok-answer_line.ensures.left

pub loop-self-preserved : goal.loop-self-preserved
loop-self-preserved g c =
    let before = debug_state c.loop-self.self c.loop-self.images in
    let after = debug_state c.answer_line.new.self c.answer_line.new.images in
    let number = c.loop-self.script.number in
    let here = c.next_line.new.self.number in
    let next = c.answer_line.new.script.number in
    let line = c.in-Some.line.now in
    let all = c.loop-self.script.left in
    let rest = c.next_line.new.self.left in
    let left = c.answer_line.new.script.left in
    let setting = c.args.self.now.setting in
    let own = c.loop-self.self.setting in
    let reported = c.in_ok-answer_line.ensures.reported in
    let first = debug_line_answer own before here line (block_lines rest) in
    let text = step_text setting own number here next before after line all rest left c.loop-self-test.true
    (sym c.loop-self.invariant.setting) c.in-Some.ensures.line c.in-Some.ensures.number reported.state
    c.in_ok-answer_line.ensures.number c.in_ok-answer_line.ensures.left in
    let state = step_state setting own number here next before after line all rest left c.loop-self-test.true
    (sym c.loop-self.invariant.setting) c.in-Some.ensures.line c.in-Some.ensures.number reported.state
    c.in_ok-answer_line.ensures.number c.in_ok-answer_line.ensures.left in
    record {
      text = AddsAllBut-more (g.W.Sink.contents c.args.sink.now) (g.W.Sink.contents c.loop-self.sink)
          (g.W.Sink.contents c.answer_line.new.sink) (debug_lines_answer setting number before all).text first.text
          (debug_lines_answer setting next after left).text _ c.loop-self.invariant.text reported.text text;
      state = sym state ∙ c.loop-self.invariant.state;
      counted = lines_counted number here next _ line all rest left (line_opens line) c.loop-self.invariant.counted
          c.in-Some.ensures.line c.in-Some.ensures.number c.in_ok-answer_line.ensures.number
          c.in_ok-answer_line.ensures.left;
      setting = c.in_ok-answer_line.ensures.setting ∙ c.loop-self.invariant.setting;
      same_flag = c.in_ok-answer_line.ensures.same_flag ∙ c.loop-self.invariant.same_flag;
    }

pub returns-clause-reported : goal.returns-clause-reported
returns-clause-reported g c =
    let left = c.loop-self.script.left in
    let now = debug_state c.loop-self.self c.loop-self.images in
    let quit = none_answer (length left) c.args.self.now.setting c.loop-self.script.number now left c.loop-self-test.false in
    record {
      text = Appends-from_all_but (g.W.Sink.contents c.args.sink.now) (g.W.Sink.contents c.loop-self.sink) _ _
          c.loop-self.invariant.text (ap (λ (a : DebugAnswered). a.text) quit);
      state = sym (ap (λ (a : DebugAnswered). a.state) quit) ∙ c.loop-self.invariant.state;
    }

pub returns-in_err-answer_line-clause-memory : goal.returns-in_err-answer_line-clause-memory
returns-in_err-answer_line-clause-memory g c = λ is.
    let before = debug_state c.loop-self.self c.loop-self.images in
    let number = c.loop-self.script.number in
    let here = c.next_line.new.self.number in
    let line = c.in-Some.line.now in
    let all = c.loop-self.script.left in
    let rest = c.next_line.new.self.left in
    let setting = c.args.self.now.setting in
    let own = c.loop-self.self.setting in
    let first = debug_line_answer own before here line (block_lines rest) in
    front_then (g.W.Sink.contents c.args.sink.now) (g.W.Sink.contents c.loop-self.sink) (g.W.Sink.contents c.answer_line.new.sink)
    _ first.text _ _ c.loop-self.invariant.text
    (step_text setting own number here (here + lines_taken (line_opens line) rest) before first.state line all rest
    (lines_after (line_opens line) rest) c.loop-self-test.true (sym c.loop-self.invariant.setting) c.in-Some.ensures.line
    c.in-Some.ensures.number refl refl refl)
    (c.in_err-answer_line.ensures.memory (search rules))
