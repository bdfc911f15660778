-- By whether the line asks for anything, and whether its block is refused.
use Rattle.std.proofs.Common.{◌∙◌, ap, false, refl, sym, true}
use Rattle.profile.specs.text_lines.Lines.{ReadingPlace}
use Rattle.debug_modules.specs.BlockErrorTexts.{text_with_errors}
use Rattle.debug_tables.specs.Memory.{script_with_budget}
use Rattle.debug_tables.specs.Script.{request_answer}
use Rattle.debug_tables.specs.State.{ScriptState}
use Rattle.command_shell_lines.specs.Blocks.{block_lines}
use Rattle.command_shell_lines.specs.Requests.{request_of_command}
use Rattle.debug_session.specs.DebugScript.{answer_or_refused}
use Rattle.debug_session.specs.DebugState.{IsDebugged}
use Rattle.debug_session.specs.Session.{debug_state}
use Rattle.debug_modules.proofs.EnteringLemmas.{anyhow}
use Rattle.debug_session.proofs.FailLemmas.{and_so}
use Rattle.debug_session.proofs.OwnLemmas.{answer_with, line_answer, no_answer, refused_as_answer, session_moved}
use Rattle.debug_session.proofs.NotingLemmas.{noted_as_answer}
use Rattle.debug_session.specs.declared.session.DebugSession.{DebugSession}
use Rattle.debug_session.proofs.EndLemmas.{ends_failed, ends_unwritten, ends_written}
use Rattle.debug_tables.specs.RunError.TheVariants.{Memory}
use Rattle.debug_session.proofs.session.DebugSession.plain_line.Goals as goal

pub returns-then-asks_nothing-clause-reported : goal.returns-then-asks_nothing-clause-reported
returns-then-asks_nothing-clause-reported g c =
    let old = c.args.self.now in
    let d = debug_state old c.args.images.now in
    let r = request_of_command c.args.command.now in
    let block = block_lines c.args.script.now.left in
    let number = c.args.script.now.number in
    let reported = request_answer (script_with_budget d.script old.setting.budget) number r block in
    no_answer old.setting d (debug_state c.answer_to.new.self c.answer_to.new.images) number number r block block
    (g.W.Sink.contents c.args.sink.now) c.asks_nothing.result c.asks_nothing.ensures c.if-asks_nothing.true
    (session_moved old c.answer_to.new.self c.args.images.now c.answer_to.new.images reported.state
    c.in_ok-answer.ensures.rest c.in_ok-answer.ensures.reported.state)

pub returns-then-is_refused-clause-reported : goal.returns-then-is_refused-clause-reported
returns-then-is_refused-clause-reported g c =
    let old = c.args.self.now in
    let d = debug_state old c.args.images.now in
    let r = request_of_command c.args.command.now in
    let block = block_lines c.args.script.now.left in
    let number = c.args.script.now.number in
    let reported = request_answer (script_with_budget d.script old.setting.budget) number r block in
    let mid = c.answer_to.new.self in
    let after = c.answer_to.new.images in
    let noted = c.note_line.new.self in
    let at_print = debug_state noted after in
    let answered = c.in_ok-answer.ensures in
    let there = ap (λ (s : ScriptState). s.images) answered.reported.state in
    let refusal = refused_as_answer c.is_refused_block-is_refused.result c.is_named_image-was_there.result c.args.images.now after
    reported.state.images r c.is_refused_block-is_refused.ensures c.is_named_image-was_there.ensures there in
    let same = c.as_slice-text.ensures.value ∙ answered.reported.text in
    let at = ap (λ (p : ReadingPlace). p.number) c.again-block.ensures in
    let follows = ap (λ (p : ReadingPlace). block_lines p.left) c.again-block.ensures in
    let setting = ap (λ (s : DebugSession). s.setting) answered.rest in
    let note = c.in_ok-note_line.ensures.noted
    ∙ noted_as_answer old.setting mid.setting d (debug_state mid after) _ number _ r reported _ _ block setting
    (session_moved old mid c.args.images.now after reported.state answered.rest answered.reported.state) at refusal same follows in
    let before = g.W.Sink.contents c.args.sink.now in
    let written = g.W.Sink.contents c.print_refusal.new.sink in
    let now = debug_state c.print_refusal.new.self after in
    let shown = c.as_slice.result.now in
    and_so c.print_refusal.result
    (IsDebugged before written now (answer_or_refused noted.setting at_print c.number.result true at_print shown)) _
    (λ is. line_answer before written old.setting d at_print now number r reported block c.as_slice-text.result.now shown
    true c.asks_nothing.result note same
    (c.as_slice.ensures.value ∙ c.in_ok-explained.ensures
    ∙ (λ i. text_with_errors true (at i) r (follows i) c.as_slice-text.result.now))
    c.asks_nothing.ensures c.if-asks_nothing.false (sym c.if-is_refused.true ∙ refusal)
    (answer_with before written now at_print noted.setting old.setting c.number.result number true shown
    (c.in_ok-note_line.ensures.setting ∙ setting) (c.number.ensures ∙ at) is))
    (c.print_refusal.ensures.reported after)

pub returns-clause-reported : goal.returns-clause-reported
returns-clause-reported g c =
    let old = c.args.self.now in
    let d = debug_state old c.args.images.now in
    let r = request_of_command c.args.command.now in
    let block = block_lines c.args.script.now.left in
    let number = c.args.script.now.number in
    let reported = request_answer (script_with_budget d.script old.setting.budget) number r block in
    let mid = c.answer_to.new.self in
    let after = c.answer_to.new.images in
    let noted = c.note_line.new.self in
    let at_print = debug_state noted after in
    let answered = c.in_ok-answer.ensures in
    let there = ap (λ (s : ScriptState). s.images) answered.reported.state in
    let refusal = refused_as_answer c.is_refused_block-is_refused.result c.is_named_image-was_there.result c.args.images.now after
    reported.state.images r c.is_refused_block-is_refused.ensures c.is_named_image-was_there.ensures there in
    let text = c.as_slice-text.result.now in
    let same = c.as_slice-text.ensures.value ∙ answered.reported.text in
    let at = ap (λ (p : ReadingPlace). p.number) c.again-block.ensures in
    let follows = ap (λ (p : ReadingPlace). block_lines p.left) c.again-block.ensures in
    let setting = ap (λ (s : DebugSession). s.setting) answered.rest in
    let note = c.in_ok-note_line.ensures.noted
    ∙ noted_as_answer old.setting mid.setting d (debug_state mid after) _ number _ r reported _ _ block setting
    (session_moved old mid c.args.images.now after reported.state answered.rest answered.reported.state) at refusal same follows in
    line_answer (g.W.Sink.contents c.args.sink.now) (g.W.Sink.contents c.push_line_answer-shown.new.sink) old.setting d at_print
    at_print number r reported block text text false c.asks_nothing.result note same refl
    c.asks_nothing.ensures c.if-asks_nothing.false (sym c.if-is_refused.false ∙ refusal)
    (answer_with _ _ at_print at_print noted.setting old.setting number number false text
    (c.in_ok-note_line.ensures.setting ∙ setting) refl
    (record { text = c.in_ok-shown.ensures.text; state = refl }))

pub returns-then-asks_nothing-clause-setting : goal.returns-then-asks_nothing-clause-setting
returns-then-asks_nothing-clause-setting g c = ap (λ (s : DebugSession). s.setting) c.in_ok-answer.ensures.rest

pub returns-in_err-answer-clause-setting : goal.returns-in_err-answer-clause-setting
returns-in_err-answer-clause-setting g c = ap (λ (s : DebugSession). s.setting) c.in_err-answer.ensures.rest

pub returns-in_err-note_line-clause-setting : goal.returns-in_err-note_line-clause-setting
returns-in_err-note_line-clause-setting g c =
    c.in_err-note_line.ensures.setting ∙ ap (λ (s : DebugSession). s.setting) c.in_ok-answer.ensures.rest

pub returns-in_err-explained-clause-setting : goal.returns-in_err-explained-clause-setting
returns-in_err-explained-clause-setting g c =
    c.in_ok-note_line.ensures.setting ∙ ap (λ (s : DebugSession). s.setting) c.in_ok-answer.ensures.rest

pub returns-then-is_refused-clause-setting : goal.returns-then-is_refused-clause-setting
returns-then-is_refused-clause-setting g c =
    c.print_refusal.ensures.setting ∙ c.in_ok-note_line.ensures.setting
    ∙ ap (λ (s : DebugSession). s.setting) c.in_ok-answer.ensures.rest

pub returns-in_err-shown-clause-setting : goal.returns-in_err-shown-clause-setting
returns-in_err-shown-clause-setting g c =
    c.in_ok-note_line.ensures.setting ∙ ap (λ (s : DebugSession). s.setting) c.in_ok-answer.ensures.rest

pub returns-clause-setting : goal.returns-clause-setting
returns-clause-setting g c =
    c.in_ok-note_line.ensures.setting ∙ ap (λ (s : DebugSession). s.setting) c.in_ok-answer.ensures.rest

pub returns-clause-left : goal.returns-clause-left
returns-clause-left g c = c.in_ok-answer.ensures.left

pub returns-clause-number : goal.returns-clause-number
returns-clause-number g c = c.in_ok-answer.ensures.number

pub returns-then-is_refused-clause-left : goal.returns-then-is_refused-clause-left
returns-then-is_refused-clause-left g c = anyhow c.print_refusal.result _ c.in_ok-answer.ensures.left

pub returns-then-is_refused-clause-number : goal.returns-then-is_refused-clause-number
returns-then-is_refused-clause-number g c = anyhow c.print_refusal.result _ c.in_ok-answer.ensures.number

pub returns-then-asks_nothing-clause-ends : goal.returns-then-asks_nothing-clause-ends
returns-then-asks_nothing-clause-ends g c = ends_written g.W.Sink.has_failed c.args.sink.now c.args.sink.now _ refl

pub returns-in_err-answer-clause-ends : goal.returns-in_err-answer-clause-ends
returns-in_err-answer-clause-ends g c = ends_unwritten g.W.Sink.has_failed c.args.sink.now c.from_residual.result _ c.from_residual.ensures.1 c.in_err-answer.ensures.errors

pub returns-in_err-note_line-clause-ends : goal.returns-in_err-note_line-clause-ends
returns-in_err-note_line-clause-ends g c = ends_unwritten g.W.Sink.has_failed c.args.sink.now c.from_residual-in_err-note_line.result Memory c.from_residual-in_err-note_line.ensures.1 refl

pub returns-in_err-explained-clause-ends : goal.returns-in_err-explained-clause-ends
returns-in_err-explained-clause-ends g c = ends_unwritten g.W.Sink.has_failed c.args.sink.now c.from_residual-in_err-explained.result Memory c.from_residual-in_err-explained.ensures.1 refl

pub returns-then-is_refused-clause-ends : goal.returns-then-is_refused-clause-ends
returns-then-is_refused-clause-ends g c = c.print_refusal.ensures.ends

pub returns-in_err-shown-clause-ends : goal.returns-in_err-shown-clause-ends
returns-in_err-shown-clause-ends g c = ends_failed g.W.Sink.has_failed c.args.sink.now c.push_line_answer-shown.new.sink c.from_residual-in_err-shown.result c.from_residual-in_err-shown.ensures.1 c.in_err-shown.ensures.flag

pub returns-clause-ends : goal.returns-clause-ends
returns-clause-ends g c = ends_written g.W.Sink.has_failed c.args.sink.now c.push_line_answer-shown.new.sink _ c.in_ok-shown.ensures.same_flag
