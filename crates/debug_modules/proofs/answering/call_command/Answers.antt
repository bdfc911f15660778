-- The error stands below.
use Rattle.std.proofs.Common.{◌++◌, ◌∙◌, List, ℕ, ap}
use Rattle.debug_modes.specs.Session.{script_state}
use Rattle.debug_modules.specs.Answers.{code_error_text}
use Rattle.debug_modules.proofs.EnteringLemmas.{error_shown}
use Rattle.debug_modules.proofs.answering.call_command.Goals as goal

pub returns : goal.returns
returns c =
    let images = c.args.context.now.images.now in
    let now = script_state c.enter_code.new.session images in
    error_shown _ _ c.args.context.now.budget (script_state c.args.session.now images) (script_state c.set_budget.new.self images) now
    c.args.past.now c.enter_code.new.past c.args.context.now.number c.args.entry.now c.enter_code.new.modes _ _
    c.in_ok-answer.answer.ending.items _ c.in_ok-error.error.items (c.set_budget.ensures images) c.in_ok-answer.ensures
    (c.in_ok-error.ensures images ∙ ap (λ (xs : List ℕ). code_error_text now.machine xs) c.as_slice.ensures.value)
    (c.in_ok-extend_from_slice.ensures.items ∙ ap (λ (xs : List ℕ). c.in_ok-answer.answer.ending.items ++ xs) c.as_slice-2.ensures.value)
