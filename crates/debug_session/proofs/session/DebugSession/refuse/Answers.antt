-- What is written is the reason, and what is kept is a script's answer.
use Rattle.std.proofs.Common.{◌≡◌, ℕ, List, true, ap, refl, ◌∙◌}
use Rattle.debug_tables.specs.Answers.{unknown_text}
use Rattle.debug_modules.specs.OwnAnswers.{reasoned_text}
use Rattle.debug_modules.specs.Reasons.{refusal_reason}
use Rattle.debug_session.specs.DebugScript.{answer_or_refused, unknown_answer}
use Rattle.debug_session.specs.DebugState.{DebugState}
use Rattle.debug_session.specs.Naming.{naming_of}
use Rattle.debug_session.specs.Session.{debug_state}
use Rattle.debug_session.specs.declared.session.DebugSettings.{DebugSettings}
use Rattle.debug_session.proofs.OwnLemmas.{written_as}
use Rattle.debug_session.proofs.EndLemmas.{ends_unwritten}
use Rattle.debug_tables.specs.RunError.TheVariants.{Memory}
use Rattle.debug_session.proofs.session.DebugSession.refuse.Goals as goal

refused_by : (c : DebugSettings) (d : DebugState) (number : ℕ) (line answer said : List ℕ) → answer ≡ unknown_text number
    → said ≡ reasoned_text number (refusal_reason (naming_of d) line)
    → (let kept : DebugState = record d { answer = answer } in answer_or_refused c kept number true kept said) ≡ unknown_answer c d number line
refused_by c d number line answer said same reason = λ i.
    let kept : DebugState = record d { answer = same i } in answer_or_refused c kept number true kept (reason i)

pub returns-clause-reported : goal.returns-clause-reported
returns-clause-reported g c images =
    let old = c.args.self.now in
    written_as c.print_refusal.result _ _ _ _ _
    (refused_by old.setting (debug_state old images) c.args.number c.args.words.now c.in_ok-answer.answer.items
    c.as_slice-2.result.now c.in_ok-answer.ensures
    (c.as_slice-2.ensures.value ∙ c.in_ok-reported.ensures
    ∙ ap (reasoned_text c.args.number) (c.as_slice.ensures.value ∙ c.in_ok-reason.ensures images)))
    (c.print_refusal.ensures.reported images)

pub returns-in_err-reason-clause-ends : goal.returns-in_err-reason-clause-ends
returns-in_err-reason-clause-ends g c = ends_unwritten g.W.Sink.has_failed c.args.sink.now c.from_residual.result Memory c.from_residual.ensures.1 refl

pub returns-in_err-reported-clause-ends : goal.returns-in_err-reported-clause-ends
returns-in_err-reported-clause-ends g c = ends_unwritten g.W.Sink.has_failed c.args.sink.now c.from_residual-in_err-reported.result Memory c.from_residual-in_err-reported.ensures.1 refl

pub returns-in_err-answer-clause-ends : goal.returns-in_err-answer-clause-ends
returns-in_err-answer-clause-ends g c = ends_unwritten g.W.Sink.has_failed c.args.sink.now c.from_residual-in_err-answer.result Memory c.from_residual-in_err-answer.ensures.1 refl

pub returns-clause-ends : goal.returns-clause-ends
returns-clause-ends g c = c.print_refusal.ensures.ends

pub returns-in_err-reason-clause-setting : goal.returns-in_err-reason-clause-setting
returns-in_err-reason-clause-setting g c = refl

pub returns-in_err-reported-clause-setting : goal.returns-in_err-reported-clause-setting
returns-in_err-reported-clause-setting g c = refl

pub returns-in_err-answer-clause-setting : goal.returns-in_err-answer-clause-setting
returns-in_err-answer-clause-setting g c = refl

pub returns-clause-setting : goal.returns-clause-setting
returns-clause-setting g c = c.print_refusal.ensures.setting
