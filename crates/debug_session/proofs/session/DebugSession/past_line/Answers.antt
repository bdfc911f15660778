-- The answer is that of the last steps, or of a line of the past, or there is none.
use Rattle.std.proofs.Common.{List, Option, ℕ, ap, refl, subst, sym, ◌∙◌}
use Rattle.std.specs.Prelude.{OnOk}
use Rattle.profile.specs.images.Entries.{Entry}
use Rattle.debug_modules.specs.DebugHistoryAnswers.{past_line_answered}
use Rattle.debug_modules.specs.DebugHistoryLines.{last_steps_asked}
use Rattle.debug_session.specs.DebugScript.{past_line_or_steps}
use Rattle.debug_session.specs.DebugState.{DebugAnswered, IsDebugged}
use Rattle.debug_session.specs.Session.{debug_state}
use Rattle.debug_session.proofs.EndLemmas.{ends_unwritten}
use Rattle.debug_tables.specs.RunError.TheVariants.{Memory}
use Rattle.debug_session.proofs.PastLineLemmas.{past_moved, past_refused, past_shown, steps_not_asked, steps_viewed}
use Rattle.debug_session.proofs.session.DebugSession.past_line.Goals as goal

pub returns-in-Some-clause-reported : goal.returns-in-Some-clause-reported
returns-in-Some-clause-reported g c =
    let old = c.args.self.now in
    let d = debug_state old c.args.images.now in
    let asked = sym c.last_steps_asked.ensures ∙ c.in-Some.is in
    steps_viewed c.view.result (g.W.Sink.contents c.args.sink.now) (g.W.Sink.contents c.view.new.sink) old.setting d
    (debug_state old c.last_steps.new.images) (debug_state c.view.new.self c.last_steps.new.images) c.args.number c.args.words.now
    c.in-Ok.text.items (last_steps_asked c.args.words.now) c.in-Some.count asked
    (ap (λ (es : List Entry). debug_state old es) c.in-Ok.ensures.images) c.in-Ok.ensures.text
    (c.view.ensures.reported c.last_steps.new.images)

pub returns-in-Some-2-clause-reported : goal.returns-in-Some-2-clause-reported
returns-in-Some-2-clause-reported g c =
    let old = c.args.self.now in
    let d = debug_state old c.args.images.now in
    let o = past_line_answered d.labels old.setting.config old.setting.budget d.script d.past c.args.words.now in
    let none = sym c.last_steps_asked.ensures ∙ c.in_default.is in
    steps_not_asked c.view-in-Some-2.result (g.W.Sink.contents c.args.sink.now) (g.W.Sink.contents c.view-in-Some-2.new.sink) old.setting d
    (debug_state c.view-in-Some-2.new.self c.answer_line.new.images) c.args.number c.args.words.now
    (last_steps_asked c.args.words.now) none
    (past_shown c.view-in-Some-2.result (g.W.Sink.contents c.args.sink.now) (g.W.Sink.contents c.view-in-Some-2.new.sink) old.setting d _
    (debug_state c.view-in-Some-2.new.self c.answer_line.new.images) c.args.number c.args.words.now c.in-Some-2.text.items o
    (rw c.in-Some-2.is at c.in_ok-text.ensures.text)
    (past_moved d _ _ o c.in_ok-text.ensures.script c.in_ok-text.ensures.past)
    (c.view-in-Some-2.ensures.reported c.answer_line.new.images))

pub returns-in-None-clause-reported : goal.returns-in-None-clause-reported
returns-in-None-clause-reported g c =
    let old = c.args.self.now in
    let d = debug_state old c.args.images.now in
    let o = past_line_answered d.labels old.setting.config old.setting.budget d.script d.past c.args.words.now in
    let none = sym c.last_steps_asked.ensures ∙ c.in_default.is in
    subst (λ (x : Option ℕ). OnOk c.module_line.result (IsDebugged (g.W.Sink.contents c.args.sink.now)
    (g.W.Sink.contents c.module_line.new.sink) (debug_state c.module_line.new.self c.answer_line.new.images)
    (past_line_or_steps old.setting d c.args.number c.args.words.now x))) (sym none)
    (subst (λ (x : DebugAnswered). OnOk c.module_line.result (IsDebugged (g.W.Sink.contents c.args.sink.now)
    (g.W.Sink.contents c.module_line.new.sink) (debug_state c.module_line.new.self c.answer_line.new.images) x))
    (past_refused old.setting d _ c.args.number c.args.words.now o (sym (rw c.in-None.is at c.in_ok-text.ensures.text))
    (past_moved d _ _ o c.in_ok-text.ensures.script c.in_ok-text.ensures.past))
    c.module_line.ensures.reported)

pub returns-in-Some-clause-ends : goal.returns-in-Some-clause-ends
returns-in-Some-clause-ends g c = c.view.ensures.ends

pub returns-in_err-text-clause-ends : goal.returns-in_err-text-clause-ends
returns-in_err-text-clause-ends g c = ends_unwritten g.W.Sink.has_failed c.args.sink.now c.from_residual.result Memory c.from_residual.ensures.1 refl

pub returns-in-Some-2-clause-ends : goal.returns-in-Some-2-clause-ends
returns-in-Some-2-clause-ends g c = c.view-in-Some-2.ensures.ends

pub returns-in-None-clause-ends : goal.returns-in-None-clause-ends
returns-in-None-clause-ends g c = c.module_line.ensures.ends

pub returns-in-Some-clause-setting : goal.returns-in-Some-clause-setting
returns-in-Some-clause-setting g c = c.view.ensures.setting

pub returns-in_err-text-clause-setting : goal.returns-in_err-text-clause-setting
returns-in_err-text-clause-setting g c = refl

pub returns-in-Some-2-clause-setting : goal.returns-in-Some-2-clause-setting
returns-in-Some-2-clause-setting g c = c.view-in-Some-2.ensures.setting

pub returns-in-None-clause-setting : goal.returns-in-None-clause-setting
returns-in-None-clause-setting g c = c.module_line.ensures.setting
