-- Nothing was done, or code was entered, or the line is about no module.
use Rattle.std.proofs.Common.{Some, ap, refl, subst, sym, ◌∙◌}
use Rattle.std.specs.Prelude.{OnOk}
use Rattle.debug_modules.specs.Answers.{module_line_answered, shown_of}
use Rattle.debug_modules.specs.declared.answering.ModuleAnswer.{ModuleAnswer}
use Rattle.debug_session.specs.DebugState.{DebugAnswered, IsDebugged}
use Rattle.debug_session.specs.Session.{debug_state}
use Rattle.debug_session.proofs.EndLemmas.{ends_unwritten}
use Rattle.debug_tables.specs.RunError.TheVariants.{Memory}
use Rattle.debug_session.proofs.ModuleLineLemmas.{module_refused, module_stepped, module_viewed, modules_moved}
use Rattle.debug_session.proofs.session.DebugSession.module_line.Goals as goal

pub returns-in-Some-Shown-clause-reported : goal.returns-in-Some-Shown-clause-reported
returns-in-Some-Shown-clause-reported g c =
    let old = c.args.self.now in
    let images = c.args.images.now in
    let d = debug_state old images in
    let o = module_line_answered d.modes d.labels d.sources old.setting.budget d.script d.past c.args.number c.args.words.now in
    module_viewed c.view.result (g.W.Sink.contents c.args.sink.now) (g.W.Sink.contents c.view.new.sink) old.setting d _
    (debug_state c.view.new.self images) c.args.number c.args.words.now c.in-Some-Shown.text.items o
    (ap (λ (x : ModuleAnswer). Some (shown_of x)) (sym c.in-Some-Shown.field-0-is)
    ∙ (rw c.in-Some-Shown.is at c.in_ok-text.ensures.shown))
    (modules_moved d _ _ _ o c.in_ok-text.ensures.script c.in_ok-text.ensures.modes c.in_ok-text.ensures.past)
    (c.view.ensures.reported images)

pub returns-in-Some-Entered-clause-reported : goal.returns-in-Some-Entered-clause-reported
returns-in-Some-Entered-clause-reported g c =
    let old = c.args.self.now in
    let images = c.args.images.now in
    let d = debug_state old images in
    let o = module_line_answered d.modes d.labels d.sources old.setting.budget d.script d.past c.args.number c.args.words.now in
    let taken = c.in-Some-Entered.taken in
    module_stepped c.print_steps.result (g.W.Sink.contents c.args.sink.now) (g.W.Sink.contents c.print_steps.new.sink) old.setting d _
    (debug_state c.print_steps.new.self images) c.args.number c.args.words.now taken.text.items taken.printed.items taken.ending.items o
    (ap (λ (x : ModuleAnswer). Some (shown_of x)) (sym c.in-Some-Entered.field-0-is)
    ∙ (rw c.in-Some-Entered.is at c.in_ok-text.ensures.shown))
    (modules_moved d _ _ _ o c.in_ok-text.ensures.script c.in_ok-text.ensures.modes c.in_ok-text.ensures.past)
    (c.print_steps.ensures.reported images)

pub returns-in-None-clause-reported : goal.returns-in-None-clause-reported
returns-in-None-clause-reported g c =
    let old = c.args.self.now in
    let images = c.args.images.now in
    let d = debug_state old images in
    let o = module_line_answered d.modes d.labels d.sources old.setting.budget d.script d.past c.args.number c.args.words.now in
    subst (λ (x : DebugAnswered). OnOk c.refuse.result (IsDebugged (g.W.Sink.contents c.args.sink.now)
    (g.W.Sink.contents c.refuse.new.sink) (debug_state c.refuse.new.self images) x))
    (module_refused old.setting d _ c.args.number c.args.words.now o (sym (rw c.in-None.is at c.in_ok-text.ensures.shown))
    (modules_moved d _ _ _ o c.in_ok-text.ensures.script c.in_ok-text.ensures.modes c.in_ok-text.ensures.past))
    (c.refuse.ensures.reported images)

pub returns-in_err-text-clause-ends : goal.returns-in_err-text-clause-ends
returns-in_err-text-clause-ends g c = ends_unwritten g.W.Sink.has_failed c.args.sink.now c.from_residual.result Memory c.from_residual.ensures.1 refl

pub returns-in-Some-Shown-clause-ends : goal.returns-in-Some-Shown-clause-ends
returns-in-Some-Shown-clause-ends g c = c.view.ensures.ends

pub returns-in-Some-Entered-clause-ends : goal.returns-in-Some-Entered-clause-ends
returns-in-Some-Entered-clause-ends g c = c.print_steps.ensures.ends

pub returns-in-None-clause-ends : goal.returns-in-None-clause-ends
returns-in-None-clause-ends g c = c.refuse.ensures.ends

pub returns-in_err-text-clause-setting : goal.returns-in_err-text-clause-setting
returns-in_err-text-clause-setting g c = refl

pub returns-in-Some-Shown-clause-setting : goal.returns-in-Some-Shown-clause-setting
returns-in-Some-Shown-clause-setting g c = c.view.ensures.setting

pub returns-in-Some-Entered-clause-setting : goal.returns-in-Some-Entered-clause-setting
returns-in-Some-Entered-clause-setting g c = c.print_steps.ensures.setting

pub returns-in-None-clause-setting : goal.returns-in-None-clause-setting
returns-in-None-clause-setting g c = c.refuse.ensures.setting
