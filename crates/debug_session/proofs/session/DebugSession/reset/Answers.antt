use Rattle.std.proofs.Common.{◌∙◌, refl}
use Rattle.debug_session.specs.Session.{debug_state}
use Rattle.debug_session.proofs.OwnLemmas.{view_after}
use Rattle.debug_session.proofs.EndLemmas.{ends_unwritten}
use Rattle.debug_tables.specs.RunError.TheVariants.{Memory}
use Rattle.debug_session.proofs.session.DebugSession.reset.Goals as goal

pub returns-clause-reported : goal.returns-clause-reported
returns-clause-reported g c images =
    let begun = c.in_ok-begin_again.ensures in
    view_after c.view.result _ _ _ (debug_state c.begin_again.new.self images) _ c.begin_again.new.self.setting c.args.self.now.setting
    c.in_ok-text.text.items _ begun.setting (begun.made images) c.in_ok-text.ensures.items (c.view.ensures.reported images)

pub returns-in_err-begin_again-clause-ends : goal.returns-in_err-begin_again-clause-ends
returns-in_err-begin_again-clause-ends g c = ends_unwritten g.W.Sink.has_failed c.args.sink.now c.from_residual.result Memory c.from_residual.ensures.1 refl

pub returns-in_err-text-clause-ends : goal.returns-in_err-text-clause-ends
returns-in_err-text-clause-ends g c = ends_unwritten g.W.Sink.has_failed c.args.sink.now c.from_residual-in_err-text.result Memory c.from_residual-in_err-text.ensures.1 refl

pub returns-clause-ends : goal.returns-clause-ends
returns-clause-ends g c = c.view.ensures.ends

pub returns-in_err-begin_again-clause-setting : goal.returns-in_err-begin_again-clause-setting
returns-in_err-begin_again-clause-setting g c = c.in_err-begin_again.ensures.setting

pub returns-in_err-text-clause-setting : goal.returns-in_err-text-clause-setting
returns-in_err-text-clause-setting g c = c.in_ok-begin_again.ensures.setting

pub returns-clause-setting : goal.returns-clause-setting
returns-clause-setting g c = c.view.ensures.setting ∙ c.in_ok-begin_again.ensures.setting
