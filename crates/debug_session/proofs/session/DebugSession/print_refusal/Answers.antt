use Rattle.std.proofs.Common.{refl}
use Rattle.debug_session.specs.Session.{debug_state}
use Rattle.debug_session.proofs.BlockLemmas.{shown_refused}
use Rattle.debug_session.proofs.EndLemmas.{ends_failed, ends_written}
use Rattle.debug_session.proofs.session.DebugSession.print_refusal.Goals as goal

pub returns-clause-reported : goal.returns-clause-reported
returns-clause-reported g c images =
    shown_refused (g.W.Sink.contents c.args.sink.now) (g.W.Sink.contents c.push_refusal.new.sink)
    c.args.self.now.setting (debug_state c.args.self.now images) c.args.number c.args.text.now
    c.with_refusal-self.result c.with_refusal-self.ensures c.in_ok-push_refusal.ensures.text

pub returns-in_err-push_refusal-clause-ends : goal.returns-in_err-push_refusal-clause-ends
returns-in_err-push_refusal-clause-ends g c = ends_failed g.W.Sink.has_failed c.args.sink.now c.push_refusal.new.sink c.from_residual.result c.from_residual.ensures.1 c.in_err-push_refusal.ensures.flag

pub returns-clause-ends : goal.returns-clause-ends
returns-clause-ends g c = ends_written g.W.Sink.has_failed c.args.sink.now c.push_refusal.new.sink _ c.in_ok-push_refusal.ensures.same_flag

pub returns-in_err-push_refusal-clause-setting : goal.returns-in_err-push_refusal-clause-setting
returns-in_err-push_refusal-clause-setting g c = refl

pub returns-clause-setting : goal.returns-clause-setting
returns-clause-setting g c = refl
