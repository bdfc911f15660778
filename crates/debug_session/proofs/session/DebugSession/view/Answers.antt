use Rattle.std.proofs.Common.{ℕ, List, refl, subst}
use Rattle.std.specs.Io.KnownBytes.{Appends}
use Rattle.debug_modules.specs.Reports.{answer_in}
use Rattle.debug_session.proofs.EndLemmas.{ends_failed, ends_written}
use Rattle.debug_session.proofs.session.DebugSession.view.Goals as goal

pub returns-clause-reported : goal.returns-clause-reported
returns-clause-reported g c images = record {
  text = subst (λ (xs : List ℕ). Appends (g.W.Sink.contents c.args.sink.now) (g.W.Sink.contents c.push_answer.new.sink)
      (answer_in c.args.self.now.setting.form xs)) c.as_slice.ensures.value c.in_ok-push_answer.ensures.text;
  state = refl;
}

pub returns-in_err-push_answer-clause-ends : goal.returns-in_err-push_answer-clause-ends
returns-in_err-push_answer-clause-ends g c = ends_failed g.W.Sink.has_failed c.args.sink.now c.push_answer.new.sink c.from_residual.result c.from_residual.ensures.1 c.in_err-push_answer.ensures.flag

pub returns-clause-ends : goal.returns-clause-ends
returns-clause-ends g c = ends_written g.W.Sink.has_failed c.args.sink.now c.push_answer.new.sink _ c.in_ok-push_answer.ensures.same_flag

pub returns-in_err-push_answer-clause-setting : goal.returns-in_err-push_answer-clause-setting
returns-in_err-push_answer-clause-setting g c = refl

pub returns-clause-setting : goal.returns-clause-setting
returns-clause-setting g c = refl
