-- Three answers one after another are one.
use Rattle.std.proofs.Common.{ℕ, List, ap, subst, ◌∙◌, ◌++◌, refl}
use Rattle.std.specs.Io.KnownBytes.{Appends}
use Rattle.debug_session.specs.DebugState.{DebugState}
use Rattle.debug_modules.specs.Why.{why_below}
use Rattle.debug_modules.specs.Reports.{answer_in}
use Rattle.debug_tables.specs.GuestState.{state_of}
use Rattle.debug_tables.specs.Value.{MachineValue}
use Rattle.debug_session.specs.Session.{debug_state}
use Rattle.debug_session.proofs.EndLemmas.{ends_failed, ends_written}
use Rattle.debug_session.proofs.SteppingLemmas.{written_both}
use Rattle.debug_session.proofs.session.DebugSession.print_steps.Goals as goal

pub returns-clause-reported : goal.returns-clause-reported
returns-clause-reported g c images =
    let old = c.args.self.now in
    let form = old.setting.form in
    let ending = c.args.ending.items in
    let first = g.W.Sink.contents c.push_answer.new.sink in
    let middle = g.W.Sink.contents c.push_answer-2.new.sink in
    let last = g.W.Sink.contents c.push_why_below.new.sink in
    let below = ap (λ (m : MachineValue). why_below old.modes (state_of m.guest) ending) c.machine.ensures in
    let whole = ap (λ (xs : List ℕ). why_below old.modes (state_of c.machine.result.now.guest) xs) c.as_slice-ending.ensures.value in
    record {
      text = written_both (g.W.Sink.contents c.args.sink.now) middle last form (c.args.text.items ++ ending)
          (why_below old.modes (state_of old.session.machine.guest) ending)
          (written_both (g.W.Sink.contents c.args.sink.now) first middle form c.args.text.items ending
          (subst (λ (xs : List ℕ). Appends (g.W.Sink.contents c.args.sink.now) first (answer_in form xs))
          c.as_slice.ensures.value c.in_ok-push_answer.ensures.text)
          (subst (λ (xs : List ℕ). Appends first middle (answer_in form xs))
          c.as_slice-ending.ensures.value c.in_ok-push_answer-2.ensures.text))
          (subst (λ (xs : List ℕ). Appends middle last (answer_in form xs)) (whole ∙ below) c.in_ok-push_why_below.ensures.text);
      state = ap (λ (n : ℕ). let kept : DebugState = record (debug_state old images) {
        answer = ending;
        output = c.args.printed.items;
        steps = n;
      } in kept) c.steps_taken-self.ensures;
    }

pub returns-in_err-push_answer-clause-ends : goal.returns-in_err-push_answer-clause-ends
returns-in_err-push_answer-clause-ends g c = ends_failed g.W.Sink.has_failed c.args.sink.now c.push_answer.new.sink c.from_residual.result c.from_residual.ensures.1 c.in_err-push_answer.ensures.flag

pub returns-in_err-push_answer-2-clause-ends : goal.returns-in_err-push_answer-2-clause-ends
returns-in_err-push_answer-2-clause-ends g c = ends_failed g.W.Sink.has_failed c.args.sink.now c.push_answer-2.new.sink c.from_residual-in_err-push_answer-2.result c.from_residual-in_err-push_answer-2.ensures.1 c.in_err-push_answer-2.ensures.flag

pub returns-in_err-push_why_below-clause-ends : goal.returns-in_err-push_why_below-clause-ends
returns-in_err-push_why_below-clause-ends g c = ends_failed g.W.Sink.has_failed c.args.sink.now c.push_why_below.new.sink c.from_residual-in_err-push_why_below.result c.from_residual-in_err-push_why_below.ensures.1 c.in_err-push_why_below.ensures.flag

pub returns-clause-ends : goal.returns-clause-ends
returns-clause-ends g c = ends_written g.W.Sink.has_failed c.args.sink.now c.push_why_below.new.sink _
    (c.in_ok-push_why_below.ensures.same_flag ∙ c.in_ok-push_answer-2.ensures.same_flag ∙ c.in_ok-push_answer.ensures.same_flag)

pub returns-in_err-push_answer-clause-setting : goal.returns-in_err-push_answer-clause-setting
returns-in_err-push_answer-clause-setting g c = refl

pub returns-in_err-push_answer-2-clause-setting : goal.returns-in_err-push_answer-2-clause-setting
returns-in_err-push_answer-2-clause-setting g c = refl

pub returns-in_err-push_why_below-clause-setting : goal.returns-in_err-push_why_below-clause-setting
returns-in_err-push_why_below-clause-setting g c = refl

pub returns-clause-setting : goal.returns-clause-setting
returns-clause-setting g c = refl
