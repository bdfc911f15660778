-- By whether what should be so is so.
use Rattle.std.proofs.Common.{◌≡◌, ℕ, List, None, Option, Some, ap, refl, subst}
use Rattle.std.specs.Io.KnownBytes.{Appends}
use Rattle.debug_lines.specs.Expectations.{expect_request_of}
use Rattle.debug_modules.specs.Checks.{check_answer}
use Rattle.debug_modules.specs.CheckTally.{CheckTally}
use Rattle.debug_modules.specs.Reports.{fail_text, pass_text, with_fail, with_pass}
use Rattle.debug_session.specs.DebugScript.{checked_answer, seen_of}
use Rattle.debug_session.specs.DebugState.{DebugState, IsDebugged}
use Rattle.debug_session.specs.Session.{debug_state}
use Rattle.debug_session.specs.declared.session.DebugSettings.{DebugSettings}
use Rattle.debug_session.proofs.EndLemmas.{ends_failed, ends_unwritten, ends_written}
use Rattle.debug_tables.specs.RunError.TheVariants.{Memory}
use Rattle.debug_session.proofs.session.DebugSession.print_check.Goals as goal

passed : (before after : Option (List ℕ)) (c : DebugSettings) (d : DebugState) (number : ℕ) (words : List ℕ) (tally : CheckTally)
    (o : Option (List ℕ)) → None ≡ o → tally ≡ with_pass d.tally → Appends before after (pass_text c.form d.tally number words)
    → IsDebugged before after (record d { tally = tally }) (checked_answer c d number words o)
passed before after c d number words tally None is counted shown = record {
  text = shown;
  state = ap (λ (t : CheckTally). let now : DebugState = record d { tally = t } in now) counted;
}
passed before after c d number words tally (Some reason) is counted shown = absurd (cc)

failed : (before after : Option (List ℕ)) (c : DebugSettings) (d : DebugState) (number : ℕ) (words reason said : List ℕ) (tally : CheckTally)
    (o : Option (List ℕ)) → Some reason ≡ o → said ≡ reason → tally ≡ with_fail d.tally
    → Appends before after (fail_text c.form d.tally number words said)
    → IsDebugged before after (record d { tally = tally }) (checked_answer c d number words o)
failed before after c d number words reason said tally o is same counted shown =
    subst (λ (x : Option (List ℕ)). IsDebugged before after (record d { tally = tally }) (checked_answer c d number words x)) is
    (record {
      text = subst (λ (xs : List ℕ). Appends before after (fail_text c.form d.tally number words xs)) same shown;
      state = ap (λ (t : CheckTally). let now : DebugState = record d { tally = t } in now) counted;
    })

pub returns-in_ok-push_pass-in-None-clause-reported : goal.returns-in_ok-push_pass-in-None-clause-reported
returns-in_ok-push_pass-in-None-clause-reported g c images =
    let d = debug_state c.args.self.now images in
    let said = c.in_ok-reason_against.ensures images in
    passed (g.W.Sink.contents c.args.sink.now) (g.W.Sink.contents c.push_pass.new.sink) c.args.self.now.setting d c.args.number
    c.args.words.now c.with_pass-self.result (check_answer (seen_of d) (expect_request_of c.args.expected.now))
    (rw c.in-None.is at said)
    c.with_pass-self.ensures c.in_ok-push_pass-in-None.ensures.text

pub returns-in_ok-push_fail-in-Some-clause-reported : goal.returns-in_ok-push_fail-in-Some-clause-reported
returns-in_ok-push_fail-in-Some-clause-reported g c images =
    let d = debug_state c.args.self.now images in
    let said = c.in_ok-reason_against.ensures images in
    failed (g.W.Sink.contents c.args.sink.now) (g.W.Sink.contents c.push_fail.new.sink) c.args.self.now.setting d c.args.number
    c.args.words.now c.in-Some.reason.items c.as_slice.result.now c.with_fail-self.result
    (check_answer (seen_of d) (expect_request_of c.args.expected.now))
    (rw c.in-Some.is at said)
    c.as_slice.ensures.value c.with_fail-self.ensures c.in_ok-push_fail-in-Some.ensures.text

pub returns-in_err-reason_against-clause-ends : goal.returns-in_err-reason_against-clause-ends
returns-in_err-reason_against-clause-ends g c = ends_unwritten g.W.Sink.has_failed c.args.sink.now c.from_residual.result Memory c.from_residual.ensures.1 refl

pub returns-in_err-push_pass-in-None-clause-ends : goal.returns-in_err-push_pass-in-None-clause-ends
returns-in_err-push_pass-in-None-clause-ends g c = ends_failed g.W.Sink.has_failed c.args.sink.now c.push_pass.new.sink
    c.from_residual-in_err-push_pass-in-None.result c.from_residual-in_err-push_pass-in-None.ensures.1 c.in_err-push_pass-in-None.ensures.flag

pub returns-in_ok-push_pass-in-None-clause-ends : goal.returns-in_ok-push_pass-in-None-clause-ends
returns-in_ok-push_pass-in-None-clause-ends g c = ends_written g.W.Sink.has_failed c.args.sink.now c.push_pass.new.sink _
    c.in_ok-push_pass-in-None.ensures.same_flag

pub returns-in_err-push_fail-in-Some-clause-ends : goal.returns-in_err-push_fail-in-Some-clause-ends
returns-in_err-push_fail-in-Some-clause-ends g c = ends_failed g.W.Sink.has_failed c.args.sink.now c.push_fail.new.sink
    c.from_residual-in_err-push_fail-in-Some.result c.from_residual-in_err-push_fail-in-Some.ensures.1 c.in_err-push_fail-in-Some.ensures.flag

pub returns-in_ok-push_fail-in-Some-clause-ends : goal.returns-in_ok-push_fail-in-Some-clause-ends
returns-in_ok-push_fail-in-Some-clause-ends g c = ends_written g.W.Sink.has_failed c.args.sink.now c.push_fail.new.sink _
    c.in_ok-push_fail-in-Some.ensures.same_flag

pub returns-in_err-reason_against-clause-setting : goal.returns-in_err-reason_against-clause-setting
returns-in_err-reason_against-clause-setting g c = refl

pub returns-in_err-push_pass-in-None-clause-setting : goal.returns-in_err-push_pass-in-None-clause-setting
returns-in_err-push_pass-in-None-clause-setting g c = refl

pub returns-in_ok-push_pass-in-None-clause-setting : goal.returns-in_ok-push_pass-in-None-clause-setting
returns-in_ok-push_pass-in-None-clause-setting g c = refl

pub returns-in_err-push_fail-in-Some-clause-setting : goal.returns-in_err-push_fail-in-Some-clause-setting
returns-in_err-push_fail-in-Some-clause-setting g c = refl

pub returns-in_ok-push_fail-in-Some-clause-setting : goal.returns-in_ok-push_fail-in-Some-clause-setting
returns-in_ok-push_fail-in-Some-clause-setting g c = refl
