use Rattle.std.proofs.Common.{◌≡◌, ap, inr, refl, sym, ◌∙◌, List, ℕ}
use Rattle.std.specs.Str.Lines.{lines}
use Rattle.profile.specs.text_lines.Lines.{ReadingPlace}
use Rattle.debug_session.specs.RunError.TheVariants as error
use Rattle.debug_session.specs.ExitStatus.{debug_status}
use Rattle.debug_session.specs.Reports.{summary_text}
use Rattle.debug_session.specs.Session.{debug_state}
use Rattle.debug_session.specs.declared.session.DebugSession.{DebugSession}
use Rattle.debug_program.proofs.TranscriptLemmas.{begun_so, fewer_lines, line_error, next_is, none_next, some_of, starts_so, state_at_end, summary_is, transcript_ends, transcript_goes_on, transcript_starts}
use Rattle.debug_program.specs.Answering.{place_of_answering}
use Rattle.debug_program.specs.declared.answering.ScriptAnswering.{ScriptAnswering}
use Rattle.debug_program.proofs.transcript.push_transcript.Goals as goal

pub script_lines-init : goal.script_lines-init
script_lines-init g c =
    let a = c.new-answering.result in
    let start = c.new-answering.ensures in
    let session = c.in_ok-session.ensures in
    record {
      transcript = transcript_starts c.args.setting c.args.images c.args.script.now a (g.W.Sink.contents c.args.sink.now)
          (starts_so a c.in_ok-session.session c.args.setting c.args.images c.args.script.now start.session start.images start.place
          session.state);
      rest = ap (λ (xs : List ℕ). lines xs) start.rest ∙ sym (ap (λ (p : ReadingPlace). p.left) start.place);
      setting = ap (λ (s : DebugSession). s.setting) start.session ∙ session.setting;
      same_flag = refl;
    }

pub script_lines-smaller : goal.script_lines-smaller
script_lines-smaller g c =
    let old : ScriptAnswering = c.script_lines.answering in
    let new : ScriptAnswering = c.next_line.new.self in
    fewer_lines c.args.setting (place_of_answering old) (place_of_answering new) c.in-Some.answered
    (next_is old.session.setting c.args.setting _ c.in-Some.answered (place_of_answering old) (place_of_answering new)
    c.in_ok-answered.ensures.some c.in-Some.is c.script_lines.invariant.setting)

pub script_lines-preserved : goal.script_lines-preserved
script_lines-preserved g c =
    let old : ScriptAnswering = c.script_lines.answering in
    let new : ScriptAnswering = c.next_line.new.self in
    let answered = c.in-Some.answered in
    let so = c.script_lines.invariant in
    let next = next_is old.session.setting c.args.setting _ answered (place_of_answering old) (place_of_answering new)
    c.in_ok-answered.ensures.some c.in-Some.is so.setting in
    record {
      transcript = transcript_goes_on c.args.setting c.args.images c.args.script.now old new answered
          (g.W.Sink.contents c.args.sink.now) (g.W.Sink.contents c.script_lines.sink) (g.W.Sink.contents c.push_answered.new.sink)
          so.transcript next c.in_ok-push_answered.ensures.text;
      rest = some_of _ _ answered c.in_ok-answered.ensures.rest c.in-Some.is;
      setting = c.in_ok-answered.ensures.setting ∙ so.setting;
      same_flag = c.in_ok-push_answered.ensures.same_flag ∙ so.same_flag;
    }

pub returns-clause-text : goal.returns-clause-text
returns-clause-text g c =
    let old : ScriptAnswering = c.script_lines.answering in
    let so = c.script_lines.invariant in
    let none = none_next _ _ c.in_ok-answered.ensures.none c.in_default.is in
    let session = c.session.ensures ∙ ap (λ (a : ScriptAnswering). a.session) none.0 in
    transcript_ends c.args.setting c.args.images c.args.script.now old c.as_slice.result.now (g.W.Sink.contents c.args.sink.now)
    (g.W.Sink.contents c.script_lines.sink) (g.W.Sink.contents c.push_side.new.sink) so.transcript none.1
    (c.as_slice.ensures.value ∙ c.in_ok-summary.ensures ∙ ap (λ (s : DebugSession). summary_text s.setting.form s.tally) session
    ∙ summary_is old.session c.args.setting so.setting)
    c.in_ok-push_side.ensures.text

pub returns-clause-status : goal.returns-clause-status
returns-clause-status g c =
    let old : ScriptAnswering = c.script_lines.answering in
    let so = c.script_lines.invariant in
    let none = none_next _ _ c.in_ok-answered.ensures.none c.in_default.is in
    let session = c.session-2.ensures ∙ ap (λ (a : ScriptAnswering). a.session) none.0 in
    c.status.ensures old.images ∙ ap (λ (s : DebugSession). debug_status (debug_state s old.images)) session
    ∙ ap debug_status (sym (state_at_end c.args.setting c.args.images c.args.script.now old (g.W.Sink.contents c.args.sink.now)
    (g.W.Sink.contents c.script_lines.sink) so.transcript none.1))

pub returns-in_err-answered-clause-memory : goal.returns-in_err-answered-clause-memory
returns-in_err-answered-clause-memory g c = λ _. inr (begun_so c.args.setting c.args.images c.args.script.now
    c.script_lines.answering (g.W.Sink.contents c.args.sink.now) (g.W.Sink.contents c.script_lines.sink)
    c.script_lines.invariant.transcript)

pub returns-in_err-summary-clause-memory : goal.returns-in_err-summary-clause-memory
returns-in_err-summary-clause-memory g c = λ _. inr (begun_so c.args.setting c.args.images c.args.script.now
    c.script_lines.answering (g.W.Sink.contents c.args.sink.now) (g.W.Sink.contents c.script_lines.sink)
    c.script_lines.invariant.transcript)

pub returns-in_err-push_answered-clause-errors : goal.returns-in_err-push_answered-clause-errors
returns-in_err-push_answered-clause-errors g c = line_error _ error.WriteFault tt c.from_residual-in_err-push_answered.ensures.1
