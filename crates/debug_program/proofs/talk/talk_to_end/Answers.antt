-- By the lemmas of TalkLemmas.
use Rattle.std.proofs.Common.{◌≡◌, List, Err, ap, rules, subst, ◌∙◌}
use Rattle.std.specs.Io.KnownBytes.{Appends}
use Rattle.profile.specs.images.Entries.{Entry}
use Rattle.debug_session.specs.ExitStatus.{debug_status}
use Rattle.debug_session.specs.Reports.{summary_text}
use Rattle.debug_session.specs.RunError.{RunError}
use Rattle.debug_session.specs.Session.{debug_state}
use Rattle.debug_session.specs.declared.session.DebugSession.{DebugSession}
use Rattle.debug_session.specs.declared.session.DebugSettings.{DebugSettings}
use Rattle.profile.specs.Devices.{device_failed, device_inner}
use Rattle.debug_program.proofs.ResultLemmas.{failed_reports, fails_at_line, fails_by, unfailed_reports}
use Rattle.debug_program.proofs.TalkLemmas.{begins_still, talk_front, talk_status, talk_text, talked_here}
use Rattle.debug_program.proofs.talk.talk_to_end.Goals as goal

pub returns-clause-text : goal.returns-clause-text
returns-clause-text g c =
    let talked = c.in_ok-answer_pieces.ensures.talked in
    let session : DebugSession = c.answer_waiting.new.self.session in
    let images : List Entry = c.answer_waiting.new.images in
    talk_text _ _ _ _ _ _ _ _ _ _ _ _ _ (debug_state session images) session.setting
    talked c.in_ok-answer_pieces.ensures.ends
    (λ plain. c.in_ok-print_missing_at_end.ensures.plain (ap (λ (x : DebugSettings). x.form) talked.setting ∙ plain.form))
    c.in_ok-answer_waiting.ensures.reported c.answer_waiting.ensures.setting
    (subst (λ (x : DebugSession). Appends (g.W.Write.contents (device_inner c.answer_waiting.new.sink))
    (g.W.Write.contents (device_inner c.print_summary.new.sink)) (summary_text x.setting.form (debug_state x images).tally))
    c.session.ensures (c.in_ok-print_summary.ensures images).text)
    c.hand_on.ensures.kept

pub returns-clause-status : goal.returns-clause-status
returns-clause-status g c =
    let images : List Entry = c.answer_waiting.new.images in
    talk_status _ _ _ _ _ _ _ _ _ (debug_state c.answer_waiting.new.self.session images) _
    c.in_ok-answer_pieces.ensures.talked c.in_ok-answer_pieces.ensures.ends c.in_ok-answer_waiting.ensures.reported.state
    (c.status.ensures images ∙ ap (λ (x : DebugSession). debug_status (debug_state x images)) c.session-2.ensures)

pub returns-in_err-answer_pieces-clause-front : goal.returns-in_err-answer_pieces-clause-front
returns-in_err-answer_pieces-clause-front g c =
    fails_by c.from_residual.result _ _
    c.from_residual.ensures.1 c.in_err-answer_pieces.ensures.front

pub returns-in_err-print_missing_at_end-clause-front : goal.returns-in_err-print_missing_at_end-clause-front
returns-in_err-print_missing_at_end-clause-front g c =
    fails_at_line c.from_residual-in_err-print_missing_at_end.result _ _
    c.from_residual-in_err-print_missing_at_end.ensures.1 c.in_err-print_missing_at_end.ensures.errors
    (λ is. begins_still g.W.Write.contents _ _ _ _ _ c.answer_pieces.new.writer c.print_missing_at_end.new.sink
    (c.in_err-print_missing_at_end.ensures.memory (ap (λ (e : RunError). Err e) is))
    (talked_here _ _ _ _ _ _ _ _ _ c.in_ok-answer_pieces.ensures.talked))

pub returns-in_err-answer_waiting-clause-front : goal.returns-in_err-answer_waiting-clause-front
returns-in_err-answer_waiting-clause-front g c =
    let talked = c.in_ok-answer_pieces.ensures.talked in
    fails_at_line c.from_residual-in_err-answer_waiting.result _ _
    c.from_residual-in_err-answer_waiting.ensures.1 c.in_err-answer_waiting.ensures.errors
    (λ is. talk_front _ _ _ _ _ _ _ _ _ _ _ talked c.in_ok-answer_pieces.ensures.ends
    (λ plain. c.in_ok-print_missing_at_end.ensures.plain (ap (λ (x : DebugSettings). x.form) talked.setting ∙ plain.form))
    (c.in_err-answer_waiting.ensures.memory (ap (λ (e : RunError). Err e) is)))

pub returns-in_err-print_summary-clause-write_fault : goal.returns-in_err-print_summary-clause-write_fault
returns-in_err-print_summary-clause-write_fault g c =
    failed_reports device_failed c.args.writer.now c.print_summary.new.sink c.from_residual-in_err-print_summary.result
    (search rules) (c.in_err-print_summary.ensures c.answer_waiting.new.images).flag

pub returns-clause-write_fault : goal.returns-clause-write_fault
returns-clause-write_fault g c =
    unfailed_reports device_failed c.args.writer.now c.hand_on.new.writer c.status.result
    (c.in_ok-hand_on.ensures.same_flag ∙ (c.in_ok-print_summary.ensures c.answer_waiting.new.images).same_flag
    ∙ c.in_ok-answer_waiting.ensures.same_flag ∙ c.in_ok-print_missing_at_end.ensures.same_flag
    ∙ c.in_ok-answer_pieces.ensures.same_flag)
