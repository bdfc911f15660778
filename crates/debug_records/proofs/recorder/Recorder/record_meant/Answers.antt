-- The record of a line, those of its steps, and that of its answer.
use Rattle.std.proofs.Common.{◌≡◌, ◌∙◌, ◌++◌, ℕ, List, is_some, ap, subst}
use Rattle.std.proofs.lemmas.Result.{on_ok_weaker}
use Rattle.std.specs.Prelude.{if◌then◌else◌}
use Rattle.debug_lines.specs.DebugRequests.{debug_opens_block}
use Rattle.debug_session.specs.DebugScript.{line_opens}
use Rattle.debug_session.specs.DebugState.{DebugAnswered}
use Rattle.debug_session.specs.Session.{debug_state}
use Rattle.profile.specs.text_sink.TextSink.{sink_text_of}
use Rattle.debug_records.specs.AnswerHeads.{is_remark_use, is_reset_use, is_stepping_use, line_counts}
use Rattle.debug_records.specs.AnsweredLines.{answer_by, is_remark_request, is_reset_request, limit_after, request_meant, steps_asked, steps_of_line, words_read}
use Rattle.debug_records.specs.LineRecords.{Adds, IsOfForm, RecordForm}
use Rattle.debug_records.specs.Recording.{recording_state}
use Rattle.debug_records.proofs.AnsweredLemmas.{answered_by, left_behind, taken_is}
use Rattle.debug_records.proofs.HeadLemmas.{line_is, line_recorded, same_forms, written_is}
use Rattle.debug_records.proofs.recorder.Recorder.record_meant.Goals as goal

pub returns : goal.returns
returns g c =
    let line = c.args.line.now in
    let words = c.args.words.now in
    let meant = c.args.meant.now in
    let own = c.args.self.now in
    let place = c.args.script.now in
    let at = recording_state own place in
    let before = g.W.Sink.contents c.args.sink.now in
    let first = g.W.Sink.contents c.print_line.new.sink in
    let last = g.W.Sink.contents c.record_answer.new.sink in
    let left = c.answer_line.new.script in
    let debug = debug_state c.answer_line.new.self c.answer_line.new.images in
    let answer = answer_by words at in
    let after = answer.state in
    let read = words_read (debug_state own.session own.images) line words in
    let is_read : meant ≡ read = c.requires.read in
    let asked = request_meant read in
    let used = c.use_of-used.result in
    let here = c.in_ok-answer_line.ensures in
    let same = answered_by words at in
    let now : debug ≡ after = here.reported.state ∙ ap (λ (a : DebugAnswered). a.state) same in
    let text : c.bytes.result.now ≡ answer.text =
    c.bytes.ensures ∙ written_is (sink_text_of c.answer_line.new.sink) (sink_text_of c.new-answer.result) answer.text
    c.new-answer.ensures (subst (λ (a : DebugAnswered). sink_text_of c.answer_line.new.sink
    ≡ sink_text_of c.new-answer.result ++ a.text) same here.reported.text) in
    let steps : ℕ = steps_of_line asked after in
    let command = c.steps_of-command.result in
    let taken : c.steps_taken-taken.result ≡ steps =
    taken_is meant read command c.steps_taken-taken.result debug after is_read c.steps_of-command.ensures
    (c.steps_taken-taken.ensures ∙ ap (λ (n : ℕ). if is_some command then n else 0) (c.steps.ensures c.answer_line.new.images))
    now in
    let most : c.limit_after-self.result ≡ limit_after asked own.limit =
    subst (λ (ws : List ℕ). c.limit_after-self.result ≡ limit_after (request_meant ws) own.limit) is_read
    c.limit_after-self.ensures in
    let m = at.debug.script.machine in
    let remark : is_remark_use used ≡ is_remark_request asked =
    c.use_of-used.ensures.remark ∙ ap (λ (ws : List ℕ). is_remark_request (request_meant ws)) is_read in
    let stepping : is_stepping_use used ≡ is_some (steps_asked asked) =
    c.use_of-used.ensures.stepping ∙ ap (λ (ws : List ℕ). is_some (steps_asked (request_meant ws))) is_read in
    let resets : is_reset_use used ≡ is_reset_request asked =
    c.use_of-used.ensures.resets ∙ ap (λ (ws : List ℕ). is_reset_request (request_meant ws)) is_read in
    let opens : c.opens_block.result ≡ debug_opens_block asked =
    c.opens_block.ensures ∙ (c.use_of-used.ensures.block ∙ ap (λ (ws : List ℕ). debug_opens_block (request_meant ws)) is_read) in
    let block = c.again-block.ensures in
    let state =
    left_behind at asked after (line_opens words) c.answer_line.new.self.setting debug left.number left.left
    c.steps_taken-taken.result c.saturating_add-self.result c.limit_after-self.result here.setting now here.number
    here.left taken c.saturating_add-self.ensures most in
    on_ok_weaker c.record_answer.result
    (line_recorded line words c.args.time at _ _ before first last
    (subst (λ (form : RecordForm). Adds (IsOfForm form) before first)
    (line_is line c.args.time c.opens_block.result (debug_opens_block asked) c.again-block.result place opens block)
    c.in_ok-print_line.ensures)
    (same_forms (is_remark_use used) (is_remark_request asked) (is_stepping_use used) (is_some (steps_asked asked))
    (is_reset_use used) (is_reset_request asked) c.steps_taken-taken.result steps own.steps own.limit
    c.again-block.result place c.of-counts.result (line_counts at.debug) debug after c.bytes.result.now answer.text m
    remark stepping resets taken block c.of-counts.ensures now text) state)
    (c.record_answer.ensures m c.answer_line.new.images c.requires.alike)
