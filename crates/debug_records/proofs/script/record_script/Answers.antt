-- The first record, those of the lines, and the last.
use Rattle.std.specs.Str.Lines.{lines}
use Rattle.std.proofs.lemmas.Result.{IfOk-weaker}
use Rattle.debug_session.specs.Session.{debug_state}
use Rattle.debug_records.specs.Recording.{recording_state}
use Rattle.debug_records.proofs.RecordLemmas.{recorded, recorded_safe}
use Rattle.debug_records.proofs.script.record_script.Goals as goal

pub returns-clause-safe : goal.returns-clause-safe
returns-clause-safe g c =
    let after = c.record_lines.new.recorder in
    IfOk-weaker c.record_end.result _ _
    (λ status. recorded_safe _ _ _ _ _ _ _ c.in_ok-record_start.ensures c.in_ok-record_lines.ensures)
    (c.record_end.ensures after.images)

pub returns-clause-whole : goal.returns-clause-whole
returns-clause-whole g c =
    let before = c.in_ok-recorder.recorder in
    let after = c.record_lines.new.recorder in
    let script = c.args.script.now in
    IfOk-weaker c.record_end.result _ _
    (λ status. recorded c.args.setting c.args.images c.args.name.now script status
    (recording_state before (record { left = lines script; number = 0 })) (debug_state after.session after.images)
    (g.W.Sink.contents c.args.sink.now) (g.W.Sink.contents c.record_start.new.sink) (g.W.Sink.contents c.record_lines.new.sink)
    (g.W.Sink.contents c.record_end.new.sink) (c.in_ok-recorder.ensures (lines script)) c.in_ok-record_start.ensures
    c.in_ok-record_lines.ensures)
    (c.record_end.ensures after.images)
