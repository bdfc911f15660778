-- Each line adds its records, until none is left or one was QUIT.
use Rattle.std.proofs.Common.{◌∙◌, subst, sym}
use Rattle.std.specs.Str.Lines.{lines}
use Rattle.profile.specs.text_lines.Lines.{ReadingPlace}
use Rattle.debug_records.specs.AnsweredLines.{next_line}
use Rattle.debug_records.specs.LineRecords.{Adds, AreRecorded}
use Rattle.debug_records.specs.Recording.{recording_state}
use Rattle.debug_records.proofs.AnsweredLemmas.{all_recorded, next_recorded, none_behind_last, none_behind_quit, none_recorded}
use Rattle.debug_records.proofs.RecordLemmas.{none_written}
use Rattle.debug_records.proofs.script.record_lines.Goals as goal

pub loop-count-init : goal.loop-count-init
loop-count-init g c =
    let start = recording_state c.args.recorder.now (record { left = lines c.args.script.now; number = 0 }) in
    let before = g.W.Sink.contents c.args.sink.now in
    subst (λ (place : ReadingPlace). Adds (AreRecorded start.debug (next_line start) start.debug
    (next_line (recording_state c.args.recorder.now place))) before before) (sym c.new-lines.ensures)
    (none_written (AreRecorded start.debug (next_line start) start.debug (next_line start)) before
    (none_recorded start.debug (next_line start)))

pub loop-count-preserved : goal.loop-count-preserved
loop-count-preserved g c =
    let start = recording_state c.args.recorder.now (record { left = lines c.args.script.now; number = 0 }) in
    next_recorded start.debug (recording_state c.loop-count.recorder c.loop-count.lines)
    (recording_state c.record_typed.new.self c.record_typed.new.script) (next_line start) c.in-Some.line.now
    c.next_line.new.self.left c.next_line.new.self.number (g.W.Sink.contents c.args.sink.now)
    (g.W.Sink.contents c.loop-count.sink) (g.W.Sink.contents c.record_typed.new.sink)
    (sym (c.has_quit.ensures c.loop-count.recorder.images) ∙ c.if-has_quit.false) c.in-Some.ensures.line c.in-Some.ensures.number
    c.loop-count.invariant c.in_ok-record_typed.ensures

pub returns-then-has_quit : goal.returns-then-has_quit
returns-then-has_quit g c =
    let start = recording_state c.args.recorder.now (record { left = lines c.args.script.now; number = 0 }) in
    let now = recording_state c.loop-count.recorder c.loop-count.lines in
    all_recorded start.debug (next_line start) now (g.W.Sink.contents c.args.sink.now) (g.W.Sink.contents c.loop-count.sink)
    (none_behind_quit now (sym (c.has_quit.ensures c.loop-count.recorder.images) ∙ c.if-has_quit.true)) c.loop-count.invariant

pub returns-in_default : goal.returns-in_default
returns-in_default g c =
    let start = recording_state c.args.recorder.now (record { left = lines c.args.script.now; number = 0 }) in
    let now = recording_state c.loop-count.recorder c.loop-count.lines in
    all_recorded start.debug (next_line start) now (g.W.Sink.contents c.args.sink.now) (g.W.Sink.contents c.loop-count.sink)
    (none_behind_last now (sym (c.has_quit.ensures c.loop-count.recorder.images) ∙ c.if-has_quit.false) c.in_default.ensures.line)
    c.loop-count.invariant
