use Rattle.std.specs.Str.Lines.{lines}
use Rattle.debug_records.specs.AnsweredLines.{next_line}
use Rattle.debug_records.specs.LineRecords.{Adds, AreRecorded}
use Rattle.debug_records.specs.Recording.{recording_state}
use Rattle.debug_records.proofs.script.record_lines.Given as goal

-- the lines before this one have their records
abbrev pub invariant-loop-count : goal.invariant-loop-count
invariant-loop-count g l =
    let start = recording_state l.fn.recorder (record { left = lines l.script; number = 0 }) in
    let now = recording_state l.recorder l.lines in
    Adds (AreRecorded start.debug (next_line start) now.debug (next_line now)) (g.W.Sink.contents l.fn.sink)
    (g.W.Sink.contents l.sink)
