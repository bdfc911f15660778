use Rattle.std.proofs.Common.{Some}
use Rattle.debug_records.specs.AnsweredLines.{this_time}
use Rattle.debug_records.specs.LineRecords.{Adds, AreRecorded}
use Rattle.debug_records.specs.Recording.{recording_state}
use Rattle.debug_records.proofs.AnsweredLemmas.{time_or_next}
use Rattle.debug_records.proofs.recorder.Recorder.record_repeated.Given as goal

-- the times before this one have their records
abbrev pub invariant-loop-time : goal.invariant-loop-time
invariant-loop-time g l =
    let start = recording_state l.fn.self l.fn.script in
    let now = recording_state l.self l.script in
    Adds (AreRecorded start.debug (Some (this_time l.line l.words 0 l.count start)) now.debug
    (time_or_next l.line l.words l.time l.count now)) (g.W.Sink.contents l.fn.sink) (g.W.Sink.contents l.sink)
