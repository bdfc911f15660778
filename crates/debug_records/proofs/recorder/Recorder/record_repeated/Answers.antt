-- Each time adds its records, until all are there or one was QUIT.
use Rattle.std.proofs.Common.{Some, ◌∙◌, arith, sym}
use Rattle.debug_records.specs.AnsweredLines.{this_time}
use Rattle.debug_records.specs.Recording.{recording_state}
use Rattle.debug_records.proofs.AnsweredLemmas.{all_times, first_time, last_time, next_time}
use Rattle.debug_records.proofs.recorder.Recorder.record_repeated.Goals as goal

pub loop-time-init : goal.loop-time-init
loop-time-init g c =
    first_time c.args.line.now c.args.words.now c.args.count (recording_state c.args.self.now c.args.script.now)
    (g.W.Sink.contents c.args.sink.now) (omega (arith, c.requires))

pub loop-time-preserved : goal.loop-time-preserved
loop-time-preserved g c =
    let start = recording_state c.args.self.now c.args.script.now in
    next_time c.args.line.now c.args.words.now c.loop-time.time c.args.count start.debug
    (recording_state c.loop-time.self c.loop-time.script) (recording_state c.record_line.new.self c.record_line.new.script)
    (Some (this_time c.args.line.now c.args.words.now 0 c.args.count start)) (g.W.Sink.contents c.args.sink.now)
    (g.W.Sink.contents c.loop-time.sink) (g.W.Sink.contents c.record_line.new.sink) (omega (arith, c.loop-time-test.true))
    (sym (c.has_quit.ensures c.record_line.new.self.images) ∙ c.if-has_quit.false) c.loop-time.invariant
    c.in_ok-record_line.ensures.records c.in_ok-record_line.ensures.state

pub returns-then-has_quit : goal.returns-then-has_quit
returns-then-has_quit g c =
    let start = recording_state c.args.self.now c.args.script.now in
    last_time c.args.line.now c.args.words.now c.loop-time.time c.args.count start.debug
    (recording_state c.loop-time.self c.loop-time.script) (recording_state c.record_line.new.self c.record_line.new.script)
    (Some (this_time c.args.line.now c.args.words.now 0 c.args.count start)) (g.W.Sink.contents c.args.sink.now)
    (g.W.Sink.contents c.loop-time.sink) (g.W.Sink.contents c.record_line.new.sink) (omega (arith, c.loop-time-test.true))
    (sym (c.has_quit.ensures c.record_line.new.self.images) ∙ c.if-has_quit.true) c.loop-time.invariant
    c.in_ok-record_line.ensures.records c.in_ok-record_line.ensures.state

pub returns : goal.returns
returns g c =
    let start = recording_state c.args.self.now c.args.script.now in
    all_times c.args.line.now c.args.words.now c.loop-time.time c.args.count start.debug
    (recording_state c.loop-time.self c.loop-time.script)
    (Some (this_time c.args.line.now c.args.words.now 0 c.args.count start)) (g.W.Sink.contents c.args.sink.now)
    (g.W.Sink.contents c.loop-time.sink) (omega (arith, c.loop-time-test.false)) c.loop-time.invariant
