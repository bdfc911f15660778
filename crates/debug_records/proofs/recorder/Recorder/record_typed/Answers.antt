-- A line of a script as it stands, any other made tidy, and a REPEAT each time.
use Rattle.std.proofs.Common.{◌∙◌, sym, ap}
use Rattle.std.proofs.lemmas.Result.{on_ok_weaker}
use Rattle.std.specs.Prelude.{option_map}
use Rattle.debug_lines.specs.Repeats.{count_and_line}
use Rattle.debug_session.specs.Session.{debug_state}
use Rattle.debug_records.specs.Recording.{recording_state}
use Rattle.debug_records.proofs.AnsweredLemmas.{repeated_once, repeated_recorded, script_recorded, tidy_recorded}
use Rattle.debug_records.proofs.recorder.Recorder.record_typed.Goals as goal

pub returns-then-is_script_line : goal.returns-then-is_script_line
returns-then-is_script_line g c =
    on_ok_weaker c.record_line.result
    (script_recorded c.args.line.now (recording_state c.args.self.now c.args.script.now)
    (recording_state c.record_line.new.self c.record_line.new.script) (g.W.Sink.contents c.args.sink.now)
    (g.W.Sink.contents c.record_line.new.sink) (sym c.is_script_line.ensures ∙ c.if-is_script_line.true))
    c.record_line.ensures

pub returns-in-None : goal.returns-in-None
returns-in-None g c =
    on_ok_weaker c.record_line-in-None.result
    (tidy_recorded c.args.line.now c.as_slice-words.result.now (recording_state c.args.self.now c.args.script.now)
    (recording_state c.record_line-in-None.new.self c.record_line-in-None.new.script) (g.W.Sink.contents c.args.sink.now)
    (g.W.Sink.contents c.record_line-in-None.new.sink) (sym c.is_script_line.ensures ∙ c.if-is_script_line.false)
    (c.as_slice-words.ensures.value ∙ c.in_ok-tidy.ensures)
    (sym (c.in_ok-repeated.ensures c.args.self.now.images) ∙ ap (option_map count_and_line) c.in-None.is))
    c.record_line-in-None.ensures

pub record_repeated-requires : goal.record_repeated-requires
record_repeated-requires g c =
    repeated_once (debug_state c.args.self.now.session c.args.self.now.images) c.as_slice-words.result.now
    c.in-Some.again.line.now c.in-Some.again.count
    (sym (c.in_ok-repeated.ensures c.args.self.now.images) ∙ ap (option_map count_and_line) c.in-Some.is)

pub returns : goal.returns
returns g c =
    on_ok_weaker c.record_repeated.result
    (repeated_recorded c.args.line.now c.as_slice-words.result.now c.in-Some.again.count
    c.in-Some.again.line.now (recording_state c.args.self.now c.args.script.now)
    (recording_state c.record_repeated.new.self c.record_repeated.new.script) (g.W.Sink.contents c.args.sink.now)
    (g.W.Sink.contents c.record_repeated.new.sink) (sym c.is_script_line.ensures ∙ c.if-is_script_line.false)
    (c.as_slice-words.ensures.value ∙ c.in_ok-tidy.ensures)
    (sym (c.in_ok-repeated.ensures c.args.self.now.images) ∙ ap (option_map count_and_line) c.in-Some.is))
    c.record_repeated.ensures
