-- What a telling has taken up.
use Rattle.std.specs.Prelude.{◌≡◌, ◌++◌, ℕ, List}
use Rattle.profile.specs.text_sink.TextSink.{sink_text_of}
use Rattle.profile.specs.declared.text_sink.TextSink.{TextSink}
use Rattle.debug_tables.specs.State.{ScriptState}
use Rattle.debug_runs.specs.Lines.{SteppingAnswer}
use Rattle.debug_runs.specs.Runs.{SteppingRun}
use Rattle.debug_runs.specs.declared.running.RunEnd.{RunEnd}
use Rattle.debug_runs.specs.declared.writer.TraceWriter.{TraceWriter}

-- so much more is shown, and so much more was printed
pub record IsAnswerOn (old new : TraceWriter) (text printed : List ℕ) : Type 0 where
  pub text_answer : sink_text_of new.text ≡ sink_text_of old.text ++ text
  pub all_printed : sink_text_of new.printed ≡ sink_text_of old.printed ++ printed

-- a run left this
pub record IsAfterStepping (r : SteppingRun) (now : ScriptState) (old new : TraceWriter) (e : RunEnd) : Type
    0 where
  pub state : now ≡ r.now
  pub reported : IsAnswerOn old new r.text r.printed
  pub ended : e ≡ r.ended

-- a run left this of which no step is shown
pub record IsAfterUntold (r : SteppingRun) (now : ScriptState) (old new : List ℕ)
    (e : RunEnd) : Type 0 where
  pub state : now ≡ r.now
  pub all_printed : new ≡ old ++ r.printed
  pub ended : e ≡ r.ended

-- a line left this
pub record IsSteppingAnswer (t : SteppingAnswer) (now : ScriptState) (text printed ending : List ℕ) : Type 0
  where
    pub state : now ≡ t.now
    pub reported : text ≡ t.text
    pub all_printed : printed ≡ t.printed
    pub ended : ending ≡ t.ending

-- the same as a telling and a sink of the ending have it
pub record HasAnswer (t : SteppingAnswer) (now : ScriptState) (old new : TraceWriter)
    (before after : TextSink) : Type 0 where
  pub state : now ≡ t.now
  pub reported : IsAnswerOn old new t.text t.printed
  pub ended : sink_text_of after ≡ sink_text_of before ++ t.ending
