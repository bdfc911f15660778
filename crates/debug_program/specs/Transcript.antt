-- The transcript of a debugging script as it is written.
use Rattle.std.specs.Prelude.{◌≡◌, ◌⊎◌, ℕ, true, List, [], ◌++◌, Option}
use Rattle.std.specs.Io.KnownBytes.{Appends}
use Rattle.std.specs.List.{flat_map}
use Rattle.std.specs.Str.Lines.{lines}
use Rattle.profile.specs.images.Entries.{Entry}
use Rattle.debug_session.specs.DebugScript.{debug_lines_answer}
use Rattle.debug_session.specs.DebugState.{DebugAnswered, debug_start_state}
use Rattle.debug_session.specs.Reports.{summary_text}
use Rattle.debug_session.specs.declared.session.DebugSettings.{DebugSettings}
use Rattle.debug_program.specs.Answering.{AreAnsweredLines, ScriptPlace, start_place, shown_by_lines}
use Rattle.debug_program.specs.Spelling.{spelt_from}
use Rattle.debug_program.specs.declared.answering.AnsweredLine.{AnsweredLine}
use Rattle.debug_program.specs.declared.spelling.Side.TheVariants as side

-- what all lines of a script are answered, and what they leave
abbrev pub debug_shown_in : DebugSettings → List Entry → List ℕ → DebugAnswered
debug_shown_in c images script = debug_lines_answer c 0 (debug_start_state c images) (lines script)

-- the line as it is typed, and its answer
abbrev pub answered_text : AnsweredLine → List ℕ
answered_text a = spelt_from side.Typed true a.lines.now ++ spelt_from side.Reported true a.answer.items

-- a transcript up to the last of these lines
abbrev pub answered_texts : List AnsweredLine → List ℕ
answered_texts answered = flat_map answered_text answered

-- behind the last line stands the summary
abbrev pub transcript_text : List AnsweredLine → List ℕ → List ℕ
transcript_text answered summary = answered_texts answered ++ spelt_from side.Reported true summary

-- The lines of a script up to its end, or to QUIT, were answered, and their answers are those of a
-- debugging session.
pub record AreAllAnswered (c : DebugSettings) (images : List Entry) (script : List ℕ)
    (answered : List AnsweredLine) : Type 0 where
  pub end : ScriptPlace
  pub lines : AreAnsweredLines c (start_place c images script) answered end
  pub ended : (end.left ≡ []) ⊎ (end.state.has_quit ≡ true)
  pub reported : shown_by_lines answered ≡ (debug_shown_in c images script).text

-- the transcript of a debugging script was appended, all of it
pub record WritesTranscript (c : DebugSettings) (images : List Entry) (script : List ℕ)
    (before after : Option (List ℕ)) : Type 0 where
  pub answered : List AnsweredLine
  pub all : AreAllAnswered c images script answered
  pub text : Appends before after (transcript_text answered
      (summary_text c.form (debug_shown_in c images script).state.tally))

-- The transcript was begun: its first lines were appended, each whole, and nothing more.
pub record BeginsTranscript (c : DebugSettings) (images : List Entry) (script : List ℕ)
    (before after : Option (List ℕ)) : Type 0 where
  pub answered : List AnsweredLine
  pub here : ScriptPlace
  pub lines : AreAnsweredLines c (start_place c images script) answered here
  pub text : Appends before after (answered_texts answered)
