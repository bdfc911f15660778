-- Which records a line has that is answered: one with its number and its text as typed; then one for
-- each step that it took, with the step's number over the whole script; past the limit, one for all the
-- steps that are left; and one of its answer, with what it says. Those of the steps, or that of the answer
-- to a line that took none, replay on the machine before the line to that behind it, as Moments says.
-- `line_forms` says what each of them is, or begins with: what a record has beside those fields is a text
-- on its line.
use Rattle.std.specs.Prelude.{◌≡◌, ℕ, ◌+◌, ◌==◌, not, Bool, true, false, List, [], ◌∷◌, ◌++◌, codes, take, Option, Some, None, is_some, option_map}
use Rattle.std.specs.Fmt.{decimal}
use Rattle.std.specs.List.{flat_map, list_all}
use Rattle.std.specs.Io.KnownBytes.{Appends}
use Rattle.profile.specs.text_sink.Safe.{is_safe}
use Rattle.trace_effects.specs.record_text.Spelling.{comma_before, string_text}
use Rattle.command_shell_lines.specs.Blocks.{lines_in_block}
use Rattle.debug_lines.specs.DebugRequests.{debug_opens_block}
use Rattle.debug_session.specs.DebugState.{DebugState}
use Rattle.trace_json.specs.MachineState.{MachineState}
use Rattle.debug_records.specs.AnswerHeads.{answer_fields, answer_head, line_counts}
use Rattle.debug_records.specs.AnsweredLines.{RecordedLine, AreLinesBetween, RecordingState, answer_by, is_remark_request, is_reset_request, next_line, request_read, state_answered, steps_asked, steps_of_line}
use Rattle.debug_records.specs.Moments.{AreStepsOfLine, IsMoment, behind_fields}

-- RECORDS

-- a record that begins with these fields, and is one line
pub record IsRecord (head text : List ℕ) : Type 0 where
  pub others : List ℕ
  pub one_line : list_all (λ b. not (b == 10)) others ≡ true
  pub whole : text ≡ codes "{" ++ (head ++ (behind_fields others ++ codes "}\n"))

-- how a record is: these fields and no others; these and perhaps others behind them; these, and what
-- differs between two machines; or how those of the steps of a line are, where so many were taken before, so
-- many are shown one by one, and so many were taken from one machine to another
pub data RecordForm : Type 0 where
  Whole : List ℕ → RecordForm
  Begins : List ℕ → RecordForm
  Changes : List ℕ → MachineState → MachineState → RecordForm
  Steps : ℕ → ℕ → ℕ → MachineState → MachineState → RecordForm

abbrev pub IsOfForm : RecordForm → List ℕ → Type 0
IsOfForm (Whole fields) text = text ≡ codes "{" ++ (fields ++ codes "}\n")
IsOfForm (Begins head) text = IsRecord head text
IsOfForm (Changes head m m') text = IsMoment head (codes "pc") m.cpu.pc m m' text
IsOfForm (Steps before limit taken m m') text = AreStepsOfLine before limit taken m m' text

-- records, one behind another
pub data AreRecords : List RecordForm → List ℕ → Type 0 where
  no_records : AreRecords [] []
  then_records : {form : RecordForm} {forms : List RecordForm} {rest : List ℕ} (text : List ℕ)
      → IsOfForm form text → AreRecords forms rest → AreRecords (form ∷ forms) (text ++ rest)

-- A text of a kind was written, of bytes that are safe to stand in a page.
pub record Adds (Is : List ℕ → Type 0) (old new : Option (List ℕ)) : Type 0 where
  pub text : List ℕ
  pub adds : Appends old new text
  pub safe : list_all is_safe text ≡ true
  pub is : Is text

-- ITS FIELDS

-- `"repeat":3`, the third time
abbrev pub repeat_field : Option ℕ → List ℕ
repeat_field None = []
repeat_field (Some time) = codes ",\"repeat\":" ++ decimal (time + 1)

-- strings, one behind another
abbrev pub strings_text : Bool → List (List ℕ) → List ℕ
strings_text follows [] = []
strings_text follows (line ∷ rest) = comma_before follows ++ (string_text line ++ strings_text true rest)

-- `,"block":["MOV R0,#1","END"]`, of a line that opens a block
abbrev pub block_field : Bool → List (List ℕ) → List ℕ
block_field false lines = []
block_field true lines = codes ",\"block\":[" ++ (strings_text false lines ++ codes "]")

-- `"line":13,"text":"RUN"`
abbrev pub line_head : ℕ → List ℕ → Option ℕ → List ℕ
line_head number line time = codes "\"line\":" ++ (decimal number
    ++ (codes ",\"text\":" ++ (string_text line ++ repeat_field time)))

-- THE RECORDS OF A LINE

-- those of its steps, by whether it took none
abbrev pub step_forms : Bool → ℕ → ℕ → ℕ → MachineState → MachineState → List RecordForm
step_forms true before limit taken m m' = []
step_forms false before limit taken m m' = Steps before limit taken m m' ∷ []

-- that of a line, with the lines that its block takes
abbrev pub line_record_form : List ℕ → List ℕ → Option ℕ → RecordingState → RecordForm
line_record_form line words time at = Whole (line_head at.number line time
    ++ block_field (debug_opens_block (request_read line words at)) (take (lines_in_block at.left) at.left))

-- that of an answer, by whether the line asks for nothing, took no step, and asks for a fresh machine
abbrev pub answer_form : Bool → Bool → Bool → List ℕ → MachineState → MachineState → RecordForm
answer_form true stays resets fields m m' = Whole fields
answer_form false false resets fields m m' = Begins fields
answer_form false true true fields m m' = Begins fields
answer_form false true false fields m m' = Changes fields m m'

abbrev pub answer_record_form : List ℕ → List ℕ → RecordingState → RecordForm
answer_record_form line words at =
    let request = request_read line words at in
    let answer = answer_by words at in
    let taken = steps_of_line request answer.state in
    answer_form (is_remark_request request) (taken == 0) (is_reset_request request)
    (answer_head at.number (answer_fields (is_remark_request request)
    (is_some (steps_asked request)) taken (line_counts at.debug) answer.state
    answer.text)) at.debug.script.machine answer.state.script.machine

-- those of a line that was answered by these words, or of one time that it was
abbrev pub line_forms : List ℕ → List ℕ → Option ℕ → RecordingState → List RecordForm
line_forms line words time at =
    let request = request_read line words at in
    let after = state_answered words at in
    let taken = steps_of_line request after in
    line_record_form line words time at ∷ (step_forms (taken == 0) at.steps at.limit taken
    at.debug.script.machine after.script.machine ++ (answer_record_form line words at ∷ []))

-- THE RECORDS OF LINES

abbrev pub which_time : ℕ × ℕ → ℕ
which_time time = time.0

abbrev pub forms_of : RecordedLine → List RecordForm
forms_of a = line_forms a.line a.words (option_map which_time a.time) a.at

-- those of the lines that are answered from one state to another
pub record AreRecorded (start : DebugState) (first : Option RecordedLine) (after : DebugState)
    (next : Option RecordedLine) (text : List ℕ) : Type 0 where
  pub lines : List RecordedLine
  pub answered : AreLinesBetween after next start first lines
  pub records : AreRecords (flat_map forms_of lines) text

-- those of all lines of a script, or of those up to QUIT, which leave such a state
abbrev pub AreAllRecorded : RecordingState → DebugState → List ℕ → Type 0
AreAllRecorded start after = AreRecorded start.debug (next_line start) after None
