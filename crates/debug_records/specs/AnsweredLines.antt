-- Which lines of a script are answered, one behind another, and what each leaves. They are read in their
-- order; a line behind REPEAT is answered so many times; nothing is answered behind QUIT.
use Rattle.std.specs.Prelude.{◌+◌, ◌^◌, ◌-◌, ℕ, nat_lt, min, Bool, true, false, List, [], ◌∷◌, Option, Some, None, is_some, if◌then◌else◌}
use Rattle.command_shell_lines.specs.Blocks.{block_lines, lines_after, lines_taken}
use Rattle.command_shell_lines.specs.Requests.{request_of}
use Rattle.command_shell_lines.specs.Requests as script
use Rattle.debug_lines.specs.DebugRequests.{DebugRequest, Mode, Remark, Reset, Script, Stepping, is_script_request, simple_request}
use Rattle.debug_lines.specs.ModeRequests.{ModeRequest, TraceLimit}
use Rattle.debug_lines.specs.SteppingRequests.{SteppingRequest, stepping_in}
use Rattle.debug_lines.specs.Tidy.{tidied_line}
use Rattle.debug_session.specs.DebugScript.{debug_line_answer, line_opens}
use Rattle.debug_session.specs.DebugState.{DebugAnswered, DebugState}
use Rattle.debug_session.specs.Looking.{words_meant}
use Rattle.debug_session.specs.Naming.{naming_of, repeated_now}
use Rattle.debug_session.specs.declared.session.DebugSettings.{DebugSettings}

-- what is recorded: what the lines are answered by and work on, how many were read, which are left,
-- how many steps were taken, and how many of a line have a record of their own
pub record RecordingState : Type 0 where
  pub setting : DebugSettings
  pub debug : DebugState
  pub number : ℕ
  pub left : List (List ℕ)
  pub steps : ℕ
  pub limit : ℕ

-- a line that is answered: as it was typed, by which words, which time of how many where it is
-- repeated, and what was before it
pub record RecordedLine : Type 0 where
  pub line : List ℕ
  pub words : List ℕ
  pub time : Option (ℕ × ℕ)
  pub at : RecordingState

-- WHAT A LINE ASKS FOR

-- A line of a script is read as it stands, any other with numbers in place of the words that name places.
abbrev pub words_read : DebugState → List ℕ → List ℕ → List ℕ
words_read d line words =
    if is_script_request (request_of line) then words else words_meant (naming_of d) words

abbrev pub request_meant : List ℕ → DebugRequest
request_meant words =
    if is_script_request (request_of words) then Script (request_of words) else simple_request words

abbrev pub request_read : List ℕ → List ℕ → RecordingState → DebugRequest
request_read line words at = request_meant (words_read at.debug line words)

-- whether a line asks for nothing
abbrev pub is_remark_request : DebugRequest → Bool
is_remark_request (Script script.Nothing) = true
is_remark_request Remark = true
is_remark_request request = false

-- whether it asks for a fresh machine
abbrev pub is_reset_request : DebugRequest → Bool
is_reset_request Reset = true
is_reset_request request = false

-- what is asked for that takes steps
abbrev pub steps_asked : DebugRequest → Option SteppingRequest
steps_asked (Script request) = stepping_in request
steps_asked (Stepping is_traced request) = Some request
steps_asked request = None

-- WHAT IT LEAVES

-- how many steps were taken, as far as 64 bits count
abbrev pub step_number : ℕ → ℕ → ℕ
step_number before more = min (before + more) (2 ^ 64 - 1)

-- how many steps a line took that has left a state
abbrev pub steps_of_line : DebugRequest → DebugState → ℕ
steps_of_line request after = if is_some (steps_asked request) then after.steps else 0

abbrev pub limit_of_mode : ModeRequest → ℕ → ℕ
limit_of_mode (TraceLimit limit) before = limit
limit_of_mode request before = before

-- TRACE LIMIT says how many steps of a line have a record of their own.
abbrev pub limit_after : DebugRequest → ℕ → ℕ
limit_after (Mode request) before = limit_of_mode request before
limit_after request before = before

-- what is answered to a line by these words, and the debugging script after it
unfoldable pub answer_by : List ℕ → RecordingState → DebugAnswered
answer_by words at = debug_line_answer at.setting at.debug at.number words (block_lines at.left)

abbrev pub state_answered : List ℕ → RecordingState → DebugState
state_answered words at = (answer_by words at).state

abbrev pub answered_state : DebugRequest → DebugState → Bool → RecordingState → RecordingState
answered_state request after opens at = record at {
  debug = after;
  number = at.number + lines_taken opens at.left;
  left = lines_after opens at.left;
  steps = step_number at.steps (steps_of_line request after);
  limit = limit_after request at.limit;
}

abbrev pub state_behind : List ℕ → List ℕ → RecordingState → RecordingState
state_behind line words at =
    answered_state (request_read line words at) (state_answered words at) (line_opens words) at

abbrev pub behind : RecordedLine → RecordingState
behind answered = state_behind answered.line answered.words answered.at

-- WHICH LINE IS NEXT

abbrev pub not_behind_quit : RecordingState → Option RecordedLine → Option RecordedLine
not_behind_quit at next = if at.debug.has_quit then None else next

abbrev pub once : List ℕ → List ℕ → RecordingState → RecordedLine
once line words at = record { line = line; words = words; time = None; at = at }

-- the third of five times: `this_time line words 2 5 at`
abbrev pub this_time : List ℕ → List ℕ → ℕ → ℕ → RecordingState → RecordedLine
this_time line words time count at =
    record { line = line; words = words; time = Some (time, count); at = at }

abbrev pub tidy_line : List ℕ → Option (ℕ × List ℕ) → RecordingState → RecordedLine
tidy_line line None at = once line (tidied_line line) at
tidy_line line (Some repeated) at = this_time line repeated.1 0 repeated.0 at

-- a line as it was typed: one of a script as it stands, any other made tidy, and of a REPEAT the first
-- time
abbrev pub typed_line : List ℕ → RecordingState → RecordedLine
typed_line line at =
    if is_script_request (request_of line) then once line line at
    else tidy_line line (repeated_now (naming_of at.debug) (tidied_line line)) at

abbrev pub first_left : List (List ℕ) → RecordingState → Option RecordedLine
first_left [] at = None
first_left (line ∷ rest) at = Some (typed_line line (record at { number = at.number + 1; left = rest }))

-- the next line of the script
abbrev pub next_line : RecordingState → Option RecordedLine
next_line at = not_behind_quit at (first_left at.left at)

-- the same line once more, where it is repeated more often, or else the next
abbrev pub again_or_next : List ℕ → List ℕ → Option (ℕ × ℕ) → RecordingState → Option RecordedLine
again_or_next line words None at = next_line at
again_or_next line words (Some time) at = if nat_lt (time.0 + 1) time.1
    then not_behind_quit at (Some (this_time line words (time.0 + 1) time.1 at)) else next_line at

abbrev pub next_answered : RecordedLine → Option RecordedLine
next_answered answered = again_or_next answered.line answered.words answered.time (behind answered)

-- The lines that are answered, from a state and the line that is next there up to another state and the
-- line that is next there.
pub data AreLinesBetween (after : DebugState) (next : Option RecordedLine)
    : DebugState → Option RecordedLine → List RecordedLine → Type 0 where
  no_more : AreLinesBetween after next after next []
  then_line : {line : RecordedLine} {lines : List RecordedLine}
      → AreLinesBetween after next (behind line).debug (next_answered line) lines
      → AreLinesBetween after next line.at.debug (Some line) (line ∷ lines)
