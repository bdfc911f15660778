-- The lines that change modes: what they leave, and how they are answered. A refusal leaves all modes
-- as they were.
use Rattle.std.specs.Prelude.{◌≡◌, ℕ, Bool, true, false, ◌%◌, ◌^◌, ◌++◌, List, codes, Result, Ok, Err}
use Rattle.std.specs.Fmt.{decimal}
use Rattle.command_shell.specs.Answers.{at_address_text, refused_text}
use Rattle.debug_lines.specs.ModeRequests.{ModeRequest, Count, Trace, TraceLimit, Unstub, Unwatch}
use Rattle.debug_lines.specs.ModeRequests as request
use Rattle.debug_modes.specs.declared.modes.DebugModes.{DebugModes}
use Rattle.debug_tables.specs.counts.Counts.{counts_begun, counts_stopped}
use Rattle.debug_tables.specs.StubNames.{stub_error_name}
use Rattle.debug_tables.specs.Stubs.{with_stub, without_stub}
use Rattle.debug_tables.specs.WordWatches.{watch_error_name, with_word_watch, without_word_watch}
use Rattle.debug_lines.specs.Stub.{Stub}
use Rattle.debug_tables.specs.declared.stubs.StubError.{StubError}
use Rattle.command_shell.specs.declared.watches.WordWatchError.{WordWatchError}
use Rattle.command_shell.specs.MachineState.{MachineState}
use Rattle.command_shell.specs.Step.{without_x}

-- the modes after a line, and its answer
pub record ModeAnswer : Type 0 where
  pub modes : DebugModes
  pub text : List ℕ

-- a line left this
pub record IsModeAnswer (t : ModeAnswer) (modes : DebugModes) (text : List ℕ) : Type 0 where
  pub state : modes ≡ t.modes
  pub answer : text ≡ t.text

-- `stub &6`, and the like
abbrev pub change_text : List ℕ → ℕ → List ℕ
change_text word address = word ++ (at_address_text address ++ codes "\n")

abbrev pub refused_in : DebugModes → List ℕ → ModeAnswer
refused_in m reason = record { modes = m; text = refused_text reason }

-- TRACE ON, TRACE OFF
abbrev pub trace_text : Bool → List ℕ
trace_text true = codes "trace on\n"
trace_text false = codes "trace off\n"

abbrev pub trace_line_answer : DebugModes → Bool → ModeAnswer
trace_line_answer m is_on = record { modes = record m { is_tracing = is_on }; text = trace_text is_on }

-- WHY ON, WHY OFF
abbrev pub why_mode_text : Bool → List ℕ
why_mode_text true = codes "why on\n"
why_mode_text false = codes "why off\n"

abbrev pub why_line_answer : DebugModes → Bool → ModeAnswer
why_line_answer m is_on = record { modes = record m { is_explaining = is_on }; text = why_mode_text is_on }

-- TRACE LIMIT
abbrev pub limit_text : ℕ → List ℕ
limit_text limit = codes "trace limit " ++ (decimal limit ++ codes "\n")

abbrev pub limit_line_answer : DebugModes → ℕ → ModeAnswer
limit_line_answer m limit = record { modes = record m { limit = limit }; text = limit_text limit }

-- a SWI's number as CALL takes it, without its X bit
abbrev pub stub_number : ℕ → ℕ
stub_number number = without_x (number % 2 ^ 24)

-- STUB
abbrev pub with_stub_number : Stub → Stub
with_stub_number stub = record stub { number = stub_number stub.number }

abbrev pub stubs_answer : DebugModes → List ℕ → Result (List Stub) StubError → ModeAnswer
stubs_answer m text (Ok stubs) =
    record { modes = record m { steps = record m.steps { stubs = stubs } }; text = text }
stubs_answer m text (Err e) = refused_in m (stub_error_name e)

abbrev pub stub_line_answer : MachineState → DebugModes → Stub → ModeAnswer
stub_line_answer s m stub = stubs_answer m (change_text (codes "stub") (stub_number stub.number))
    (with_stub s m.steps.stubs (with_stub_number stub))

-- UNSTUB
abbrev pub unstub_line_answer : DebugModes → ℕ → ModeAnswer
unstub_line_answer m number = stubs_answer m (change_text (codes "unstub") (stub_number number))
    (without_stub m.steps.stubs (stub_number number))

-- WATCH
abbrev pub watches_answer : DebugModes → List ℕ → Result (List ℕ) WordWatchError → ModeAnswer
watches_answer m text (Ok watches) =
    record { modes = record m { steps = record m.steps { watches = watches } }; text = text }
watches_answer m text (Err e) = refused_in m (watch_error_name e)

abbrev pub watch_line_answer : DebugModes → ℕ → ModeAnswer
watch_line_answer m address = watches_answer m (change_text (codes "watch") address)
    (with_word_watch m.steps.watches address)

-- UNWATCH
abbrev pub unwatch_line_answer : DebugModes → ℕ → ModeAnswer
unwatch_line_answer m address =
    watches_answer m (change_text (codes "unwatch") address) (without_word_watch m.steps.watches address)

-- COUNT ON, COUNT OFF
abbrev pub counting_text : Bool → List ℕ
counting_text true = codes "count on\n"
counting_text false = codes "count off\n"

abbrev pub counting_line_answer : DebugModes → Bool → ModeAnswer
counting_line_answer m true = record { modes = record m { counts = counts_begun }; text = counting_text true }
counting_line_answer m false =
    record { modes = record m { counts = counts_stopped m.counts }; text = counting_text false }

-- a line that changes modes, on a machine
abbrev pub mode_answer : MachineState → DebugModes → ModeRequest → ModeAnswer
mode_answer s m (Trace is_on) = trace_line_answer m is_on
mode_answer s m (TraceLimit limit) = limit_line_answer m limit
mode_answer s m (request.Stub stub) = stub_line_answer s m stub
mode_answer s m (Unstub number) = unstub_line_answer m number
mode_answer s m (request.Watch address) = watch_line_answer m address
mode_answer s m (Unwatch address) = unwatch_line_answer m address
mode_answer s m (Count is_on) = counting_line_answer m is_on
