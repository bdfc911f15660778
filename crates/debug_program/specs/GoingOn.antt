-- A script, and behind it what is typed: each line of the script has its end, so that no line of it goes
-- on in what is typed.
use Rattle.std.specs.Prelude.{◌≡◌, ℕ, ◌==◌, not, Bool, true, false, List, [], ◌∷◌, ◌++◌, Option, None, IfSome, if◌then◌else◌}
use Rattle.std.specs.Io.KnownBytes.{Appends}
use Rattle.profile.specs.images.Entries.{Entry}
use Rattle.debug_lines.specs.DebugRequests.{DebugRequest, Script, Stepping}
use Rattle.debug_lines.specs.SteppingRequests as stepping
use Rattle.command_shell_lines.specs.Requests as script
use Rattle.debug_session.specs.DebugScript.{debug_script_answer, then_summary}
use Rattle.debug_session.specs.declared.session.DebugSettings.{DebugSettings}
use Rattle.debug_program.specs.declared.typing.DebugTyping.{DebugTyping}
use Rattle.debug_session.specs.ExitStatus.{debug_status}
use Rattle.debug_program.specs.Talking.{IsPlainTalk, debug_bytes_shown}

-- whether a line is open behind a text, by whether one was open before it
abbrev pub is_open_behind : Bool → List ℕ → Bool
is_open_behind was_open [] = was_open
is_open_behind was_open (byte ∷ rest) = is_open_behind (not (byte == 10)) rest

-- a text with a line feed behind it where a line is open there
abbrev pub with_line_end : Bool → List ℕ → List ℕ
with_line_end was_open [] = if was_open then 10 ∷ [] else []
with_line_end was_open (byte ∷ rest) = byte ∷ with_line_end (not (byte == 10)) rest

-- a script's lines, each with its end
abbrev pub ended_lines : List ℕ → List ℕ
ended_lines = with_line_end false

-- The exit status is that of the script and of what is typed behind it.
abbrev pub IsStatusOfBoth : DebugTyping → List Entry → Option (List ℕ) → Option (List ℕ) → ℕ → Type 0
IsStatusOfBoth t images script input status = IfSome script (λ lines. IfSome input (λ typed.
    status ≡ debug_status (debug_bytes_shown t images (ended_lines lines ++ typed)).state))

-- Both are answered, and the summary stands behind them, where only answers are written.
abbrev pub DebugsBoth : DebugTyping → List Entry → Bool → Option (List ℕ) → Option (List ℕ) → Option (List ℕ)
    → Option (List ℕ) → Type 0
DebugsBoth t images is_terminal script input before after = IfSome script (λ lines. IfSome input (λ typed.
    IsPlainTalk t is_terminal → Appends before after (then_summary t.session.setting
    (debug_bytes_shown t images (ended_lines lines ++ typed))).text))

-- The exit status is that of a debugging script, which the two are, on a fresh machine.
abbrev pub IsStatusOfBothScripts : DebugSettings → List Entry → Option (List ℕ) → Option (List ℕ) → ℕ → Type 0
IsStatusOfBothScripts c images script input status = IfSome script (λ lines. IfSome input (λ typed.
    status ≡ debug_status (debug_script_answer c images (ended_lines lines ++ typed)).state))

-- what is known of an input, unless it is a terminal
abbrev pub known_unless : Bool → Option (List ℕ) → Option (List ℕ)
known_unless true known = None
known_unless false known = known

-- whether a line asks for steps by their number
abbrev pub is_step_request : DebugRequest → Bool
is_step_request (Script (script.Step count)) = true
is_step_request (Stepping is_traced (stepping.Step count)) = true
is_step_request _ = false
