-- A script is answered by a debugging session as a script is, byte for byte; and looking and
-- expecting change nothing.
use Rattle.std.specs.Prelude.{◌≡◌, ◌≤◌, ℕ, zero, suc, ◌+◌, ◌&&◌, Bool, true, false, List, [], ◌∷◌, length, None, if◌then◌else◌}
use Rattle.debug_modules.specs.BlockErrors.{is_assembled}
use Rattle.debug_tables.specs.Script.{lines_answer}
use Rattle.debug_tables.specs.State.{Answered}
use Rattle.command_shell_lines.specs.Blocks.{block_lines, lines_after}
use Rattle.command_shell_lines.specs.Requests.{Request, opens_block, request_of}
use Rattle.debug_lines.specs.LineKinds.{takes_steps}
use Rattle.debug_lines.specs.DebugRequests.{DebugRequest, Expect, View, ViewRequest, is_script_request}
use Rattle.debug_lines.specs.Expectations.{ExpectRequest}
use Rattle.debug_modules.specs.Modes.{takes_over}
use Rattle.debug_session.specs.DebugScript.{debug_lines_answer, script_line_answer_by, simple_request_answer, unknown_answer}
use Rattle.debug_session.specs.DebugState.{DebugState}
use Rattle.debug_session.specs.Refusals.{BeginsAsInScript, GoesOnBehind}
use Rattle.debug_modules.specs.ReportForm.TheVariants.{Answers}
use Rattle.debug_session.specs.declared.session.DebugSettings.{DebugSettings}

-- Whether at most so many lines, and blocks between them, are those of a script, with a program in each
-- ASM block; and of these, how many lines take steps.
unfoldable pub are_script_lines : ℕ → List (List ℕ) → Bool
are_script_lines zero left = true
are_script_lines (suc more) [] = true
are_script_lines (suc more) (line ∷ rest) = is_script_request (request_of line)
    && (is_assembled (request_of line) (block_lines rest)
    && are_script_lines more (lines_after (opens_block (request_of line)) rest))

unfoldable pub stepping_lines : ℕ → List (List ℕ) → ℕ
stepping_lines zero left = 0
stepping_lines (suc more) [] = 0
stepping_lines (suc more) (line ∷ rest) = (if takes_steps (request_of line) then 1 else 0)
    + stepping_lines more (lines_after (opens_block (request_of line)) rest)

-- Where no modes are set, and no block had errors, as when a session begins, the answers to lines of a script alone, of which
-- one at most takes steps and whose ASM blocks have programs, are the script's. (Each line may take the
-- whole budget, where all lines of a script have one budget together.)
abbrev pub ScriptAsBefore : Type 0
ScriptAsBefore = (c : DebugSettings) (number : ℕ) (d : DebugState) (left : List (List ℕ))
    → c.form ≡ Answers → d.has_quit ≡ false → takes_over d.modes ≡ false → d.failed ≡ [] → d.script.left ≡ c.budget
    → are_script_lines (length left) left ≡ true → stepping_lines (length left) left ≤ 1
    → (debug_lines_answer c number d left).text ≡ (lines_answer number d.script None left).text

-- Views and EXPECT leave all that a script works on as it is.
pub record LooksOnly (c : DebugSettings) (d : DebugState) (number : ℕ) (words : List ℕ)
    (block : List (List ℕ)) (request : DebugRequest) : Type 0 where
  pub script : (simple_request_answer c d number words request block).state.script ≡ d.script

pub record LookingChangesNothing (c : DebugSettings) (d : DebugState) (number : ℕ) (words : List ℕ)
    (block : List (List ℕ)) : Type 0 where
  pub shown : (view : ViewRequest) → LooksOnly c d number words block (View view)
  pub expected : (e : ExpectRequest) → LooksOnly c d number words block (Expect e)

abbrev pub LookingLeavesTheMachine : Type 0
LookingLeavesTheMachine = (c : DebugSettings) (d : DebugState) (number : ℕ) (words : List ℕ)
    (block : List (List ℕ)) → LookingChangesNothing c d number words block

-- A line that means nothing to either is answered as a script answers it, and then comes the reason.
abbrev pub LineRefusedAsBefore : Type 0
LineRefusedAsBefore = (c : DebugSettings) (d : DebugState) (number : ℕ) (words : List ℕ) → c.form ≡ Answers
    → BeginsAsInScript number (unknown_answer c d number words).text

-- So is a line of a script, and behind the answer to a block that is refused come its errors.
abbrev pub BlockAnsweredAsBefore : Type 0
BlockAnsweredAsBefore = (c : DebugSettings) (d : DebugState) (number : ℕ) (request : Request)
    (reported : Answered)
    (block : List (List ℕ)) → c.form ≡ Answers
    → GoesOnBehind reported.text (script_line_answer_by c d number request reported block).text

abbrev pub RefusedAsBefore : Type 0
RefusedAsBefore = LineRefusedAsBefore × BlockAnsweredAsBefore
