-- The past of a debugging session is that of its machine, line by line; and what is kept of it changes no
-- answer but that of lines which go back or look into it.
use Rattle.std.specs.Prelude.{◌≡◌, ℕ, true, List, None}
use Rattle.debug_tables.specs.State.{ScriptState}
use Rattle.debug_modules.specs.DebugHistoryAnswers.{past_command}
use Rattle.debug_modules.specs.DebugHistoryLaws.{IsPastOf}
use Rattle.debug_modules.specs.DebugHistoryLines.{last_steps_asked}
use Rattle.debug_modules.specs.Past.{PastState}
use Rattle.debug_lines.specs.DebugRequests.{DebugRequest, NotKnown}
use Rattle.debug_session.specs.DebugScript.{simple_request_answer}
use Rattle.debug_session.specs.DebugState.{DebugAnswered, DebugState}
use Rattle.debug_session.specs.declared.session.DebugSettings.{DebugSettings}

-- a machine as it was made isn't halted
abbrev pub IsUnhaltedWhereFresh : ScriptState → Type 0
IsUnhaltedWhereFresh s = s.is_fresh ≡ true → s.machine.halt ≡ None

-- Where the past that a line finds is that of the machine, so is the past that it leaves.
abbrev pub PastIsOfTheMachine : Type 0
PastIsOfTheMachine = (c : DebugSettings) (d : DebugState) (number : ℕ) (words : List ℕ) (block : List (List ℕ))
    (request : DebugRequest) → IsUnhaltedWhereFresh d.script → IsPastOf d.script d.past
    → let now = (simple_request_answer c d number words request block).state in IsPastOf now.script now.past

-- the same answer, and the same state but for the past
pub record IsSameButPast (p : PastState) (a b : DebugAnswered) : Type 0 where
  pub text : a.text ≡ b.text
  pub state : record a.state { past = p } ≡ record b.state { past = p }

-- Whatever the past is, a line that doesn't go back nor looks into it is answered the same.
abbrev pub HistoryChangesNoAnswer : Type 0
HistoryChangesNoAnswer = (c : DebugSettings) (d : DebugState) (p : PastState) (number : ℕ) (words : List ℕ)
    (block : List (List ℕ)) (request : DebugRequest)
    → (request ≡ NotKnown → last_steps_asked words ≡ None × past_command d.labels d.script.machine words ≡ None)
    → IsSameButPast p (simple_request_answer c (record d { past = p }) number words request block)
    (simple_request_answer c d number words request block)
