-- What a debugging script works on, and what a line of it is answered.
use Rattle.std.specs.Prelude.{◌≡◌, ℕ, Bool, false, List, [], ◌++◌, Option}
use Rattle.std.specs.Io.KnownBytes.{Appends}
use Rattle.profile.specs.images.Entries.{Entry}
use Rattle.debug_tables.specs.State.{ScriptState, script_start_state}
use Rattle.debug_tables.specs.RunError.{RunError}
use Rattle.debug_tables.specs.RunError.TheVariants.{Memory, ReadFault, WriteFault, ScriptTooLong}
use Rattle.debug_modules.specs.Past.{PastState, past_from_start}
use Rattle.debug_modules.specs.Labels.{ImageLabels}
use Rattle.command_shell_lines.specs.FailedBlocks.{FailedBlockPlace}
use Rattle.debug_modules.specs.Modes.{no_modes}
use Rattle.debug_modules.specs.DebugModes.{DebugModes}
use Rattle.debug_modules.specs.Reports.{no_tally}
use Rattle.debug_modules.specs.CheckTally.{CheckTally}
use Rattle.debug_session.specs.declared.session.DebugSettings.{DebugSettings}

-- What a debugging script works on: what a script does, the labels of the images that were assembled, the texts
-- of their blocks by the images' names, the ASM blocks that had errors, the modes in which lines that take steps are answered, the last answer of a line that is no EXPECT,
-- without what the guest printed, what it printed in the last line that takes steps, how many steps that
-- took, the tally, whether QUIT was among the lines, and what was done to the machine.
pub record DebugState : Type 0 where
  pub script : ScriptState
  pub labels : List ImageLabels
  pub sources : List Entry
  pub failed : List FailedBlockPlace
  pub modes : DebugModes
  pub answer : List ℕ
  pub output : List ℕ
  pub steps : ℕ
  pub tally : CheckTally
  pub has_quit : Bool
  pub past : PastState

pub record DebugAnswered : Type 0 where
  pub state : DebugState
  pub text : List ℕ

abbrev pub debug_answer : DebugState → List ℕ → DebugAnswered
debug_answer d text = record { state = d; text = text }

-- A writer and a debugging script after an answer: what was written is its text, and the script
-- stands in its state.
pub record IsDebugged (before after : Option (List ℕ)) (now : DebugState) (reported : DebugAnswered) : Type
    0 where
  pub text : Appends before after reported.text
  pub state : now ≡ reported.state

-- an answer, and then those of the lines that follow
abbrev pub then_debugged : DebugAnswered → (DebugState → DebugAnswered) → DebugAnswered
then_debugged first next = record {
  state = (next first.state).state;
  text = first.text ++ (next first.state).text;
}

-- where a debugging script begins
abbrev pub debug_start_state : DebugSettings → List Entry → DebugState
debug_start_state setting images = record {
  script = script_start_state setting.config images setting.budget;
  labels = [];
  sources = [];
  failed = [];
  modes = no_modes;
  answer = [];
  output = [];
  steps = 0;
  tally = no_tally;
  has_quit = false;
  past = past_from_start setting.keeps_past;
}

-- while what is typed is answered
abbrev pub IsDebugTypingError : RunError → Type 0
IsDebugTypingError Memory = Unit {0}
IsDebugTypingError ReadFault = ⊥
IsDebugTypingError WriteFault = Unit {0}
IsDebugTypingError ScriptTooLong = Unit {0}
