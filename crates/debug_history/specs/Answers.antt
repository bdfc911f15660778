-- What lines are answered that have to do with the past, and what they leave.
use Rattle.std.specs.Option.{option_map, option_or}
use Rattle.std.specs.Prelude.{ℕ, ◌≡◌, Bool, true, false, ◌&&◌, ◌-◌, ◌++◌, nat_le, List, Option, Some, None, if◌then◌else◌}
use Rattle.profile.specs.Sizes.{Sizes}
use Rattle.debug_tables.specs.State.{ScriptState}
use Rattle.debug_labels.specs.Labels.{ImageLabels}
use Rattle.debug_labels.specs.Lines.{line_with_numbers}
use Rattle.debug_labels.specs.place_views.Places.{line_naming_on, where_text}
use Rattle.debug_tables.specs.MachineState.{MachineState}
use Rattle.debug_history.specs.Lines.{past_line}
use Rattle.debug_history.specs.Acts.{fresh_moment, steps_of_acts}
use Rattle.debug_history.specs.Again.{script_at_moment}
use Rattle.debug_history.specs.Past.{PastState, line_of_last_act, moment_after_past, past_before_line, past_until}
use Rattle.debug_history.specs.Search.{last_found, units}
use Rattle.command_shell_lines.specs.debug_words.PastTexts.{no_history_text, text_with_step, undone_text, when_text}
use Rattle.debug_history.specs.Texts.{last_seen_text, not_there_text}
use Rattle.debug_history.specs.declared.lines.PastCommand.{PastCommand}
use Rattle.debug_history.specs.declared.lines.PastCommand.TheVariants.{Back, BackTo, BackUntil, Last, Undo, When}
use Rattle.debug_history.specs.declared.search.PastFound.{PastFound}
use Rattle.debug_history.specs.declared.search.Sought.{Sought}
use Rattle.debug_history.specs.declared.search.Sought.TheVariants as sought

pub record PastAnswered : Type 0 where
  pub script : ScriptState
  pub past : PastState
  pub text : List ℕ

-- the session, its past and the text are those that a line leaves
abbrev pub IsPastAnswered : PastAnswered → ScriptState → PastState → List ℕ → Type 0
IsPastAnswered a s p text = (s ≡ a.script) × (p ≡ a.past) × (text ≡ a.text)

-- a line that changes nothing
abbrev pub past_shown : ScriptState → PastState → List ℕ → PastAnswered
past_shown s p text = record { script = s; past = p; text = text }

-- the machine as it was before the step of that number, or is to be
abbrev pub past_gone_back : List ImageLabels → Sizes → ℕ → ScriptState → PastState → ℕ → PastAnswered
past_gone_back labels sizes budget s p step =
    let now = script_at_moment s sizes budget (moment_after_past s.images sizes (past_until step p)) in
    record { script = now; past = past_until step p; text = text_with_step (where_text labels now.machine) step }

-- where it isn't known that so many steps were counted, or lie ahead, nothing is changed
abbrev pub back_to : List ImageLabels → Sizes → ℕ → ScriptState → PastState → ℕ → PastAnswered
back_to labels sizes budget s p step = if nat_le step (steps_of_acts (p.acts ++ p.ahead))
    then past_gone_back labels sizes budget s p step else past_shown s p no_history_text

abbrev pub back_by : List ImageLabels → Sizes → ℕ → ScriptState → PastState → ℕ → PastAnswered
back_by labels sizes budget s p count = if nat_le count (steps_of_acts p.acts)
    then past_gone_back labels sizes budget s p (steps_of_acts p.acts - count) else past_shown s p no_history_text

-- the last of what was done that is what is sought
abbrev pub last_in_past : Sizes → ScriptState → PastState → Sought → Option PastFound
last_in_past sizes s p x = last_found s.images sizes x (fresh_moment sizes) 0 (units p.acts)

abbrev pub back_until : List ImageLabels → Sizes → ℕ → ScriptState → PastState → Option PastFound → PastAnswered
back_until labels sizes budget s p (Some f) = past_gone_back labels sizes budget s p f.step
back_until labels sizes budget s p None = past_shown s p not_there_text

-- the machine as the last line that did something found it
abbrev pub undone : Sizes → ℕ → ScriptState → PastState → Option ℕ → PastAnswered
undone sizes budget s p (Some line) = let q = past_before_line line p in
    record {
      script = script_at_moment s sizes budget (moment_after_past s.images sizes q);
      past = q;
      text = undone_text line (steps_of_acts q.acts);
    }
undone sizes budget s p None = past_shown s p no_history_text

-- where the past is known
abbrev pub past_asked : List ImageLabels → Sizes → ℕ → ScriptState → PastState → PastCommand → PastAnswered
past_asked labels sizes budget s p (Back count) = back_by labels sizes budget s p count
past_asked labels sizes budget s p (BackTo step) = back_to labels sizes budget s p step
past_asked labels sizes budget s p (BackUntil address) =
    back_until labels sizes budget s p (last_in_past sizes s p (sought.Stood address))
past_asked labels sizes budget s p Undo = undone sizes budget s p (line_of_last_act p.acts)
past_asked labels sizes budget s p When =
    past_shown s p (when_text (steps_of_acts p.acts) (steps_of_acts (p.acts ++ p.ahead)))
past_asked labels sizes budget s p (Last x) =
    past_shown s p (last_seen_text x (steps_of_acts p.acts) (last_in_past sizes s p x))

abbrev pub past_answered : List ImageLabels → Sizes → ℕ → ScriptState → PastState → PastCommand → PastAnswered
past_answered labels sizes budget s p command = if p.is_kept
    then past_asked labels sizes budget s p command else past_shown s p no_history_text

-- What a tidy line asks for that has to do with the past: as it stands, or else with numbers in place of the
-- words that name places.
abbrev pub past_command : List ImageLabels → MachineState → List ℕ → Option PastCommand
past_command labels s line = let mode = s.cpu.psr.mode in
    option_or (past_line mode line) (past_line mode (line_with_numbers (line_naming_on labels s) line))

-- what such a line is answered, and nothing of any other
abbrev pub past_line_answered : List ImageLabels → Sizes → ℕ → ScriptState → PastState → List ℕ
    → Option PastAnswered
past_line_answered labels sizes budget s p line =
    option_map (past_answered labels sizes budget s p) (past_command labels s.machine line)

-- what a line leaves that may be such a line
abbrev pub script_after_past : ScriptState → Option PastAnswered → ScriptState
script_after_past s (Some a) = a.script
script_after_past s None = s

abbrev pub past_after_past : PastState → Option PastAnswered → PastState
past_after_past p (Some a) = a.past
past_after_past p None = p
