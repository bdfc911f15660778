-- What lines are answered that enter the code of modules, and what they leave.
use Rattle.std.specs.Prelude.{◌≡◌, ℕ, ◌&&◌, ◌++◌, is_some, codes, List, [], Option, Some, None, Result, Ok, Err, if◌then◌else◌}
use Rattle.std.specs.Option.{option_map, option_or}
use Rattle.profile.specs.FaultNames.{fault_name}
use Rattle.profile.specs.Fault.{Fault}
use Rattle.profile.specs.images.Entries.{Entry, bytes_of_image}
use Rattle.debug_modes.specs.Answers.{refused_text}
use Rattle.debug_modes.specs.MachineState.{MachineState}
use Rattle.debug_modes.specs.Memory.{script_with_budget}
use Rattle.debug_modes.specs.State.{ScriptState}
use Rattle.debug_history.specs.Noted.{has_returned, past_with_deed}
use Rattle.debug_history.specs.Past.{PastState}
use Rattle.debug_history.specs.declared.act.PastDeed.TheVariants.{Bytes}
use Rattle.debug_runs.specs.Images.{image_place}
use Rattle.debug_runs.specs.Labels.{ImageLabels}
use Rattle.debug_runs.specs.ImagePlace.{ImagePlace}
use Rattle.debug_listing.specs.Places.{naming_on}
use Rattle.debug_listing.specs.SourceListing.{listing_text}
use Rattle.debug_modes.specs.Changes.{ModeAnswer, why_line_answer}
use Rattle.debug_modes.specs.declared.modes.DebugModes.{DebugModes}
use Rattle.debug_modes.specs.expectations.Why.{why_text}
use Rattle.debug_listing.specs.Put.{script_after_put}
use Rattle.debug_listing.specs.Comparing.{images_compared}
use Rattle.debug_listing.specs.Describing.{module_described, module_meant}
use Rattle.debug_modules.specs.Entering.{module_code_entered}
use Rattle.debug_listing.specs.Listing.{commands_text}
use Rattle.debug_modules.specs.Plans.{command_plan, tail_address, tail_bytes}
use Rattle.debug_listing.specs.Requests.{Command, Commands, Compare, Description, Explain, Form, Listing, ModuleAsked, ModuleView, Service, module_request}
use Rattle.debug_modules.specs.Services.{is_served, service_called}
use Rattle.debug_modules.specs.Taking.{LineSteps}
use Rattle.debug_modules.specs.declared.answering.ModuleAnswer.{ModuleAnswer}
use Rattle.debug_modules.specs.declared.answering.ModuleAnswer.TheVariants.{Shown, Entered}
use Rattle.debug_modules.specs.declared.entering.ModuleEntry.{ModuleEntry}

-- what is shown: a text where nothing was done, or of steps what they left, what the guest printed, and the
-- line's usual ending
pub data ModuleShown : Type 0 where
  Text : List ℕ → ModuleShown
  Steps : List ℕ → List ℕ → List ℕ → ModuleShown

abbrev pub shown_of : ModuleAnswer → ModuleShown
shown_of (Shown text) = Text text.items
shown_of (Entered a) = Steps a.text.items a.printed.items a.ending.items

pub record ModuleAnswered : Type 0 where
  pub script : ScriptState
  pub modes : DebugModes
  pub past : PastState
  pub shown : ModuleShown

-- a line that does nothing
abbrev pub only_shown : DebugModes → ScriptState → PastState → List ℕ → ModuleAnswered
only_shown m s p text = record { script = s; modes = m; past = p; shown = Text text }

-- a line that took steps
abbrev pub entered_so : LineSteps → ModuleAnswered
entered_so t = record {
  script = t.script;
  modes = t.modes;
  past = t.past;
  shown = Steps t.text t.printed t.ending;
}

-- COMMAND

-- the error of code that has gone back with V set, as WHY shows it
abbrev pub code_error_text : MachineState → List ℕ → List ℕ
code_error_text s ended = if s.cpu.psr.overflow && has_returned ended then why_text s.cpu s.store.bytes else []

abbrev pub error_below : LineSteps → LineSteps
error_below t = record t { ending = t.ending ++ code_error_text t.script.machine t.ending }

-- its code is entered, with the whole budget
abbrev pub command_called : DebugModes → List ImageLabels → ℕ → ScriptState → PastState → ℕ → ModuleEntry
    → LineSteps
command_called m labels budget s p number e =
    error_below (module_code_entered m labels (script_with_budget s budget) p number e)

-- the tail is written to memory before that
abbrev pub command_put_by : DebugModes → List ImageLabels → ℕ → ScriptState → PastState → ℕ → ModuleEntry
    → List ℕ → Result ScriptState Fault → ModuleAnswered
command_put_by m labels budget s p number e bytes (Ok now) =
    entered_so (command_called m labels budget now (past_with_deed p number (Bytes tail_address bytes)) number e)
command_put_by m labels budget s p number e bytes (Err fault) = only_shown m s p (refused_text (fault_name fault))

abbrev pub command_put : DebugModes → List ImageLabels → ℕ → ScriptState → PastState → ℕ → ModuleEntry → List ℕ
    → ModuleAnswered
command_put m labels budget s p number e bytes =
    command_put_by m labels budget s p number e bytes (script_after_put s tail_address bytes)

abbrev pub command_by : DebugModes → List ImageLabels → ℕ → ScriptState → PastState → ℕ → List ℕ
    → Result ModuleEntry (List ℕ) → ModuleAnswered
command_by m labels budget s p number tail (Ok e) = command_put m labels budget s p number e (tail_bytes tail)
command_by m labels budget s p number tail (Err text) = only_shown m s p text

abbrev pub command_answered : DebugModes → List ImageLabels → ℕ → ScriptState → PastState → ℕ → List ℕ → List ℕ
    → ModuleAnswered
command_answered m labels budget s p number name tail =
    command_by m labels budget s p number tail (command_plan s.machine name tail)

-- SERVICE

abbrev pub service_answered : DebugModes → List ImageLabels → ℕ → ScriptState → PastState → ℕ → ℕ → List ℕ
    → ModuleAnswered
service_answered m labels budget s p number service title =
    if is_some s.machine.halt then only_shown m s p (refused_text (codes "Halted")) else (
    if is_served s.machine.tables.modules title
    then entered_so (service_called m labels budget s p number service title)
    else only_shown m s p (refused_text (codes "NoModule")))

-- WHY ON, WHY OFF

-- a line that changes modes
abbrev pub mode_shown : ScriptState → PastState → ModeAnswer → ModuleAnswered
mode_shown s p a = only_shown a.modes s p a.text

-- ALL LINES

-- what is only shown
abbrev pub view_shown : DebugModes → List ImageLabels → List Entry → ScriptState → ModuleView → List ℕ
view_shown m labels sources s Commands = commands_text s.machine
view_shown m labels sources s (Listing name) =
    listing_text m.counts (bytes_of_image s.images name) (bytes_of_image sources name)
    (option_map (λ (p : ImagePlace). p.start) (image_place (naming_on labels s.machine) name))
view_shown m labels sources s (Compare one other) = images_compared s.images one other
view_shown m labels sources s (Description d) = module_described s.machine.store.bytes d

abbrev pub module_answered : DebugModes → List ImageLabels → List Entry → ℕ → ScriptState → PastState → ℕ
    → ModuleAsked → ModuleAnswered
module_answered m labels sources budget s p number (Command name tail) =
    command_answered m labels budget s p number name tail
module_answered m labels sources budget s p number (Service service title) =
    service_answered m labels budget s p number service title
module_answered m labels sources budget s p number (Explain is_on) = mode_shown s p (why_line_answer m is_on)
module_answered m labels sources budget s p number (Form view) =
    only_shown m s p (view_shown m labels sources s view)

-- what a line asks for: HELP and the title of a loaded module asks for what that says of itself
abbrev pub module_line_asked : MachineState → List ℕ → Option ModuleAsked
module_line_asked s line = option_or (module_request line) (option_map (λ m. Form (Description m)) (module_meant s line))

-- what such a line is answered, and nothing of any other
abbrev pub module_line_answered : DebugModes → List ImageLabels → List Entry → ℕ → ScriptState → PastState → ℕ
    → List ℕ → Option ModuleAnswered
module_line_answered m labels sources budget s p number line =
    option_map (module_answered m labels sources budget s p number) (module_line_asked s.machine line)

-- what a line leaves that may be such a line
abbrev pub script_after_modules : ScriptState → Option ModuleAnswered → ScriptState
script_after_modules s (Some a) = a.script
script_after_modules s None = s

abbrev pub modes_after_modules : DebugModes → Option ModuleAnswered → DebugModes
modes_after_modules m (Some a) = a.modes
modes_after_modules m None = m

abbrev pub past_after_modules : PastState → Option ModuleAnswered → PastState
past_after_modules p (Some a) = a.past
past_after_modules p None = p

-- a line left this
pub record IsModuleAnswered (a : ModuleAnswered) (now : ScriptState) (kept_modes : DebugModes)
    (kept_past : PastState) (answer : ModuleShown) : Type 0 where
  pub script : now ≡ a.script
  pub modes : kept_modes ≡ a.modes
  pub past : kept_past ≡ a.past
  pub shown : answer ≡ a.shown
