-- LAST STEPS: the steps that were taken last, as TRACE shows them. What was done to the machine since it was made
-- is done again on another one, and of the last steps there is what TRACE RUN, CALL and LOAD show of them.
use Rattle.std.specs.Prelude.{ℕ, ◌-◌, ◌++◌, is_some, List, [], ◌∷◌, codes, Option, Some, None, if◌then◌else◌}
use Rattle.profile.specs.declared.stop.Stop.TheVariants.{Budget}
use Rattle.debug_tables.specs.Answers.{refused_text}
use Rattle.debug_tables.specs.State.{ScriptState, script_start_state}
use Rattle.debug_modules.specs.Labels.{ImageLabels}
use Rattle.command_shell_lines.specs.declared.debug_words.stubs.Stub.{Stub}
use Rattle.debug_lines.specs.SteppingRequests.{SteppingRequest}
use Rattle.debug_modules.specs.Acts.{PastMoment, count_if, fresh_moment, is_anew, moment_after_deed, moment_after_steps, moment_of_script, steps_behind, steps_of_acts, steps_of_deed, stubs_of_deed}
use Rattle.debug_modules.specs.Noted.{is_faulted}
use Rattle.debug_modules.specs.Act.{Act}
use Rattle.debug_modules.specs.PastDeed.{PastDeed}
use Rattle.debug_modules.specs.Lines.{SteppingAnswer, stepping_answer}
use Rattle.debug_session.specs.DebugState.{DebugState}
use Rattle.debug_session.specs.declared.session.DebugSettings.{DebugSettings}
use Rattle.debug_tables.specs.declared.modes.StepModes.{StepModes}

abbrev pub script_at_past : ScriptState → PastMoment → ScriptState
script_at_past s m = record s { machine = m.machine; is_fresh = m.is_fresh }

-- stubs, and no watch
abbrev pub modes_with_stubs : List Stub → StepModes
modes_with_stubs stubs = record { stubs = stubs; watches = [] }

-- a script whose machine is at a moment, and that may take so many steps
abbrev pub script_to_trace : ScriptState → PastMoment → ℕ → ScriptState
script_to_trace s m count = record s {
  machine = m.machine;
  is_fresh = m.is_fresh;
  left = count;
  last = Some Budget;
}

-- a traced line that may take so many steps with these stubs, all of which are shown
abbrev pub steps_shown : List Stub → List ImageLabels → ScriptState → ℕ → SteppingRequest → SteppingAnswer
steps_shown stubs labels s count request = stepping_answer (modes_with_stubs stubs) labels (Some count)
    (script_to_trace s (moment_of_script s) count) request

-- what is shown of so many steps of a line, behind so many that are taken in the same modes
abbrev pub steps_shown_behind : StepModes → List ImageLabels → ScriptState → ℕ → ℕ → SteppingRequest → SteppingAnswer
steps_shown_behind modes labels s skipped count request = stepping_answer modes labels (Some count)
    (script_to_trace s (moment_after_steps modes.stubs s.images skipped (moment_of_script s)) count) request

abbrev pub text_of_steps : List Stub → List ImageLabels → ScriptState → Option (SteppingRequest × ℕ) → List ℕ
text_of_steps stubs labels s None = []
text_of_steps stubs labels s (Some taken) = (steps_shown stubs labels s taken.1 taken.0).text

-- of the steps of a deed, but for the first so many; a halted machine takes none
abbrev pub text_of_deed : List ImageLabels → ScriptState → ℕ → PastDeed → PastMoment → List ℕ
text_of_deed labels s skipped deed m = if is_some m.machine.halt then []
    else text_of_steps (stubs_of_deed deed) labels
    (script_at_past s (moment_after_steps (stubs_of_deed deed) s.images skipped m)) (steps_behind skipped deed)

-- what is shown so far, and of a deed more; of a machine in whose place another was made nothing is shown
abbrev pub text_with_deed : List ImageLabels → ScriptState → ℕ → PastDeed → PastMoment → List ℕ → List ℕ
text_with_deed labels s skipped deed m text =
    if is_anew deed then [] else text ++ text_of_deed labels s skipped deed m

-- of the steps of some acts, but for the first so many
unfoldable pub text_of_acts : List ImageLabels → ScriptState → ℕ → List Act → PastMoment → List ℕ → List ℕ
text_of_acts labels s skipped [] m text = text
text_of_acts labels s skipped (act ∷ rest) m text =
    text_of_acts labels s (skipped - steps_of_deed act.deed) rest
    (moment_after_deed s.images s.sizes act.deed m) (text_with_deed labels s skipped act.deed m text)

-- of the last so many; a step that ended in a fault and left the machine halted is one of these, though it isn't
-- counted
abbrev pub last_steps_text : DebugSettings → DebugState → ℕ → List ℕ
last_steps_text c d count =
    text_of_acts d.labels (script_start_state c.config d.script.images 0)
    (steps_of_acts d.past.acts - (count - count_if (is_faulted d.script.machine.halt)))
    d.past.acts (fresh_moment c.config) []

abbrev pub text_or_refused : List ℕ → List ℕ
text_or_refused [] = refused_text (codes "NoHistory")
text_or_refused (byte ∷ text) = byte ∷ text

abbrev pub last_steps_answer : DebugSettings → DebugState → ℕ → List ℕ
last_steps_answer c d count = text_or_refused (last_steps_text c d count)
