-- A run of which the last steps are shown, once it has ended: of the steps before them stands what they
-- print alone, and how many they were.
use Rattle.std.specs.Prelude.{ℕ, zero, suc, ◌+◌, ◌-◌, ◌++◌, nat_lt, List, [], ◌∷◌, codes, drop, take, length, Option, Some, None, if◌then◌else◌}
use Rattle.std.specs.Fmt.{decimal}
use Rattle.std.specs.List.{flat_map}
use Rattle.debug_labels.specs.Labels.{ImageLabels}
use Rattle.debug_tables.specs.Calls.{step_made}
use Rattle.debug_tables.specs.State.{ScriptState}
use Rattle.trace_text.specs.Below.{prints_word}
use Rattle.trace_text.specs.Columns.{below_text}
use Rattle.debug_runs.specs.Runs.{SteppingRun, end_after, next_step, steps_run}
use Rattle.debug_runs.specs.TraceWriter.{whole_step_text}
use Rattle.debug_runs.specs.declared.running.RunEnd.{RunEnd}
use Rattle.debug_runs.specs.declared.running.RunGoal.TheVariants as goal
use Rattle.debug_tables.specs.declared.modes.StepModes.{StepModes}

-- all that can be shown of a step, and what it prints
pub record StepText : Type 0 where
  pub whole : List ℕ
  pub printed : List ℕ

-- of the step that a run takes next
abbrev pub text_of_step : StepModes → List ImageLabels → ScriptState → StepText
text_of_step modes labels s = (let o = next_step modes s in
    record { whole = whole_step_text modes.stubs labels s.machine o; printed = o.printed })

abbrev pub texts_unless : Option RunEnd → List StepText → List StepText
texts_unless (Some e) more = []
texts_unless None more = more

-- of each step of a run of so many at most, whose steps are those of `steps_run`
unfoldable pub texts_of_run : StepModes → List ImageLabels → ℕ → ScriptState → List StepText
texts_of_run modes labels zero s = []
texts_of_run modes labels (suc n) s = (let after = step_made s (next_step modes s) in
    text_of_step modes labels s
    ∷ texts_unless (end_after modes.watches goal.Nowhere s after) (texts_of_run modes labels n after))

-- what is shown of a step before the last ones
abbrev pub printed_line : StepText → List ℕ
printed_line t = below_text (prints_word t.printed)

abbrev pub whole_text : StepText → List ℕ
whole_text t = t.whole

-- `.. 64540 steps before`
abbrev pub steps_before_text : ℕ → List ℕ
steps_before_text before =
    if nat_lt 0 before then codes ".. " ++ (decimal before ++ codes " steps before\n") else []

-- what is shown where so many of some steps are shown whole
unfoldable pub last_answer : ℕ → List StepText → List ℕ
last_answer count texts = (let before = length texts - count in
    flat_map printed_line (take before texts)
    ++ (steps_before_text before ++ flat_map whole_text (drop before texts)))

-- a run of so many steps at most, of which so many are shown
abbrev pub last_run : StepModes → List ImageLabels → ℕ → ℕ → ScriptState → SteppingRun
last_run modes labels count most s = (let texts = texts_of_run modes labels most s in
    record (steps_run modes labels goal.Nowhere most None s) { text = last_answer count texts })

-- WHILE A RUN GOES ON

-- How many steps are shown, how many were taken before these, what is shown of those, and the steps that are
-- the last ones so far.
pub record LastState : Type 0 where
  pub count : ℕ
  pub before : ℕ
  pub untold : List ℕ
  pub steps : List StepText

abbrev pub no_last : ℕ → LastState
no_last count = record { count = count; before = 0; untold = []; steps = [] }

abbrev pub without_first : LastState → List StepText → LastState
without_first l [] = l
without_first l (t ∷ others) =
    record l { before = l.before + 1; untold = l.untold ++ printed_line t; steps = others }

-- the last ones alone
abbrev pub last_ones_of : LastState → LastState
last_ones_of l = if nat_lt l.count (length l.steps) then without_first l l.steps else l

-- one step more
abbrev pub with_step : LastState → StepText → LastState
with_step l t = last_ones_of (record l { steps = l.steps ++ (t ∷ []) })

unfoldable pub with_steps : LastState → List StepText → LastState
with_steps l [] = l
with_steps l (t ∷ others) = with_steps (with_step l t) others

-- what is shown of them
abbrev pub last_text : LastState → List ℕ
last_text l = l.untold ++ (steps_before_text l.before ++ flat_map whole_text l.steps)
