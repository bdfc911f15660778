-- What is shown of the steps of a line. Of an untraced line it is what they print. Of a traced line so
-- many steps are shown at most, and of the others what they print alone.
use Rattle.std.specs.Prelude.{ℕ, Bool, false, ◌-◌, ◌/◌, ◌==◌, nat_lt, length, List, [], ◌++◌, codes, Option, Some, None, option_and_then, option_map, if◌then◌else◌}
use Rattle.std.specs.Fmt.{decimal}
use Rattle.address_map.specs.Bytes.{Bytes}
use Rattle.arm_core.specs.State.{State}
use Rattle.debug_labels.specs.Labels.{ImageLabels}
use Rattle.debug_labels.specs.Places.{LabelledPlace, place_of}
use Rattle.debug_labels.specs.place_views.Places.{naming_on}
use Rattle.debug_tables.specs.MachineState.{MachineState, StepOutcome}
use Rattle.trace_text.specs.Status.{following_word}
use Rattle.trace_text.specs.Cause.{cause_of}
use Rattle.trace_text.specs.TraceEffectsCause.{Cause}
use Rattle.trace_text.specs.Below.{prints_word}
use Rattle.trace_text.specs.Columns.{below_text, columns_text}
use Rattle.trace_text.specs.Core.{core_words}
use Rattle.trace_text.specs.Instruction.{branch_destination, front_text, what_text}
use Rattle.trace_text.specs.Step.{known_outside, step_end_text, step_text}
use Rattle.debug_lines.specs.Stub.{Stub}
use Rattle.debug_tables.specs.Stubs.{StubDeedState, deed_ahead}
use Rattle.trace_text.specs.Stored.{stored_below, stored_here, word_values_from}

-- `image:label:`, before a step at whose address a label stands
abbrev pub step_label_line : Option LabelledPlace → List ℕ
step_label_line None = []
step_label_line (Some place) = if place.offset == 0 then place.image ++
    (codes ":" ++ (place.label ++ codes ":\n")) else []

abbrev pub label_line_in : List ImageLabels → MachineState → List ℕ
label_line_in labels s = step_label_line (place_of (naming_on labels s) s.cpu.pc)

-- the label itself, where it stands at the place
abbrev pub label_itself : Option LabelledPlace → Option (List ℕ)
label_itself None = None
label_itself (Some place) = if place.offset == 0 then Some place.label else None

-- the label to which the branch goes that stands at the program counter
abbrev pub label_ahead : List ImageLabels → MachineState → Option (List ℕ)
label_ahead labels s =
    option_and_then (λ (target : ℕ). label_itself (place_of (naming_on labels s) target))
    (branch_destination s.cpu.pc (cause_of s.cpu s.store.bytes))

-- a step that a stub answers, with what it leaves in the core
abbrev pub stub_words : State → State → List ℕ
stub_words before after = codes " stub" ++ core_words (following_word before) before after

-- and in words of memory, by what stood in them
abbrev pub stub_line : State → Cause → State → Bytes → ℕ → List ℕ → List ℕ
stub_line before cause after b at olds =
    columns_text (front_text before.pc cause) (what_text before.pc cause)
    (stub_words before after ++ stored_here b at olds) ++ stored_below b at olds

abbrev pub stub_step_text : StubDeedState → MachineState → MachineState → List ℕ
stub_step_text deed s now = stub_line s.cpu (cause_of s.cpu s.store.bytes) now.cpu now.store.bytes deed.at
    (word_values_from s.store.bytes deed.at (length deed.bytes / 4))

-- all that can be shown of a step
abbrev pub text_by_stub : List ImageLabels → MachineState → StepOutcome → Option StubDeedState → List ℕ
text_by_stub labels s o (Some deed) = stub_step_text deed s o.now
text_by_stub labels s o None = step_text (label_ahead labels s) s o

abbrev pub whole_step_text : List Stub → List ImageLabels → MachineState → StepOutcome → List ℕ
whole_step_text stubs labels s o =
    label_line_in labels s ++ text_by_stub labels s o (deed_ahead stubs s)

-- a call from outside, before it is made, and behind it
abbrev pub call_text_behind : List ℕ → MachineState → StepOutcome → List ℕ
call_text_behind start s o = start ++ step_end_text (known_outside s) o

-- whether a step is shown, where so many are
abbrev pub is_step_shown : Option ℕ → Bool
is_step_shown None = false
is_step_shown (Some limit) = nat_lt 0 limit

-- what is shown of a step that isn't
abbrev pub untold_text : Option ℕ → List ℕ → List ℕ
untold_text None printed = printed
untold_text (Some limit) printed = below_text (prints_word printed)

-- what is shown of a step of which so much can be, and that prints this
abbrev pub answer_of_step : Option ℕ → List ℕ → List ℕ → List ℕ
answer_of_step reported whole printed = if is_step_shown reported then whole else untold_text reported printed

-- how many are shown after it
abbrev pub one_answer : Option ℕ → Option ℕ
one_answer reported = option_map (λ limit. limit - 1) reported

-- `.. 64540 steps more`, where so many were taken
abbrev pub more_text : Option ℕ → ℕ → List ℕ
more_text None taken = []
more_text (Some limit) taken =
    if nat_lt limit taken then codes ".. " ++ (decimal (taken - limit) ++ codes " steps more\n") else []
