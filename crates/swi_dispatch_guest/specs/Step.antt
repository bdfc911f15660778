-- One step of the machine: an instruction, or a store call. A fault changes nothing but that the
-- machine is halted with it.
use Rattle.std.specs.Prelude.{◌≡◌, ℕ, Bool, true, false, ◌+◌, ◌-◌, ◌%◌, ◌^◌, ◌==◌, Option, Some, None, ok_or, Result, Ok, Err, List, length, ◌++◌, ◌∷◌, [], if◌then◌else◌}
use Rattle.profile.specs.ErrorNumber.{ErrorNumber}
use Rattle.profile.specs.ErrorNumber.TheVariants.{BadString, FrameLimit, SwiUnknown}
use Rattle.profile.specs.declared.swi.SwiName.{SwiName}
use Rattle.profile.specs.declared.swi.SwiName.TheVariants as swi
use Rattle.profile.specs.SwiNames.{swi_of}
use Rattle.profile.specs.Reasons.{module_reason}
use Rattle.profile.specs.declared.reason.ModuleReason.{ModuleReason}
use Rattle.profile.specs.declared.reason.ModuleReason.TheVariants as reason
use Rattle.profile.specs.Outcome.{bind}
use Rattle.profile.specs.Word.{bit_of}
use Rattle.os_heap.specs.Bytes.{Bytes}
use Rattle.arm_run.specs.StepEnd.{StepEnd}
use Rattle.arm_run.specs.StepEnd.TheVariants as turn
use Rattle.arm_run.specs.State.{State, register_of}
use Rattle.arm_run.specs.Step.{result_of_step}
use Rattle.os_heap.specs.Store.{owned_in}
use Rattle.swi_dispatch_plans.specs.Entries.{Entry}
use Rattle.swi_dispatch_plans.specs.Plans.{Plan}
use Rattle.swi_dispatch_plans.specs.Call.{Call}
use Rattle.swi_dispatch_plans.specs.FrameKind.TheVariants.{Swi}
use Rattle.swi_dispatch_plans.specs.Entering.{swi_entered}
use Rattle.swi_dispatch_plans.specs.Frames.{frame_of}
use Rattle.swi_dispatch_guest.specs.declared.halt.Halt.{Halt}
use Rattle.swi_dispatch_guest.specs.declared.halt.Halt.TheVariants as halt
use Rattle.swi_dispatch_plans.specs.Handler.{Handler}
use Rattle.swi_dispatch_plans.specs.Lookup.{handler_of}
use Rattle.swi_dispatch_plans.specs.Refusal.{Refusal}
use Rattle.swi_dispatch_plans.specs.Refusal.TheVariants as refusal
use Rattle.swi_dispatch_plans.specs.declared.openings.Opening.{Opening}
use Rattle.swi_dispatch_guest.specs.MachineState.{MachineState, StepOutcome, silent, setting_of, with_memory, with_module_state}
use Rattle.swi_dispatch_plans.specs.ModulePlans.{clear_planned, delete_planned, reinit_planned, tidy_planned}
use Rattle.swi_dispatch_plans.specs.ImagePlans.{instantiation_planned}
use Rattle.swi_dispatch_plans.specs.Openings.{opening_asked}
use Rattle.swi_dispatch_guest.specs.ModuleStart.{module_opened}
use Rattle.swi_dispatch_plans.specs.Words.{host_string}
use Rattle.swi_dispatch_guest.specs.Additions.{Planned, copy_planned, insertion_planned, load_planned, named_load_planned, plan_alone}
use Rattle.swi_dispatch_guest.specs.Answers.{Answer, refusal_answer}
use Rattle.swi_dispatch_guest.specs.Calls.{call_answer}
use Rattle.swi_dispatch_guest.specs.Gates.{carried_on, state_after_plan, outcome_of_gate}
use Rattle.swi_dispatch_guest.specs.Returns.{outcome_of_error, error_answered, gone_back, outcome_of_halt}

-- An instruction changes memory, and no list.
abbrev pub moved_on : MachineState → State × Bytes → StepOutcome
moved_on s w = silent (record s { cpu = w.0; store = with_memory s.store w.1 })

-- The number of a store call without its X bit, which is bit 17 (RISC OS 3 Programmer's Reference
-- Manual, "An introduction to SWIs").
abbrev pub without_x : ℕ → ℕ
without_x n = if bit_of n 17 then n - 2 ^ 17 else n

abbrev pub outcome_of_end : MachineState → Bool → Answer → Option Refusal → StepOutcome
outcome_of_end s x a None = record a.left { now = gone_back s.cpu.psr a.left.now false a.next }
outcome_of_end s x a (Some e) = outcome_of_error s x (error_answered s.cpu.psr a.left a.next e)

abbrev pub outcome_of_answer : MachineState → Bool → Answer → StepOutcome
outcome_of_answer s x a = outcome_of_end s x a a.error

-- OS_Exit ends the guest, and leaves all as it is.
abbrev pub is_exit : Option SwiName → Bool
is_exit (Some swi.Exit) = true
is_exit _ = false

-- A SWI of a module: its handler is entered in a frame.
abbrev pub handler_entered : MachineState → Call → ℕ → Handler → MachineState
handler_entered s call number h = record s {
  cpu = swi_entered s.cpu h.at number h.slot;
  tables = record s.tables { frames = s.tables.frames ++ frame_of s.cpu call (Swi number) h.slot ∷ [] };
}

-- what the end of a call needs to know of its start; `enters` says whether a module that it loads
-- is entered then
abbrev pub call_of : MachineState → Bool → ℕ → Bool → Call
call_of s x next enters = record { is_x = x; caller = s.cpu.psr; next = next; enters = enters }

abbrev pub call_refused : MachineState → Bool → ℕ → ErrorNumber → StepOutcome
call_refused s x next e = outcome_of_answer s x (refusal_answer s next (refusal.System e))

abbrev pub outcome_of_module_swi : MachineState → Bool → ℕ → ℕ → Option Handler → StepOutcome
outcome_of_module_swi s x next number None = call_refused s x next SwiUnknown
outcome_of_module_swi s x next number (Some h) =
    if length s.tables.frames == 32 then call_refused s x next FrameLimit else
    silent (handler_entered s (call_of s x next false) number h)

-- OS_Module 2: the call goes back, and then the module is entered.
abbrev pub module_entered : MachineState → Bool → ℕ → Result Opening ErrorNumber → StepOutcome
module_entered s x next (Err e) = call_refused s x next e
module_entered s x next (Ok o) = silent (module_opened (gone_back s.cpu.psr s false next) o)

-- A call that may run module code begins, if nothing refuses it.
unfoldable pub outcome_of_planned : MachineState → Bool → ℕ → Bool → Result Planned ErrorNumber → StepOutcome
outcome_of_planned s x next enters (Err e) = call_refused s x next e
outcome_of_planned s x next enters (Ok w) = silent (carried_on (with_module_state s w.module_state)
    (call_of s x next enters) w.plan)

-- a call that has done something at once, or is refused
abbrev pub outcome_of_plan : MachineState → Call → Result (Option Plan) ErrorNumber → StepOutcome
outcome_of_plan s call (Err e) = call_refused s call.is_x call.next e
outcome_of_plan s call (Ok ended) = silent (state_after_plan s call ended)

-- with what a call on instances that are there is to do
abbrev pub begun_alone : MachineState → Bool → ℕ → Result Plan ErrorNumber → StepOutcome
begun_alone s x next r = outcome_of_planned s x next false (bind r (λ p. Ok (plan_alone s p)))

-- OS_Module, by its reason in R0: where no module code is to run, and where there is no such
-- reason, it is a call as any other.
abbrev pub os_module_called_for : List Entry → MachineState → Bool → ℕ → ℕ → Option ModuleReason → StepOutcome
os_module_called_for images s x next number (Some reason.Run) =
    outcome_of_planned s x next true (named_load_planned images s true)
os_module_called_for images s x next number (Some reason.Load) =
    outcome_of_planned s x next false (named_load_planned images s false)
os_module_called_for images s x next number (Some reason.Enter) =
    module_entered s x next (opening_asked (setting_of s))
os_module_called_for images s x next number (Some reason.Reinit) =
    begun_alone s x next (reinit_planned (setting_of s))
os_module_called_for images s x next number (Some reason.Delete) =
    begun_alone s x next (delete_planned (setting_of s))
os_module_called_for images s x next number (Some reason.Tidy) =
    begun_alone s x next (tidy_planned (setting_of s) next)
os_module_called_for images s x next number (Some reason.Clear) =
    begun_alone s x next (clear_planned (setting_of s))
os_module_called_for images s x next number (Some reason.Insert) =
    outcome_of_planned s x next false (insertion_planned s)
os_module_called_for images s x next number (Some reason.InsertCopy) =
    outcome_of_planned s x next false (copy_planned s)
os_module_called_for images s x next number (Some reason.Instantiate) =
    begun_alone s x next (instantiation_planned (setting_of s))
os_module_called_for images s x next number other = outcome_of_answer s x
    (call_answer s next number (Some swi.Module))

unfoldable pub os_module_called : List Entry → MachineState → Bool → ℕ → ℕ → StepOutcome
os_module_called images s x next number = os_module_called_for images s x next number
    (module_reason (register_of s.cpu 0))

-- A call without a name is looked for among the modules.
abbrev pub called_by : List Entry → MachineState → Bool → ℕ → ℕ → Option SwiName → StepOutcome
called_by images s x next number None = outcome_of_module_swi s x next number
    (handler_of number s.tables.modules)
called_by images s x next number (Some swi.Module) = os_module_called images s x next number
called_by images s x next number (Some name) = outcome_of_answer s x (call_answer s next number (Some name))

unfoldable pub outcome_of_call : List Entry → MachineState → Bool → ℕ → ℕ → StepOutcome
outcome_of_call images s x next number =
    if is_exit (swi_of number) then outcome_of_halt s halt.Exit
    else called_by images s x next number (swi_of number)

-- a call by an instruction: the guest goes on after it
abbrev pub swi_called : List Entry → MachineState → ℕ → StepOutcome
swi_called images s n = outcome_of_call images s (bit_of n 17) ((s.cpu.pc + 4) % 2 ^ 26) (without_x n)

-- What a turn of the core asks of the machine.
abbrev pub turn_end : List Entry → MachineState → StepEnd → StepOutcome
turn_end images s turn.Done = silent s
turn_end images s (turn.Swi n) = swi_called images s n
turn_end images s turn.Gate = outcome_of_gate s
turn_end images s (turn.Fault f) = outcome_of_halt s (halt.Fault f)

-- the core's part of a step, and then what it asks for
abbrev pub outcome_of_turn : List Entry → MachineState → Result (State × Bytes) StepEnd → StepOutcome
outcome_of_turn images s (Ok w) = moved_on s w
outcome_of_turn images s (Err t) = turn_end images s t

-- what the core's part of a step leaves: on another turn than Done nothing is changed
abbrev pub Turned : MachineState → Result (State × Bytes) StepEnd → StepEnd → MachineState → Type 0
Turned s (Ok w) t s' = (t ≡ turn.Done) × (s' ≡ (moved_on s w).now)
Turned s (Err e) t s' = (t ≡ e) × (s' ≡ s)

-- The instruction at the program counter; the words that the heaps spell are owned.
abbrev pub result_of_instruction : MachineState → Result (State × Bytes) StepEnd
result_of_instruction s = result_of_step (owned_in s.store) s.cpu s.store.bytes

abbrev pub unless_halted : MachineState → Option Halt → StepOutcome → StepOutcome
unless_halted s (Some h) a = silent s
unless_halted s None a = a

-- A halted machine stays as it is. A step is a function of the machine and the images.
unfoldable pub machine_step : List Entry → MachineState → StepOutcome
machine_step images s = unless_halted s s.halt (outcome_of_turn images s (result_of_instruction s))

-- A store call that a user makes from outside acts as one with the X bit, at the present program
-- counter; bits 31 to 24 of its number and its X bit are left out.
unfoldable pub store_called : List Entry → MachineState → ℕ → StepOutcome
store_called images s number = unless_halted s s.halt (outcome_of_call images s true s.cpu.pc
    (without_x (number % 2 ^ 24)))

-- A module that a user loads from outside: as reason 1 of OS_Module with the X bit does, at the
-- present program counter, with these words for the string.
unfoldable pub module_loaded : List Entry → MachineState → List ℕ → StepOutcome
module_loaded images s text = unless_halted s s.halt (outcome_of_planned s true s.cpu.pc false
    (bind (ok_or (host_string text) BadString) (λ words. load_planned images s words false)))
