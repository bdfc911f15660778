-- Calls on modules whose code runs in between: how such a call begins, is carried on from one entry
-- of module code to the next, and ends; and the return gate, where module code comes back (RISC OS
-- 3 Programmer's Reference Manual, "Modules" and "OS_Module"; frames, the gate, and that a call
-- that gives its caller no error does nothing where there is one, are this project's own).
use Rattle.std.specs.Prelude.{◌≡◌, ℕ, Bool, true, false, ◌==◌, List, Option, Some, None, Result, Ok, Err, if◌then◌else◌}
use Rattle.profile.specs.ErrorNumber.{ErrorNumber}
use Rattle.profile.specs.Fault.TheVariants.{FetchUnmapped, ErrorStop, StackChanged}
use Rattle.arm_run.specs.Mode.TheVariants.{Supervisor}
use Rattle.arm_run.specs.State.{State, register_in}
use Rattle.swi_dispatch_plans.specs.Outcome.{Outcome as CodeOutcome}
use Rattle.swi_dispatch_plans.specs.Given.{Given}
use Rattle.swi_dispatch_plans.specs.Carrying.{Carried}
use Rattle.swi_dispatch_plans.specs.Plans.{Plan, plan_after_code}
use Rattle.swi_dispatch_plans.specs.ModuleState.{ModuleState}
use Rattle.swi_dispatch_plans.specs.Start.{Start}
use Rattle.swi_dispatch_plans.specs.Reading.{start_found}
use Rattle.swi_dispatch_plans.specs.Call.{Call}
use Rattle.swi_dispatch_plans.specs.Frame.{Frame}
use Rattle.swi_dispatch_plans.specs.FrameKind.{FrameKind}
use Rattle.swi_dispatch_plans.specs.FrameKind.TheVariants.{Swi, Entry}
use Rattle.swi_dispatch_plans.specs.Frames.{frames_after_close, innermost_frame}
use Rattle.swi_dispatch_plans.specs.Leaving.{left}
use Rattle.swi_dispatch_guest.specs.declared.halt.Halt.TheVariants as halt
use Rattle.swi_dispatch_guest.specs.Answers.{with_answer}
use Rattle.swi_dispatch_guest.specs.MachineState.{MachineState, StepOutcome, machine_module_state, silent, with_module_state}
use Rattle.swi_dispatch_guest.specs.ModuleStart.{opened_at}
use Rattle.swi_dispatch_guest.specs.Returns.{outcome_of_error, gone_back, outcome_of_halt}
pub use Rattle.swi_dispatch_plans.specs.ModuleCode.{GoesBack, IsUntaken, core_by, frames_by, kept_by, outcome_left, plan_unless_code, returned_from}
use Rattle.swi_dispatch_plans.specs.Trials.{error_ahead, module_state_carried}

-- A module that was loaded to be run is entered with the text of the call, as OS_Module 2 does.
abbrev pub entered_with : MachineState → List ℕ → Result Start ErrorNumber → MachineState
entered_with s text (Ok start) = opened_at s text start.slot start.at
entered_with s text (Err e) = s

abbrev pub loaded_entered : MachineState → Given → MachineState
loaded_entered s g = entered_with s g.text.items (start_found s.tables.modules g.header.title.items)

-- Where nothing of a call is left it goes back. The error of a module stands in R0 as the module
-- gave it.
abbrev pub entered_if : Bool → MachineState → Given → MachineState
entered_if true s g = loaded_entered s g
entered_if false s g = s

abbrev pub call_ended_by : MachineState → Call → Given → Option ℕ → MachineState
call_ended_by s call g (Some r0) = gone_back call.caller (with_answer s 0 r0) true call.next
call_ended_by s call g None = entered_if call.enters (gone_back call.caller s false call.next) g

abbrev pub call_ended : MachineState → Call → Plan → MachineState
call_ended s call p = call_ended_by s call p.given p.first

-- What a call that was carried on comes to.
abbrev pub with_code : MachineState → State → List Frame → Option Plan → MachineState
with_code s cpu frames plan = record s {
  cpu = cpu;
  tables = record s.tables
      { frames = frames; plan = plan };
}

abbrev pub state_with_code_entered : MachineState → Call → Carried ModuleState → MachineState
state_with_code_entered s call c = with_code (with_module_state s c.module_state) (core_by s.cpu c.code)
    (frames_by s.tables.frames s.cpu call c.code) (kept_by c.rest c.code)

abbrev pub ended_of : Carried ModuleState → Option Plan
ended_of c = plan_unless_code c.rest c.code

-- A call whose plan has ended goes back; one whose code is under way does so when that is done.
abbrev pub state_after_plan : MachineState → Call → Option Plan → MachineState
state_after_plan s call (Some p) = call_ended s call p
state_after_plan s call None = s

-- A call is carried on with what its plan has left to do.
abbrev pub carried_on : MachineState → Call → Plan → MachineState
carried_on s call p = (let c = module_state_carried (machine_module_state s) p in
    state_after_plan (state_with_code_entered s call c) call (ended_of c))

-- Module code has come back: the core is the caller's again, but for what a SWI leaves, and the
-- frame is closed.
abbrev pub come_back : MachineState → Frame → MachineState
come_back s f = record s {
  cpu = left s.cpu f;
  tables = record s.tables
      { frames = frames_after_close s.tables.frames };
}

-- A SWI of a module goes back.
abbrev pub frame_closed : MachineState → Frame → MachineState
frame_closed s f = record s {
  cpu = returned_from s.cpu f;
  tables = record s.tables { frames = frames_after_close s.tables.frames };
}

abbrev pub swi_left : MachineState → Frame → StepOutcome
swi_left s f =
    let answered : StepOutcome = silent (frame_closed s f) in
    if s.cpu.psr.overflow then outcome_of_error s f.call.is_x answered else answered

-- The call whose entry it was is carried on. Where its caller takes no error, and there is one, the
-- step is a fault, and nothing of it is done.
abbrev pub fault_ahead : Call → ModuleState → Plan → Option ℕ
fault_ahead call w p = if call.is_x then None else error_ahead w p

abbrev pub unless_fault : MachineState → Option ℕ → MachineState → StepOutcome
unless_fault s None t = silent t
unless_fault s (Some number) t = outcome_of_halt s (halt.Fault (ErrorStop number))

abbrev pub entry_left : MachineState → Frame → Plan → StepOutcome
entry_left s f p = unless_fault s (fault_ahead f.call (machine_module_state s) p)
    (carried_on (come_back s f) f.call p)

-- A plan is kept while the code of an entry runs, so the first of these is for no machine; it is as
-- where no frame is open.
abbrev pub plan_left : MachineState → Frame → Option Plan → StepOutcome
plan_left s f None = outcome_of_halt s (halt.Fault FetchUnmapped)
plan_left s f (Some p) = entry_left s f (plan_after_code p (outcome_left s.cpu))

abbrev pub frame_left : MachineState → Frame → FrameKind → Option Plan → StepOutcome
frame_left s f (Swi number) kept = swi_left s f
frame_left s f (Entry kind) kept = plan_left s f kept

-- Module code must have left the stack of supervisor mode as it was.
abbrev pub gated_by : MachineState → Option Frame → StepOutcome
gated_by s None = outcome_of_halt s (halt.Fault FetchUnmapped)
gated_by s (Some f) =
    if register_in Supervisor s.cpu 13 == f.stack then frame_left s f f.kind s.tables.plan else
    outcome_of_halt s (halt.Fault StackChanged)

abbrev pub outcome_of_gate : MachineState → StepOutcome
outcome_of_gate s = gated_by s (innermost_frame s.tables.frames)

-- what a call comes to once its entry came back with an outcome, before it goes back if it has
-- ended; a plan is kept
abbrev pub Resumes : MachineState → Frame → CodeOutcome → Option Plan → Option Plan → MachineState → Type 0
Resumes s f o (Some p) ended t =
    (let c = module_state_carried (machine_module_state s) (plan_after_code p o) in
    (t ≡ state_with_code_entered (come_back s f) f.call c) × (ended ≡ ended_of c))
Resumes s f o None ended t = ⊥

abbrev pub fault_kept : Call → ModuleState → CodeOutcome → Option Plan → Option ℕ
fault_kept call w o None = None
fault_kept call w o (Some p) = fault_ahead call w (plan_after_code p o)
