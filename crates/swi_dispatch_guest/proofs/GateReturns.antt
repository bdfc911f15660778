-- A SWI of a module goes back: what that leaves is what a step at the gate leaves.
use Rattle.std.proofs.Common.{◌≡◌, ℕ, true, false, Some, refl, ap, ◌∙◌}
use Rattle.std.specs.Prelude.{if◌then◌else◌, Bool, Option, ◌==◌, ◌&&◌, not}
use Rattle.arm_run.specs.Mode.TheVariants.{Supervisor}
use Rattle.arm_run.specs.State.{register_in}
use Rattle.swi_dispatch_plans.specs.CodeKind.{CodeKind}
use Rattle.swi_dispatch_plans.specs.Plans.{Plan}
use Rattle.profile.specs.Fault.TheVariants.{ErrorStop}
use Rattle.swi_dispatch_plans.specs.Busy.{is_swi}
use Rattle.swi_dispatch_plans.specs.Frames.{innermost_frame}
use Rattle.swi_dispatch_plans.specs.Frame.{Frame}
use Rattle.swi_dispatch_plans.specs.FrameKind.{FrameKind}
use Rattle.swi_dispatch_plans.specs.FrameKind.TheVariants.{Swi, Entry}
use Rattle.swi_dispatch_guest.specs.declared.halt.Halt.TheVariants as halt
use Rattle.swi_dispatch_guest.specs.Errors.{error_number}
use Rattle.swi_dispatch_guest.specs.Gates.{IsUntaken, frame_closed, frame_left, outcome_of_gate}
use Rattle.swi_dispatch_guest.specs.MachineState.{MachineState, StepOutcome, silent}
use Rattle.swi_dispatch_guest.specs.Returns.{outcome_of_error, outcome_of_halt}

-- what a call that may have been refused leaves, where that is taken, and where it isn't
if_taken : (refused is_x : Bool) (s : MachineState) (o answered : StepOutcome) → (refused && not is_x) ≡ false → o ≡ answered
    → o ≡ (if refused then outcome_of_error s is_x answered else answered)
if_taken false is_x s o answered taken is = is
if_taken true true s o answered taken is = is
if_taken true false s o answered taken is = cc

if_untaken : (refused is_x : Bool) (s : MachineState) (o answered : StepOutcome) → (refused && not is_x) ≡ true
    → o ≡ outcome_of_halt s (halt.Fault (ErrorStop (error_number answered.now))) → o ≡ (if refused then outcome_of_error s is_x answered else answered)
if_untaken true false s o answered untaken is = is
if_untaken true true s o answered untaken is = cc
if_untaken false is_x s o answered untaken is = cc

-- what a step at the gate leaves then
back_by : (s : MachineState) (f : Frame) (kind : FrameKind) (kept : Option Plan) (o : StepOutcome) → is_swi kind ≡ true
    → (s.cpu.psr.overflow && not f.call.is_x) ≡ false → o ≡ silent (frame_closed s f) → o ≡ frame_left s f kind kept
back_by s f (Swi number) kept o swi taken is = if_taken s.cpu.psr.overflow f.call.is_x s o (silent (frame_closed s f)) taken is
back_by s f (Entry kind) kept o swi taken is = cc

halts_by : (s : MachineState) (f : Frame) (kind : FrameKind) (kept : Option Plan) (o : StepOutcome) (number : ℕ) → is_swi kind ≡ true
    → IsUntaken s.cpu s.store.bytes f number → o ≡ outcome_of_halt s (halt.Fault (ErrorStop number)) → o ≡ frame_left s f kind kept
halts_by s f (Swi called) kept o number swi untaken is =
    if_untaken s.cpu.psr.overflow f.call.is_x s o (silent (frame_closed s f)) untaken.refused
    (is ∙ ap (λ (n : ℕ). outcome_of_halt s (halt.Fault (ErrorStop n))) untaken.error)
halts_by s f (Entry kind) kept o number swi untaken is = cc

pub swi_went : (s : MachineState) (f : Frame) (o : StepOutcome) → innermost_frame s.tables.frames ≡ Some f
    → (register_in Supervisor s.cpu 13 == f.stack) ≡ true → is_swi f.kind ≡ true → (s.cpu.psr.overflow && not f.call.is_x) ≡ false
    → o ≡ silent (frame_closed s f) → o ≡ outcome_of_gate s
swi_went s f o last stack swi taken is =
    rw (last, stack) (back_by s f f.kind s.tables.plan o swi taken is)

pub swi_stops : (s : MachineState) (f : Frame) (o : StepOutcome) (number : ℕ) → innermost_frame s.tables.frames ≡ Some f
    → (register_in Supervisor s.cpu 13 == f.stack) ≡ true → is_swi f.kind ≡ true → IsUntaken s.cpu s.store.bytes f number
    → o ≡ outcome_of_halt s (halt.Fault (ErrorStop number)) → o ≡ outcome_of_gate s
swi_stops s f o number last stack swi untaken is =
    rw (last, stack)
    (halts_by s f f.kind s.tables.plan o number swi untaken is)

pub swi_else : (kind : FrameKind) → ((k : CodeKind) → kind ≡ Entry k → ⊥) → is_swi kind ≡ true
swi_else (Swi number) never = refl
swi_else (Entry k) never = absurd (never k refl)
