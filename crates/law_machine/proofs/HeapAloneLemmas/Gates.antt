-- A step at the return gate, where module code comes back, keeps each guest's heap that is recorded
-- after it.
use Rattle.std.proofs.Common.{ℕ, ◌≡◌, ◌≤◌, ◌==◌, Bool, true, false, length, Option, Some, None, refl, sym, subst}
use Rattle.std.specs.Prelude.{IfSome, if◌then◌else◌}
use Rattle.profile.specs.Fault.TheVariants.{StackChanged}
use Rattle.arm_core.specs.State.{register_in}
use Rattle.arm_core.specs.declared.psr.Mode.TheVariants.{Supervisor}
use Rattle.os_heap_words.specs.lists.Heap.{HeapList}
use Rattle.instances.proofs.Turning.{going_back}
use Rattle.instances.specs.Turns.{IsUnderWay, MayGoOn}
use Rattle.instances_table.specs.declared.plans.action.PlanAction.{PlanAction}
use Rattle.instances_table.specs.declared.plans.code.Outcome.{Outcome as CodeOutcome}
use Rattle.instances_table.specs.declared.plans.code.Outcome.TheVariants.{Refused, Well}
use Rattle.instances_table.specs.declared.plans.given.Given.{Given}
use Rattle.instances_table.specs.plans.Plans.{Plan, first_action, plan_after_code, settled_by}
use Rattle.swi_dispatch_guest.specs.SwiDispatchAnswersFrame.{Frame}
use Rattle.swi_dispatch_guest.specs.FrameKind.{FrameKind}
use Rattle.swi_dispatch_guest.specs.FrameKind.TheVariants as frame_kind
use Rattle.swi_dispatch_guest.specs.Frames.{innermost_frame}
use Rattle.swi_dispatch_guest.specs.declared.halt.Halt.TheVariants as halt
use Rattle.swi_dispatch_guest.specs.Gates.{carried_on, come_back, entry_left, fault_ahead, frame_closed, frame_left, outcome_of_gate, gated_by, outcome_left, plan_left, unless_fault}
use Rattle.swi_dispatch_guest.specs.MachineState.{MachineState, machine_module_state, silent}
use Rattle.swi_dispatch_guest.specs.Returns.{outcome_of_error, outcome_of_halt}
use Rattle.law_machine.proofs.HeapFrameLemmas.Areas.{heap_same}
use Rattle.law_machine.proofs.HeapFrameLemmas.Slots.{doable_below}
use Rattle.law_machine.specs.heap_frame.PlanLaws.{IsFitModuleState}
use Rattle.law_machine.proofs.HeapAloneLemmas.ModuleHosts.{IsHost, KeepsRecorded, carried_out, fit_module_state, outside_stays}
use Rattle.law_machine.proofs.HeapAloneLemmas.ModulePlans.{IsFitPlan}
use Rattle.instances.proofs.ActionsLemmas.Readying.{given_stays}

-- code that comes back leaves what its plan was given
pub given_by : (p : Plan) (o : CodeOutcome) (a : Option PlanAction) → (settled_by p o a).given ≡ p.given
given_by p Well None = refl
given_by p (Refused r0) None = refl
given_by p Well (Some a) = refl
given_by p (Refused r0) (Some a) = given_stays p a r0

pub given_if : (runs : Bool) (p q : Plan) → q.given ≡ p.given → (if runs then q else p).given ≡ p.given
given_if true p q same = same
given_if false p q same = refl

pub settled_given : (p : Plan) (o : CodeOutcome) → (plan_after_code p o).given ≡ p.given
unfolding plan_after_code
settled_given p o = given_if p.runs p (settled_by p o (first_action p.actions)) (given_by p o (first_action p.actions))

module _ (s : MachineState) (h : HeapList) (host : IsHost s h) where
  same : KeepsRecorded h s.store s.store
  same still = heap_same h s.store host.found

  fit : IsFitModuleState (machine_module_state s)
  fit = fit_module_state s host.modules

  -- the plan that is carried on
  settled_fit : (p : Plan) (o : CodeOutcome) → MayGoOn (machine_module_state s) (Some p) → length p.given.text.items ≤ 255 → IsFitPlan (plan_after_code p o)
  settled_fit p o going few =
      let on : IsUnderWay (machine_module_state s) (plan_after_code p o) = going_back (machine_module_state s) p o host.modules.modules going.1 in
      record {
        below = doable_below s.tables.modules (plan_after_code p o) host.modules.modules on.ready.doable;
        text = subst (λ (g : Given). length g.text.items ≤ 255) (sym (settled_given p o)) few;
      }

  fault_keeps : (t : MachineState) (o : Option ℕ) → KeepsRecorded h s.store t.store → KeepsRecorded h s.store (unless_fault s o t).now.store
  fault_keeps t None kept = kept
  fault_keeps t (Some number) kept = same

  entry_keeps : (f : Frame) (p : Plan) → IsFitPlan p → KeepsRecorded h s.store (entry_left s f p).now.store
  entry_keeps f p plan =
      let t : MachineState = carried_on (come_back s f) f.call p in
      fault_keeps t (fault_ahead f.call (machine_module_state s) p) (outside_stays s h t.store host (carried_out (come_back s f) f.call p fit plan))

  plan_keeps : (f : Frame) (o : Option Plan) → MayGoOn (machine_module_state s) o → IfSome o (λ (plan : Plan). length plan.given.text.items ≤ 255)
      → KeepsRecorded h s.store (plan_left s f o).now.store
  plan_keeps f None going few = same
  plan_keeps f (Some p) going few = entry_keeps f (plan_after_code p (outcome_left s.cpu)) (settled_fit p (outcome_left s.cpu) going few)

  -- a SWI of a module
  left_keeps : (f : Frame) (overflow x : Bool)
      → KeepsRecorded h s.store (if overflow then outcome_of_error s x (silent (frame_closed s f)) else silent (frame_closed s f)).now.store
  left_keeps f false x = same
  left_keeps f true true = same
  left_keeps f true false = same

  frame_keeps : (f : Frame) (kind : FrameKind) → KeepsRecorded h s.store (frame_left s f kind s.tables.plan).now.store
  frame_keeps f (frame_kind.Swi number) = left_keeps f s.cpu.psr.overflow f.call.is_x
  frame_keeps f (frame_kind.Entry kind) = plan_keeps f s.tables.plan host.modules.going host.modules.text

  stack_keeps : (f : Frame) (well : Bool)
      → KeepsRecorded h s.store (if well then frame_left s f f.kind s.tables.plan else outcome_of_halt s (halt.Fault StackChanged)).now.store
  stack_keeps f true = frame_keeps f f.kind
  stack_keeps f false = same

  innermost_keeps : (o : Option Frame) → KeepsRecorded h s.store (gated_by s o).now.store
  innermost_keeps None = same
  innermost_keeps (Some f) = stack_keeps f (register_in Supervisor s.cpu 13 == f.stack)

  pub gate_keeps : KeepsRecorded h s.store (outcome_of_gate s).now.store
  gate_keeps = innermost_keeps (innermost_frame s.tables.frames)
