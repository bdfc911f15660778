-- What a step leaves in which module code comes back: nothing is changed, or its call is carried
-- on.
use Rattle.std.proofs.Common.{ℕ, ◌≤◌, ◌==◌, Bool, true, false, length, Option, Some, None, sym, subst}
use Rattle.std.specs.Prelude.{IfSome, if◌then◌else◌}
use Rattle.profile.specs.Fault.TheVariants.{StackChanged}
use Rattle.arm_core.specs.State.{register_in}
use Rattle.arm_core.specs.declared.psr.Mode.TheVariants.{Supervisor}
use Rattle.os_heap.specs.Store.{Store}
use Rattle.instances.proofs.Turning.{going_back}
use Rattle.instances.specs.Turns.{IsUnderWay, MayGoOn}
use Rattle.instances_table.specs.plans.Plans.{Plan, plan_after_code}
use Rattle.instances_table.specs.declared.plans.code.Outcome.{Outcome as CodeOutcome}
use Rattle.instances_table.specs.declared.plans.given.Given.{Given}
use Rattle.swi_dispatch_guest.specs.SwiDispatchAnswersFrame.{Frame}
use Rattle.swi_dispatch_guest.specs.FrameKind.{FrameKind}
use Rattle.swi_dispatch_guest.specs.FrameKind.TheVariants as frame_kind
use Rattle.swi_dispatch_guest.specs.Frames.{innermost_frame}
use Rattle.swi_dispatch_guest.specs.declared.halt.Halt.TheVariants as halt
use Rattle.swi_dispatch_guest.specs.Gates.{carried_on, come_back, fault_ahead, frame_closed, frame_left, outcome_of_gate, gated_by, outcome_left, plan_left, unless_fault}
use Rattle.swi_dispatch_guest.specs.MachineState.{MachineState, machine_module_state, silent}
use Rattle.swi_dispatch_guest.specs.Returns.{outcome_of_error, outcome_of_halt}
use Rattle.law_machine.proofs.HeapFrameLemmas.Slots.{doable_below}
use Rattle.law_machine.proofs.HeapAloneLemmas.Gates.{settled_given}
use Rattle.law_machine.proofs.HeapAloneLemmas.ModuleHosts.{HasModules}
use Rattle.law_machine.proofs.HeapAloneLemmas.ModulePlans.{IsFitPlan}

settled_fit : (s : MachineState) (p : Plan) (o : CodeOutcome) → HasModules s → MayGoOn (machine_module_state s) (Some p) → length p.given.text.items ≤ 255
    → IsFitPlan (plan_after_code p o)
settled_fit s p o has going few =
    let on : IsUnderWay (machine_module_state s) (plan_after_code p o) = going_back (machine_module_state s) p o has.modules going.1 in
    record {
      below = doable_below s.tables.modules (plan_after_code p o) has.modules on.ready.doable;
      text = subst (λ (g : Given). length g.text.items ≤ 255) (sym (settled_given p o)) few;
    }

-- A property of stores that holds of the store before, and of what is left of a call that is
-- carried on.
module _ (s : MachineState) (has : HasModules s) (P : Store → Type 0) (same : P s.store) where
  abbrev pub Goes : Option Plan → Type 0
  Goes None = Unit {0}
  Goes (Some p) =
      (f : Frame) → IsFitPlan (plan_after_code p (outcome_left s.cpu)) → P (carried_on (come_back s f) f.call (plan_after_code p (outcome_left s.cpu))).store

  fault_has : (t : MachineState) (o : Option ℕ) → P t.store → P (unless_fault s o t).now.store
  fault_has t None left = left
  fault_has t (Some number) left = same

  plan_has : (f : Frame) (o : Option Plan) → MayGoOn (machine_module_state s) o → IfSome o (λ (plan : Plan). length plan.given.text.items ≤ 255)
      → Goes o → P (plan_left s f o).now.store
  plan_has f None going few goes = same
  plan_has f (Some p) going few goes =
      let q : Plan = plan_after_code p (outcome_left s.cpu) in
      fault_has (carried_on (come_back s f) f.call q) (fault_ahead f.call (machine_module_state s) q)
      (goes f (settled_fit s p (outcome_left s.cpu) has going few))

  -- a SWI of a module
  left_has : (f : Frame) (overflow x : Bool) → P (if overflow then outcome_of_error s x (silent (frame_closed s f)) else silent (frame_closed s f)).now.store
  left_has f false x = same
  left_has f true true = same
  left_has f true false = same

  module _ (goes : Goes s.tables.plan) where
    frame_has : (f : Frame) (kind : FrameKind) → P (frame_left s f kind s.tables.plan).now.store
    frame_has f (frame_kind.Swi number) = left_has f s.cpu.psr.overflow f.call.is_x
    frame_has f (frame_kind.Entry kind) = plan_has f s.tables.plan has.going has.text goes

    stack_has : (f : Frame) (well : Bool) → P (if well then frame_left s f f.kind s.tables.plan else outcome_of_halt s (halt.Fault StackChanged)).now.store
    stack_has f true = frame_has f f.kind
    stack_has f false = same

    innermost_has : (o : Option Frame) → P (gated_by s o).now.store
    innermost_has None = same
    innermost_has (Some f) = stack_has f (register_in Supervisor s.cpu 13 == f.stack)

    pub gate_has : P (outcome_of_gate s).now.store
    gate_has = innermost_has (innermost_frame s.tables.frames)
