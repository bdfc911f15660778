-- What a step writes in which module code comes back.
use Rattle.std.proofs.Common.{ℕ, ◌≡◌, ◌≤◌, ◌==◌, ◌⊎◌, Bool, true, false, length, Option, Some, None, refl, sym, subst, inl}
use Rattle.std.specs.Prelude.{IfSome, if◌then◌else◌}
use Rattle.profile.specs.Fault.TheVariants.{StackChanged}
use Rattle.arm_core.specs.State.{register_in}
use Rattle.arm_core.specs.declared.psr.Mode.TheVariants.{Supervisor}
use Rattle.os_heap.specs.Store.{Store}
use Rattle.instances.proofs.Turning.{going_back}
use Rattle.instances.specs.Turns.{IsUnderWay, MayGoOn}
use Rattle.instances_table.specs.plans.Plans.{Plan, plan_after_code}
use Rattle.instances_table.specs.declared.plans.code.Outcome.{Outcome as CodeOutcome}
use Rattle.instances_table.specs.declared.plans.given.Given.{Given}
use Rattle.swi_dispatch_guest.specs.SwiDispatchAnswersFrame.{Frame}
use Rattle.swi_dispatch_guest.specs.FrameKind.{FrameKind}
use Rattle.swi_dispatch_guest.specs.FrameKind.TheVariants as frame_kind
use Rattle.swi_dispatch_guest.specs.Frames.{innermost_frame}
use Rattle.swi_dispatch_guest.specs.declared.halt.Halt.TheVariants as halt
use Rattle.swi_dispatch_guest.specs.Gates.{carried_on, come_back, fault_ahead, frame_closed, frame_left, gated_by, outcome_left, outcome_of_gate, plan_left, unless_fault}
use Rattle.swi_dispatch_guest.specs.MachineState.{MachineState, machine_module_state, silent}
use Rattle.swi_dispatch_guest.specs.Returns.{outcome_of_error, outcome_of_halt}
use Rattle.law_machine.proofs.HeapFrameLemmas.Slots.{doable_below}
use Rattle.law_machine.proofs.HeapAloneLemmas.Gates.{settled_given}
use Rattle.law_machine.proofs.HeapAloneLemmas.ModuleHosts.{HasModules, fit_module_state}
use Rattle.law_machine.proofs.HeapAloneLemmas.ModulePlans.{IsFitPlan}
use Rattle.law_machine.proofs.OtherBytesLemmas.Plans.{carried_written}
use Rattle.law_machine.specs.other_bytes.MoveWrites.{IsOfGate}

module _ (s : MachineState) (has : HasModules s) (a : ℕ) where
  abbrev Back : Option Frame → Option Plan → Store → Type 0
  Back frame plan t = (t.bytes.at a ≡ s.store.bytes.at a) ⊎ IsOfGate s frame plan a

  -- a call that is carried on, unless its caller takes no error and there is one
  carried_back : (f : Frame) (p : Plan) (o : Option ℕ)
      → (let q : Plan = plan_after_code p (outcome_left s.cpu) in
      IsFitPlan q → Back (Some f) (Some p) (unless_fault s o (carried_on (come_back s f) f.call q)).now.store)
  carried_back f p None plan = carried_written (come_back s f) f.call (plan_after_code p (outcome_left s.cpu)) a (fit_module_state s has) plan
  carried_back f p (Some number) plan = inl refl

  plan_back : (f : Frame) (o : Option Plan) → MayGoOn (machine_module_state s) o → IfSome o (λ (plan : Plan). length plan.given.text.items ≤ 255)
      → Back (Some f) o (plan_left s f o).now.store
  plan_back f None going few = inl refl
  plan_back f (Some p) going few =
      let o : CodeOutcome = outcome_left s.cpu in
      let q : Plan = plan_after_code p o in
      let on : IsUnderWay (machine_module_state s) q = going_back (machine_module_state s) p o has.modules going.1 in
      carried_back f p (fault_ahead f.call (machine_module_state s) q) (record {
        below = doable_below s.tables.modules q has.modules on.ready.doable;
        text = subst (λ (g : Given). length g.text.items ≤ 255) (sym (settled_given p o)) few;
      })

  -- a SWI of a module
  left_back : (f : Frame) (overflow x : Bool) → (if overflow then outcome_of_error s x (silent (frame_closed s f)) else silent (frame_closed s f)).now.store ≡ s.store
  left_back f false x = refl
  left_back f true true = refl
  left_back f true false = refl

  same_back : (frame : Option Frame) (t : Store) → t ≡ s.store → Back frame s.tables.plan t
  same_back frame t same = subst (Back frame s.tables.plan) (sym same) (inl refl)

  frame_back : (f : Frame) (kind : FrameKind) → Back (Some f) s.tables.plan (frame_left s f kind s.tables.plan).now.store
  frame_back f (frame_kind.Swi number) =
      same_back (Some f) (frame_left s f (frame_kind.Swi number) s.tables.plan).now.store (left_back f s.cpu.psr.overflow f.call.is_x)
  frame_back f (frame_kind.Entry kind) = plan_back f s.tables.plan has.going has.text

  stack_back : (f : Frame) (well : Bool) → Back (Some f) s.tables.plan (if well then frame_left s f f.kind s.tables.plan else outcome_of_halt s (halt.Fault StackChanged)).now.store
  stack_back f true = frame_back f f.kind
  stack_back f false = inl refl

  innermost_back : (o : Option Frame) → Back o s.tables.plan (gated_by s o).now.store
  innermost_back None = inl refl
  innermost_back (Some f) = stack_back f (register_in Supervisor s.cpu 13 == f.stack)

  pub gate_ends : Back (innermost_frame s.tables.frames) s.tables.plan (outcome_of_gate s).now.store
  gate_ends = innermost_back (innermost_frame s.tables.frames)
