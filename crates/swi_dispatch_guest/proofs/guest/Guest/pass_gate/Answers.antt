use Rattle.std.proofs.Common.{refl, sym, ap, ◌∙◌}
use Rattle.arm_run.specs.State.{State}
use Rattle.os_heap.specs.Store.{store_of}
use Rattle.profile.specs.Fault.TheVariants.{ErrorStop}
use Rattle.swi_dispatch_guest.specs.declared.halt.Halt.TheVariants as halt
use Rattle.swi_dispatch_guest.specs.MachineState.{MachineState, Tables}
use Rattle.swi_dispatch_guest.specs.Returns.{outcome_of_halt}
use Rattle.swi_dispatch_guest.proofs.GateReturns.{swi_else, swi_stops}
use Rattle.swi_dispatch_guest.proofs.Kept.{over, well_framed}
use Rattle.swi_dispatch_guest.proofs.OpenFrames.{swi_closes}
use Rattle.swi_dispatch_guest.proofs.guest.Guest.pass_gate.Goals as goal

pub invariant_of-self : goal.invariant_of-self
invariant_of-self c =
    let well = c.self.invariant in
    let swi = swi_else _ c.in_default-kind.not-Entry in
    let closes = swi_closes _ _ c.in-Some.frame.now well.frames c.in-Some.ensures swi refl refl c.close.ensures.value in
    well_framed _ _ well refl refl refl refl closes refl refl

pub returns-in-Err : goal.returns-in-Err
unfolding store_of
returns-in-Err c =
    let tables : Tables = record {
      area_table = c.self.inside.areas;
      modules = c.self.inside.instances;
      frames = c.self.inside.frames;
      plan = c.self.inside.plan;
      flex = c.self.inside.flex;
    } in
    let before : MachineState = over c.self.inside.memory c.self.inside.cpu tables c.self.inside.halt in
    let stack = sym c.has_its_stack.ensures ∙ c.if-not-has_its_stack.false in
    let stops = c.halt_with-in-Err.ensures
    ∙ ap (λ (cpu : State). outcome_of_halt (over c.self.inside.memory cpu tables c.self.inside.halt) (halt.Fault (ErrorStop c.in-Err.number)))
    c.in-Err.ensures.1 in
    rw (← c.self.view_is) (swi_stops before c.in-Some.frame.now _ c.in-Err.number c.in-Some.ensures stack
    (swi_else _ c.in_default-kind.not-Entry) c.in-Err.ensures.0 stops)
