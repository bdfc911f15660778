use Rattle.std.proofs.Common.{refl, ap, ◌∙◌}
use Rattle.swi_dispatch_guest.specs.MachineState.{MachineState}
use Rattle.swi_dispatch_guest.proofs.Kept.{over}
use Rattle.swi_dispatch_guest.specs.Calls.{with_guest}
use Rattle.swi_dispatch_guest.proofs.StoreCalls.{well_left}
use Rattle.swi_dispatch_guest.proofs.guest.Guest.resize_area.Goals as goal

pub invariant_of-self : goal.invariant_of-self
invariant_of-self c = well_left _ _ c.self.invariant c.change_area.ensures.leaves refl (c.change_area.ensures.leaves.sizes ∙ c.self.invariant.sized)

pub returns-clause-error : goal.returns-clause-error
returns-clause-error c = rw (← c.self.view_is) c.change_area.ensures.error

pub returns-clause-state : goal.returns-clause-state
returns-clause-state c =
    let s : MachineState = over c.self.inside.memory c.self.inside.cpu (record { area_table = c.self.inside.areas; modules = c.self.inside.instances; frames = c.self.inside.frames; plan = c.self.inside.plan; flex = c.self.inside.flex }) c.self.inside.halt in
    rw (← c.self.view_is) (ap (with_guest s) c.change_area.ensures.state)
