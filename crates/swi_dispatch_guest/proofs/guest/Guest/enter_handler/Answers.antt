use Rattle.std.proofs.Common.{refl, ap, ◌∙◌}
use Rattle.swi_dispatch_plans.specs.Doable.{is_used}
use Rattle.swi_dispatch_plans.specs.InstancesTableModules.{slots_of}
use Rattle.swi_dispatch_plans.specs.Busy.{is_swi}
use Rattle.swi_dispatch_plans.specs.Frame.{Frame}
use Rattle.swi_dispatch_guest.specs.MachineState.{MachineState}
use Rattle.swi_dispatch_guest.specs.GuestState.{GuestState, state_of}
use Rattle.swi_dispatch_guest.proofs.Kept.{well_framed}
use Rattle.swi_dispatch_guest.proofs.OpenFrames.{swi_opened}
use Rattle.swi_dispatch_guest.proofs.guest.Guest.enter_handler.Goals as goal

pub invariant_of-self : goal.invariant_of-self
invariant_of-self c =
    let well = c.self.invariant in
    let there = ap (λ (f : Frame). is_used f.slot (slots_of c.self.inside.instances)) c.of.ensures
    ∙ ap (λ (p : GuestState). is_used c.args.handler.slot (slots_of (state_of p).tables.modules)) c.self.view_is ∙ c.requires.held in
    let opened = swi_opened _ _ _ well.frames refl refl c.open.ensures (ap (λ (f : Frame). is_swi f.kind) c.of.ensures) there in
    well_framed _ _ well refl refl refl refl opened refl refl
