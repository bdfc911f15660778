use Rattle.std.proofs.Common.{◌≡◌, false, refl, subst, sym}
use Rattle.swi_dispatch_plans.proofs.Keeping.{keeps_same}
use Rattle.swi_dispatch_plans.specs.Beginning.{CanBegin}
use Rattle.swi_dispatch_guest.specs.MachineState.{MachineState, setting_of}
use Rattle.swi_dispatch_guest.specs.GuestState.{GuestState, state_of}
use Rattle.swi_dispatch_guest.specs.Step.{call_of}
use Rattle.swi_dispatch_guest.proofs.NextEntry.{carried_next}
use Rattle.swi_dispatch_guest.proofs.Kept.{over}
use Rattle.swi_dispatch_guest.proofs.GateLemmas.{begun_by, carried_well, ended_carried, first_carried, state_opened}
use Rattle.swi_dispatch_guest.proofs.CarriedFrames.{begun_beneath}
use Rattle.swi_dispatch_guest.proofs.guest.Guest.begin.Goals as goal

pub invariant_of-self : goal.invariant_of-self
invariant_of-self c =
    let carries = c.carry-code.ensures in
    let opens = c.open_code-kept.ensures in
    let next = carried_next _ _ _ _ _ _ _ _ _ c.args.call _ _ _ _ _ carries.carried carries.ended carries.kept.going carries.others carries.kept.classes carries.kept.flex
    opens.core opens.frames opens.plans in
    let before : MachineState = over c.self.inside.memory c.self.inside.cpu
    (record {
      area_table = c.self.inside.areas;
      modules = c.self.inside.instances;
      frames = c.self.inside.frames;
      plan = c.self.inside.plan;
      flex = c.self.inside.flex;
    })
    c.self.inside.halt in
    let may = rw c.in-Ok.is at c.requires.begins in
    let begins = subst (λ (p : GuestState). CanBegin (setting_of (state_of p)) c.in-Ok.plan) (sym c.self.view_is) may in
    carried_well _ _ _ _ _ _ _ _ _ _ next refl (begun_beneath before _ begins) c.self.invariant (keeps_same _) refl
    c.self.invariant.sized

pub returns-in-Ok : goal.returns-in-Ok
returns-in-Ok c =
    let carries = c.carry-code.ensures in
    let opens = c.open_code-kept.ensures in
    let next = carried_next _ _ _ _ _ _ _ _ _ c.args.call _ _ _ _ _ carries.carried carries.ended carries.kept.going carries.others carries.kept.classes carries.kept.flex
    opens.core opens.frames opens.plans in
    let before : MachineState = over c.self.inside.memory c.self.inside.cpu
    (record {
      area_table = c.self.inside.areas;
      modules = c.self.inside.instances;
      frames = c.self.inside.frames;
      plan = c.self.inside.plan;
      flex = c.self.inside.flex;
    })
    c.self.inside.halt in
    let may = rw c.in-Ok.is at c.requires.begins in
    let first = first_carried _ _ may.rests in
    let made = subst (λ (p : GuestState). c.args.call ≡ call_of (state_of p) c.args.call.is_x c.args.call.next false) (sym c.self.view_is) c.requires.made in
    rw (c.in-Ok.is, ← c.self.view_is) (begun_by before _ _ c.args.call c.in-Ok.plan _ made
    (state_opened before _ _ _ _ _ _ _ _ _ _ _ next first) (ended_carried _ _ _ _ _ _ _ _ _ _ _ _ next first) c.finish.ensures)
