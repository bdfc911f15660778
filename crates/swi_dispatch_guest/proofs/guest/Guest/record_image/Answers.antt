use Rattle.std.proofs.Common.{◌≡◌, Ok, refl, subst, sym, true}
use Rattle.swi_dispatch_plans.specs.NewImages.{may_be_in_place}
use Rattle.swi_dispatch_plans.proofs.NamedByCalls.{inserting_names, named_given}
use Rattle.swi_dispatch_plans.specs.ImagePlans.{SparesRange, image_header_in}
use Rattle.swi_dispatch_plans.specs.Beginning.{IsFree}
use Rattle.swi_dispatch_guest.specs.MachineState.{MachineState, machine_module_state, setting_of}
use Rattle.swi_dispatch_guest.specs.GuestState.{GuestState, state_of}
use Rattle.swi_dispatch_guest.proofs.NextEntry.{carried_next}
use Rattle.swi_dispatch_guest.proofs.Kept.{over}
use Rattle.swi_dispatch_guest.proofs.GateLemmas.{carried_well, ended_carried, first_carried, refused_well, refused_module_state, starts_by, state_opened}
use Rattle.swi_dispatch_guest.proofs.CarriedFrames.{titled_beneath}
use Rattle.swi_dispatch_guest.proofs.guest.Guest.record_image.Goals as goal

pub insert_found-requires-clause-may : goal.insert_found-requires-clause-may
insert_found-requires-clause-may c =
    let range = c.args.found.range in
    subst (λ (p : GuestState). may_be_in_place (machine_module_state (state_of p)).area_store.store range.at range.len ≡ true) (sym c.self.view_is)
    c.requires.place

pub insert_found-requires-clause-header : goal.insert_found-requires-clause-header
insert_found-requires-clause-header c =
    let found = c.args.found in
    subst (λ (p : GuestState). image_header_in (setting_of (state_of p)) found.range.at found.range.len ≡ Ok found.header)
    (sym c.self.view_is) c.requires.header

pub invariant_of-self : goal.invariant_of-self
invariant_of-self c =
    let given = c.in_err-plan.ensures in
    refused_well _ _ c.self.invariant (refused_module_state _ _ _ _ given.module_state) refl refl given.kept.classes given.kept.flex refl refl

pub invariant_of-self-2 : goal.invariant_of-self-2
invariant_of-self-2 c =
    let carries = c.carry-code.ensures in
    let opens = c.open_code-kept.ensures in
    let next = carried_next _ _ _ _ _ _ _ _ _ c.args.call _ _ _ _ _ carries.carried carries.ended carries.kept.going carries.others carries.kept.classes carries.kept.flex
    opens.core opens.frames opens.plans in
    let before : MachineState = over c.self.inside.memory c.self.inside.cpu
    (record {
      area_table = c.self.inside.areas;
      modules = c.self.inside.instances;
      frames = c.self.inside.frames;
      plan = c.self.inside.plan;
      flex = c.self.inside.flex;
    })
    c.self.inside.halt in
    let given = c.in_ok-plan.ensures in
    let free = subst (λ (p : GuestState). IsFree (setting_of (state_of p))) (sym c.self.view_is) c.requires.free in
    let spared = subst (λ (p : GuestState). SparesRange (setting_of (state_of p)) c.args.found.range.at c.args.found.range.len) (sym c.self.view_is) c.requires.spared in
    let names = named_given _ _ _ _ _ _ (inserting_names (machine_module_state before) c.args.found.range.at c.args.found.range.len) given.module_state given.ready in
    let beneath = titled_beneath before _ (image_header_in (setting_of before) c.args.found.range.at c.args.found.range.len) free spared names in
    carried_well _ _ _ _ _ _ _ _ _ _ next refl beneath c.self.invariant given.kept.flex refl
    (c.self.invariant.sized)

pub returns : goal.returns
returns c =
    let before : MachineState = over c.self.inside.memory c.self.inside.cpu
    (record {
      area_table = c.self.inside.areas;
      modules = c.self.inside.instances;
      frames = c.self.inside.frames;
      plan = c.self.inside.plan;
      flex = c.self.inside.flex;
    })
    c.self.inside.halt in
    let given = c.in_ok-plan.ensures in
    let carries = c.carry-code.ensures in
    let opens = c.open_code-kept.ensures in
    let next = carried_next _ _ _ _ _ _ _ _ _ c.args.call _ _ _ _ _ carries.carried carries.ended carries.kept.going carries.others carries.kept.classes carries.kept.flex
    opens.core opens.frames opens.plans in
    let first = first_carried _ _ given.rests in
    rw (← c.self.view_is) (starts_by before _ c.args.call _ _ _ _ _ given.module_state
    (state_opened before _ _ _ _ _ _ _ _ _ _ _ next first) (ended_carried _ _ _ _ _ _ _ _ _ _ _ _ next first))
