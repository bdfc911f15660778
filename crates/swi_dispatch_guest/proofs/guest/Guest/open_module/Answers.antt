use Rattle.std.proofs.Common.{refl, ap, ◌∙◌}
use Rattle.os_heap.specs.Store.{store_of}
use Rattle.os_heap.proofs.Frame.{layout-others}
use Rattle.swi_dispatch_guest.specs.MachineState.{MachineState, Tables, with_area_store}
use Rattle.swi_dispatch_guest.proofs.Kept.{over, well_called}
use Rattle.swi_dispatch_guest.proofs.SystemRoom.{has_pages}
use Rattle.swi_dispatch_guest.proofs.guest.Guest.open_module.Goals as goal

pub invariant_of-self : goal.invariant_of-self
invariant_of-self c =
    let well = c.self.invariant in
    let put = c.put_text.ensures in
    well_called _ _ well (put.kept.areas c.self.inside.areas well.areas) (put.kept.classes well.classes) (layout-others _ _ put.kept.layout)
    refl refl refl put.kept.flex refl well.sized

pub returns-in-Some : goal.returns-in-Some
unfolding store_of
returns-in-Some c =
    let tables : Tables = record { area_table = c.self.inside.areas; modules = c.self.inside.instances; frames = c.self.inside.frames; plan = c.self.inside.plan; flex = c.self.inside.flex } in
    let before : MachineState = over c.self.inside.memory c.self.inside.cpu tables c.self.inside.halt in
    let text = c.put_text.ensures.area_store c.self.inside.areas in
    let core = c.enter_as_user.ensures in
    rw (← c.self.view_is, c.in-Some.is) (λ i. (let t : MachineState = with_area_store before (text i) in record t { cpu = core i }))

pub put_text-requires-clause-system : goal.put_text-requires-clause-system
unfolding store_of
put_text-requires-clause-system c = has_pages _ _ c.self.invariant.areas c.self.invariant.system
