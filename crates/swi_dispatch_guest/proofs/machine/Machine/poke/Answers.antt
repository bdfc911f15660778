use Rattle.std.proofs.Common.{◌≡◌, true, refl, subst, sym}
use Rattle.swi_dispatch_guest.specs.GuestState.{state_of}
use Rattle.swi_dispatch_guest.specs.MachineState.{Tables, machine_start}
use Rattle.swi_dispatch_guest.specs.declared.machine.Machine.TheInside.{Inside}
use Rattle.swi_dispatch_guest.proofs.Fresh.{poked_start}
use Rattle.swi_dispatch_guest.proofs.Kept.{flex_after, pokes, well_kept}
use Rattle.swi_dispatch_guest.proofs.machine.Machine.poke.Goals as goal

pub invariant_of-self-inside : goal.invariant_of-self-inside
invariant_of-self-inside c =
    let here = c.self-inside.inside.0.0 in
    let well = c.self-inside.invariant in
    let stored = c.store_word-stored.ensures in
    let tables : Tables = record { area_table = here.areas; modules = here.instances; frames = here.frames; plan = here.plan; flex = here.flex } in
    let left = pokes _ _ here.cpu tables here.halt _ _ _ stored.layout stored.marks well.areas.ground.sound well.classes stored.bytes in
    well_kept _ _ well left.0.kept stored.layout stored.marks refl (flex_after _ _ _ well.flex stored.layout stored.marks left.0) refl

pub invariant_of-self : goal.invariant_of-self
invariant_of-self c fresh =
    let here = c.self-inside.inside.0.0 in
    let well = c.self-inside.invariant in
    let stored = c.store_word-stored.ensures in
    let tables : Tables = record { area_table = here.areas; modules = here.instances; frames = here.frames; plan = here.plan; flex = here.flex } in
    let left = pokes _ _ here.cpu tables here.halt _ _ _ stored.layout stored.marks well.areas.ground.sound well.classes stored.bytes in
    let was = subst (λ (m : Inside). m.is_fresh ≡ true → state_of m.guest ≡ machine_start m.config) (sym c.self-inside.view_is) c.self.invariant in
    let failed = rw c.is_err.ensures.value at fresh in
    poked_start _ _ _ _ _ _ left.1 was failed

pub returns-clause-state : goal.returns-clause-state
returns-clause-state c =
    let here = c.self-inside.inside.0.0 in
    let well = c.self-inside.invariant in
    let stored = c.store_word-stored.ensures in
    let tables : Tables = record { area_table = here.areas; modules = here.instances; frames = here.frames; plan = here.plan; flex = here.flex } in
    let left = pokes _ _ here.cpu tables here.halt _ _ _ stored.layout stored.marks well.areas.ground.sound well.classes stored.bytes in
    rw (← c.self.view_is, ← c.self-inside.view_is) left.1
