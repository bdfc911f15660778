use Rattle.std.proofs.Common.{refl, ap, ◌∙◌}
use Rattle.os_heap.specs.Store.{store_of}
use Rattle.swi_dispatch_plans.proofs.HeapCalls.{system_room}
use Rattle.swi_dispatch_guest.proofs.Kept.{well_kept, error_kept, flex_error, kept_memory, short_name, same_pool, with_core}
use Rattle.swi_dispatch_guest.proofs.guest.Guest.put_error.Goals as goal

pub invariant_of-self : goal.invariant_of-self
invariant_of-self c =
    let well = c.self.invariant in
    let kept = error_kept _ _ _ _ c.write_error.ensures.layout c.write_error.ensures.marks well.areas.ground.sound well.system (short_name c.args.error) c.write_error.ensures.bytes in
    let flex = flex_error _ _ _ _ _ _ well.flex well.areas well.system (short_name c.args.error) kept c.write_error.ensures.layout c.write_error.ensures.bytes in
    well_kept _ _ well kept c.write_error.ensures.layout c.write_error.ensures.marks refl flex refl

pub returns : goal.returns
unfolding store_of
returns c =
    let well = c.self.invariant in
    let kept = error_kept _ _ _ _ c.write_error.ensures.layout c.write_error.ensures.marks well.areas.ground.sound well.system (short_name c.args.error) c.write_error.ensures.bytes in
    let store = kept_memory _ _ _ kept c.write_error.ensures.bytes in
    let core = c.set_register.ensures in
    let pool = same_pool _ _ c.write_error.ensures.layout in
    rw (← c.self.view_is) (λ i. with_core (core i) (pool i) (record { area_table = c.self.inside.areas; modules = c.self.inside.instances; frames = c.self.inside.frames; plan = c.self.inside.plan; flex = c.self.inside.flex }) c.self.inside.halt (store i))

pub write_error-requires : goal.write_error-requires
unfolding store_of
write_error-requires c = system_room _ _ _ c.self.invariant.areas
