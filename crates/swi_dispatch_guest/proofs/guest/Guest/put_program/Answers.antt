use Rattle.profile.specs.MemoryMap.{application_start}
use Rattle.std.proofs.Common.{◌≤◌, ◌*◌, ◌∙◌, length, ap, refl, arith}
use Rattle.os_heap.specs.Store.{Store, store_of}
use Rattle.swi_dispatch_plans.proofs.FlexLemmas.Kept.{flex_unmade}
use Rattle.swi_dispatch_guest.specs.MachineState.{MachineState, machine_start}
use Rattle.swi_dispatch_guest.specs.GuestState.{state_of}
use Rattle.swi_dispatch_guest.proofs.Kept.{well_kept, program_kept, program_put}
use Rattle.os_heap.proofs.InRange.{range_inside}
use Rattle.swi_dispatch_guest.proofs.guest.Guest.put_program.Goals as goal

pub invariant_of-self : goal.invariant_of-self
unfolding machine_start
invariant_of-self c =
    let well = c.self.invariant in
    let start = ap state_of c.self.view_is ∙ c.requires.start in
    let heaps = ap (λ (s : MachineState). s.store.heaps) start in
    let kept = program_kept _ _ _ _ c.put_bytes.ensures.layout c.put_bytes.ensures.marks well.areas.ground.sound c.app.ensures.sizes heaps c.requires.fits c.put_bytes.ensures.bytes in
    let none = ap (λ (s : MachineState). s.tables.flex.extent) start in
    let flex = flex_unmade _ _ _ well.flex none c.put_bytes.ensures.marks (ap (λ (s : Store). s.others) kept.store) in
    well_kept _ _ well kept c.put_bytes.ensures.layout c.put_bytes.ensures.marks refl flex refl

pub returns : goal.returns
unfolding machine_start
returns c =
    let well = c.self.invariant in
    let start = ap state_of c.self.view_is ∙ c.requires.start in
    let heaps = ap (λ (s : MachineState). s.store.heaps) start in
    let kept = program_kept _ _ _ _ c.put_bytes.ensures.layout c.put_bytes.ensures.marks well.areas.ground.sound c.app.ensures.sizes heaps c.requires.fits c.put_bytes.ensures.bytes in
    rw (← c.self.view_is) (program_put _ _ _ _ _ _ c.put_bytes.ensures.layout kept c.put_bytes.ensures.bytes)

pub put_bytes-requires : goal.put_bytes-requires
unfolding machine_start store_of
put_bytes-requires c = λ a low high.
    let mapped = ap (λ (s : MachineState). s.store.bytes.mapped a) (ap state_of c.self.view_is ∙ c.requires.start) in
    let fits = c.requires.fits in
    mapped ∙ rw (range_inside application_start (4096 * c.args.config.app) a low (omega (arith, fits))) refl
