use Rattle.std.proofs.Common.{refl, ap, sym, ◌∙◌}
use Rattle.swi_dispatch_plans.specs.Areas.{AreaTable}
use Rattle.swi_dispatch_plans.proofs.FlexLemmas.Kept.{flex_started}
use Rattle.swi_dispatch_guest.proofs.OpenFrames.{frames_none}
use Rattle.swi_dispatch_guest.proofs.Starting.{start_modules, starts, system_recorded}
use Rattle.swi_dispatch_guest.proofs.guest.Guest.new.Goals as goal

pub invariant_of-result : goal.invariant_of-result
invariant_of-result c =
    let memory = c.in_ok-memory.ensures in
    record {
      areas = rw c.new-3.ensures.area_table memory.state.area_store;
      classes = memory.state.classes;
      system = system_recorded _ c.args.config memory.store;
      modules = rw (c.new-3.ensures.area_table, c.new-4.ensures) (start_modules _ c.args.config memory.store memory.state.area_store);
      frames = frames_none _ refl c.new-5.ensures;
      flex = flex_started _ c.args.config _ memory.store c.new-6.ensures;
      sized = ap (λ (l : AreaTable). l.sizes) c.new-3.ensures.area_table ∙ sym c.in_ok-new.ensures;
    }

pub returns : goal.returns
returns c =
    let memory = c.in_ok-memory.ensures in
    rw (c.new.ensures, c.new-3.ensures.area_table, c.new-4.ensures, c.new-5.ensures, c.new-6.ensures) (starts _ _ memory.store memory.state.area_store)
