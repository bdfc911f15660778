use Rattle.std.proofs.Common.{ℕ, ◌≤◌, refl, ap, subst, ◌∙◌}
use Rattle.swi_dispatch_guest.specs.MachineState.{Tables}
use Rattle.swi_dispatch_guest.proofs.FlexCalls.{can_call, flex_left, same_free, well_flexed}
use Rattle.swi_dispatch_guest.proofs.guest.Guest.call_flex.Goals as goal

pub call_flex-requires : goal.call_flex-requires
call_flex-requires c =
    can_call _ c.self.invariant (subst (λ (n : ℕ). n ≤ 64) c.count.ensures.value c.count.ensures.few)

pub invariant_of-self : goal.invariant_of-self
invariant_of-self c =
    well_flexed _ _ c.self.invariant c.call_flex.ensures.leaves refl refl

pub returns : goal.returns
returns c =
    let tables : Tables = record {
      area_table = c.self.inside.areas;
      modules = c.self.inside.instances;
      frames = c.self.inside.frames;
      plan = c.self.inside.plan;
      flex = c.self.inside.flex;
    } in
    rw (← c.self.view_is) (flex_left _ _ _ _ tables c.self.inside.halt _ _ _
    (same_free _ _ _ c.self.invariant c.call_flex.ensures.leaves) c.call_flex.ensures.state)
