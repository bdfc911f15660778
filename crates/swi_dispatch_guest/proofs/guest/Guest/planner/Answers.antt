use Rattle.std.proofs.Common.{Option, ap, ◌∙◌}
use Rattle.std.specs.Prelude.{is_some, if◌then◌else◌}
use Rattle.swi_dispatch_plans.specs.Plans.{Plan}
use Rattle.swi_dispatch_plans.specs.PlannerInput.{setting_in}
use Rattle.swi_dispatch_guest.specs.MachineState.{setting_of}
use Rattle.swi_dispatch_guest.specs.GuestState.{GuestState, state_of}
use Rattle.swi_dispatch_guest.proofs.guest.Guest.planner.Goals as goal

pub new-requires : goal.new-requires
new-requires c =
    let well = c.self.invariant in
    record {
      area_store = well.areas;
      modules = well.modules;
      idle = λ none. well.frames.kept ∙ ap (λ (p : Option Plan). if is_some p then 1 else 0) none;
      held = well.frames.held;
    }

pub returns : goal.returns
returns c = ap setting_in c.new.ensures ∙ ap (λ (p : GuestState). setting_of (state_of p)) c.self.view_is
