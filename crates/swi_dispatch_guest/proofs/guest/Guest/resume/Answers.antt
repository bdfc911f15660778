use Rattle.std.proofs.Common.{refl, ap, subst, sym, ◌∙◌}
use Rattle.swi_dispatch_plans.proofs.Keeping.{keeps_same}
use Rattle.swi_dispatch_plans.specs.Frames.{innermost_frame}
use Rattle.arm_run.specs.State.{State}
use Rattle.swi_dispatch_plans.specs.ModuleState.{module_state_of}
use Rattle.swi_dispatch_guest.specs.Carried.{CodeUnderWay, IsCarriedNext}
use Rattle.swi_dispatch_guest.specs.Gates.{Resumes, come_back, with_code}
use Rattle.swi_dispatch_guest.specs.MachineState.{MachineState, with_module_state}
use Rattle.swi_dispatch_guest.specs.GuestState.{GuestState, state_of}
use Rattle.swi_dispatch_guest.proofs.NextEntry.{carried_next}
use Rattle.swi_dispatch_guest.proofs.Kept.{over}
use Rattle.swi_dispatch_guest.proofs.GateLemmas.{carried_well, ended_carried, resumes_by, state_opened}
use Rattle.swi_dispatch_guest.proofs.CarriedFrames.{left_beneath}
use Rattle.swi_dispatch_guest.proofs.OpenFrames.{plan_there}
use Rattle.swi_dispatch_guest.proofs.guest.Guest.resume.Goals as goal

pub invariant_of-self-2 : goal.invariant_of-self-2
invariant_of-self-2 c =
    let carries = c.carry-code.ensures in
    let opens = c.open_code-kept.ensures in
    let next = carried_next _ _ _ _ _ _ _ _ _ c.args.frame.call _ _ _ _ _ carries.carried carries.ended carries.kept.going carries.others carries.kept.classes carries.kept.flex
    opens.core opens.frames opens.plans in
    let last = ap (λ (p : GuestState). innermost_frame (state_of p).tables.frames) c.self.view_is ∙ c.requires.last in
    let beneath = left_beneath _ c.args.frame _ c.self.invariant.frames (sym c.in_ok-plan.ensures.value) last c.requires.entry in
    carried_well _ _ _ _ _ _ _ _ _ _ next refl (rw c.close.ensures.value beneath) c.self.invariant (keeps_same _) refl
    c.self.invariant.sized

pub returns : goal.returns
returns c =
    let carries = c.carry-code.ensures in
    let opens = c.open_code-kept.ensures in
    let before : MachineState = over c.self.inside.memory c.self.inside.cpu
    (record {
      area_table = c.self.inside.areas;
      modules = c.self.inside.instances;
      frames = c.self.inside.frames;
      plan = c.self.inside.plan;
      flex = c.self.inside.flex;
    })
    c.self.inside.halt in
    let next = rw (c.leave.ensures, c.close.ensures.value) at (carried_next _ _ _ _ _ _ _ _ _ c.args.frame.call _ _ _ _ _ carries.carried carries.ended carries.kept.going carries.others carries.kept.classes carries.kept.flex
    opens.core opens.frames opens.plans) in
    let after : MachineState = with_code (with_module_state (come_back before c.args.frame)
    (module_state_of c.carry-code.new.map c.self.inside.areas c.carry-code.new.self))
    c.open_code-kept.new.cpu c.open_code-kept.new.frames c.open_code-kept.result.0 in
    subst (λ (p : GuestState). Resumes (state_of p) c.args.frame c.args.outcome p.tables.plan c.open_code-kept.result.1 after)
    c.self.view_is (resumes_by before after c.args.frame c.args.outcome _ _ _ (sym c.in_ok-plan.ensures.value) (
      state_opened (come_back before c.args.frame) _ _ _ _ _ _ _ _ _ _ _ next refl,
      ended_carried _ _ _ _ _ _ _ _ _ _ _ _ next refl,
    ))

-- a plan is kept while an entry's frame is open
pub returns-in_err-plan : goal.returns-in_err-plan
returns-in_err-plan c =
    let last = ap (λ (p : GuestState). innermost_frame (state_of p).tables.frames) c.self.view_is ∙ c.requires.last in
    absurd (plan_there _ c.args.frame c.self.invariant.frames (sym c.in_err-plan.ensures.value) last c.requires.entry)
