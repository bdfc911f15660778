use Rattle.std.proofs.Common.{◌≡◌, IfOk, List, Ok, ap, subst, ◌∙◌, rules}
use Rattle.instances.specs.Modules.{Module}
use Rattle.instances.specs.Plans.{deletion}
use Rattle.instances.specs.Reading.{slot_meant}
use Rattle.instances.specs.actions.Ready.{IsReady}
use Rattle.instances.proofs.NamedByCalls.{deletion_names}
use Rattle.swi_dispatch_plans.specs.PlannerInput.{PlanParts, setting_in}
use Rattle.swi_dispatch_plans.proofs.Beginning.{meant_begins}
use Rattle.swi_dispatch_plans.specs.ModulePlans.{delete_planned}
use Rattle.swi_dispatch_plans.proofs.planner.Planner.delete.Goals as goal

pub returns-clause-begins : goal.returns-clause-begins
returns-clause-begins c =
    let s = setting_in c.args.self.now in
    let name = c.in_ok-name.name.items in
    let modules : c.self.inside.instances.now ≡ s.module_state.modules = ap (λ (p : PlanParts). p.modules) c.self.view_is in
    let means : Ok c.in_ok-slot.slot ≡ slot_meant s.module_state.modules name =
    c.in_ok-slot.ensures.value ∙ (λ i. slot_meant (modules i) (c.as_slice.ensures.value i)) in
    let makes : c.plan_delete.result ≡ deletion s.module_state.modules name =
    c.plan_delete.ensures.value ∙ (λ i. deletion (modules i) (c.as_slice-2.ensures.value i)) in
    let ready = subst (λ (ms : List Module). IfOk c.plan_delete.result (IsReady ms)) modules
    c.plan_delete.ensures.ready in
    meant_begins s (slot_meant s.module_state.modules name) (deletion s.module_state.modules name) c.plan_delete.result
    c.in_ok-slot.slot means makes (deletion_names s.module_state.modules name) c.in_ok-may_finalise.ensures.spared
    c.in_ok-may_finalise.ensures.free ready c.plan_delete.ensures.rests c.plan_delete.ensures.pending

pub returns-in_err-name-clause-value : goal.returns-in_err-name-clause-value
unfolding delete_planned
returns-in_err-name-clause-value c = search rules

pub returns-in_err-slot-clause-value : goal.returns-in_err-slot-clause-value
unfolding delete_planned
returns-in_err-slot-clause-value c = search rules

pub returns-in_err-may_finalise-clause-value : goal.returns-in_err-may_finalise-clause-value
unfolding delete_planned
returns-in_err-may_finalise-clause-value c = search rules

pub returns-clause-value : goal.returns-clause-value
unfolding delete_planned
returns-clause-value c = search rules
