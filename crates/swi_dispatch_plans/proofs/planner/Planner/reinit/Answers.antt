use Rattle.std.proofs.Common.{◌≡◌, IfOk, List, Ok, ap, subst, ◌∙◌, rules}
use Rattle.instances.specs.Modules.{Module}
use Rattle.instances.specs.Plans.{reinitialisation}
use Rattle.instances.specs.Reading.{slot_meant}
use Rattle.instances.specs.actions.Ready.{IsReady}
use Rattle.instances.proofs.NamedByCalls.{reinitialisation_names}
use Rattle.swi_dispatch_plans.specs.PlannerInput.{PlanParts, setting_in}
use Rattle.swi_dispatch_plans.proofs.Beginning.{meant_begins}
use Rattle.swi_dispatch_plans.specs.ModulePlans.{reinit_planned}
use Rattle.swi_dispatch_plans.proofs.planner.Planner.reinit.Goals as goal

pub returns-clause-begins : goal.returns-clause-begins
returns-clause-begins c =
    let s = setting_in c.args.self.now in
    let name = c.name_part-name.result.now in
    let text = c.text_part.result.now in
    let modules : c.self.inside.instances.now ≡ s.module_state.modules = ap (λ (p : PlanParts). p.modules) c.self.view_is in
    let means : Ok c.in_ok-slot.slot ≡ slot_meant s.module_state.modules name =
    c.in_ok-slot.ensures.value ∙ ap (λ (ms : List Module). slot_meant ms name) modules in
    let makes : c.plan_reinit.result ≡ reinitialisation s.module_state.modules name text =
    c.plan_reinit.ensures.value ∙ ap (λ (ms : List Module). reinitialisation ms name text) modules in
    let ready = subst (λ (ms : List Module). IfOk c.plan_reinit.result (IsReady ms)) modules
    c.plan_reinit.ensures.ready in
    meant_begins s (slot_meant s.module_state.modules name) (reinitialisation s.module_state.modules name text) c.plan_reinit.result
    c.in_ok-slot.slot means makes (reinitialisation_names s.module_state.modules name text)
    c.in_ok-may_finalise.ensures.spared c.in_ok-may_finalise.ensures.free ready c.plan_reinit.ensures.rests
    c.plan_reinit.ensures.pending

pub returns-in_err-words-clause-value : goal.returns-in_err-words-clause-value
unfolding reinit_planned
returns-in_err-words-clause-value c = search rules

pub returns-in_err-slot-clause-value : goal.returns-in_err-slot-clause-value
unfolding reinit_planned
returns-in_err-slot-clause-value c = search rules

pub returns-in_err-may_finalise-clause-value : goal.returns-in_err-may_finalise-clause-value
unfolding reinit_planned
returns-in_err-may_finalise-clause-value c = search rules

pub returns-clause-value : goal.returns-clause-value
unfolding reinit_planned
returns-clause-value c = search rules
