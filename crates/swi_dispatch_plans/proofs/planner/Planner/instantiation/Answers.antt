use Rattle.std.proofs.Common.{◌≡◌, IfOk, List, ap, subst, ◌∙◌, rules}
use Rattle.instances.specs.Modules.{Module}
use Rattle.instances.specs.Adding.{instantiation}
use Rattle.instances.specs.actions.Ready.{IsReady}
use Rattle.instances.proofs.NamedByCalls.{instantiation_names}
use Rattle.swi_dispatch_plans.specs.PlannerInput.{PlanParts, setting_in}
use Rattle.swi_dispatch_plans.proofs.Beginning.{new_begins}
use Rattle.swi_dispatch_plans.specs.ImagePlans.{instantiation_planned}
use Rattle.swi_dispatch_plans.proofs.planner.Planner.instantiation.Goals as goal

pub returns-clause-begins : goal.returns-clause-begins
returns-clause-begins c =
    let s = setting_in c.args.self.now in
    let name = c.name_part.result.now in
    let text = c.text_part.result.now in
    let made = c.instantiate-planned in
    let modules : c.self.inside.instances.now ≡ s.module_state.modules = ap (λ (p : PlanParts). p.modules) c.self.view_is in
    let makes : made.result ≡ instantiation s.module_state.modules name text =
    made.ensures.value ∙ ap (λ (ms : List Module). instantiation ms name text) modules in
    let ready = subst (λ (ms : List Module). IfOk made.result (IsReady ms)) modules made.ensures.ready in
    new_begins s (instantiation s.module_state.modules name text) made.result makes
    (instantiation_names s.module_state.modules name text)
    c.in_ok-may_finalise.ensures.free ready made.ensures.rests made.ensures.pending

pub returns-in_err-words-clause-value : goal.returns-in_err-words-clause-value
unfolding instantiation_planned
returns-in_err-words-clause-value c = search rules

pub returns-in_err-well_named-clause-value : goal.returns-in_err-well_named-clause-value
unfolding instantiation_planned
returns-in_err-well_named-clause-value c = search rules

pub returns-in_err-may_finalise-clause-value : goal.returns-in_err-may_finalise-clause-value
unfolding instantiation_planned
returns-in_err-may_finalise-clause-value c = search rules

pub returns-clause-value : goal.returns-clause-value
unfolding instantiation_planned
returns-clause-value c = search rules
