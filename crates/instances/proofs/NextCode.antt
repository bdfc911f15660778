-- The code that a call that is carried on enters next: that of the first action that is left.
use Rattle.std.proofs.Common.{◌≡◌, Some, None, List, [], ◌∷◌, refl, ap, subst, ◌∙◌}
use Rattle.std.specs.Prelude.{Option}
use Rattle.instances_table.specs.declared.plans.action.PlanAction.{PlanAction}
use Rattle.instances_table.specs.declared.plans.code.Code.{Code}
use Rattle.instances_table.specs.declared.plans.given.Given.{Given}
use Rattle.instances_table.specs.plans.Carrying.{Carried, carry_of_plan, carried_by, carried_from}
use Rattle.instances_table.specs.plans.Plans.{Plan, first_action}
use Rattle.instances_table.specs.Modules.{Module}
use Rattle.instances.specs.module_state.ModuleState.{ModuleState}
use Rattle.instances.specs.actions.Actions.{module_state_after_action}
use Rattle.instances.specs.actions.Codes.{code_among}
use Rattle.instances.specs.tidying.Slid.{module_state_slid}
use Rattle.instances.specs.Turns.{code_called, module_doing}
use Rattle.instances.proofs.Turning.{calls_by, same_modules}

-- an action with code has the same code after its own part
code_stays : (g : Given) (a : PlanAction) (w : ModuleState) (code : Code) → code_among w.modules a ≡ Some code
    → code_among (module_state_after_action module_state_slid g w a).modules a ≡ Some code
code_stays g a w code is = ap (λ (ms : List Module). code_among ms a) (same_modules g a w (calls_by w.modules a code is)) ∙ is

code_by : (w : ModuleState) (p : Plan) (a : PlanAction) (others : List PlanAction) (o : Option Code) (on : ModuleState → Plan → Carried ModuleState) (code : Code)
    → code_among w.modules a ≡ o
    → ((v : ModuleState) (q : Plan) → (on v q).code ≡ Some code → code_called (on v q).module_state.modules (first_action (on v q).rest.actions) ≡ Some code)
    → (carried_by module_doing w p a others o on).code ≡ Some code
    → (let c = carried_by module_doing w p a others o on in code_called c.module_state.modules (first_action c.rest.actions) ≡ Some code)
code_by w p a others (Some c) on code is later has = code_stays p.given a w code (is ∙ has)
code_by w p a others None on code is later has = later _ _ has

code_from : (actions : List PlanAction) (w : ModuleState) (p : Plan) (code : Code) → (carried_from module_doing actions w p).code ≡ Some code
    → (let c = carried_from module_doing actions w p in code_called c.module_state.modules (first_action c.rest.actions) ≡ Some code)
code_from [] w p code has = cc
code_from (a ∷ others) w p code has =
    code_by w p a others (code_among w.modules a) (carried_from module_doing others) code refl (λ v q later. code_from others v q code later) has

pub code_is_first : (w v : ModuleState) (p q : Plan) (o : Option Code) (code : Code)
    → carry_of_plan module_doing w p ≡ record { module_state = v; rest = q; code = o } → o ≡ Some code → code_called v.modules (first_action q.actions) ≡ Some code
unfolding carry_of_plan
code_is_first w v p q o code is has =
    subst (λ (x : Carried ModuleState). code_called x.module_state.modules (first_action x.rest.actions) ≡ Some code) is
    (code_from p.actions w p code (ap (λ (x : Carried ModuleState). x.code) is ∙ has))
