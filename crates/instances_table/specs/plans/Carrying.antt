-- What carrying a plan on comes to. The module state that it acts on, what each action does there and
-- which code it runs, belong to those who carry it.
use Rattle.std.specs.Prelude.{ℕ, suc, zero, true, false, Option, Some, None, List, [], ◌∷◌}
use Rattle.instances_table.specs.declared.plans.action.PlanAction.{PlanAction}
use Rattle.instances_table.specs.declared.plans.code.Advance.{Advance}
use Rattle.instances_table.specs.declared.plans.code.Advance.TheVariants as advance
use Rattle.instances_table.specs.declared.plans.code.Code.{Code}
use Rattle.instances_table.specs.declared.plans.code.Outcome.{Outcome}
use Rattle.instances_table.specs.declared.plans.code.Outcome.TheVariants.{Well}
use Rattle.instances_table.specs.declared.plans.given.Given.{Given}
use Rattle.instances_table.specs.plans.Plans.{Plan, end_by, plan_after_action, actions_owed, plan_after_code, plan_with_code_entered}

-- An action's own part, which comes before its code; and the code, if it has any.
pub record Doing (W : Type 0) : Type 0 where
  pub act : Given → W → PlanAction → W
  pub code_of : W → PlanAction → Option Code

-- A plan is carried on to its next code, or to its end.
pub record Carried (W : Type 0) : Type 0 where
  pub module_state : W
  pub rest : Plan
  pub code : Option Code

abbrev pub carried_by : {W : Type 0} → Doing W → W → Plan → PlanAction → List PlanAction → Option Code →
    (W → Plan → Carried W) → Carried W
carried_by d w p a others (Some code) on =
    record {
      module_state = d.act p.given w a;
      rest = record p { actions = a ∷ others; runs = true };
      code = Some code;
    }
carried_by d w p a others None on = on (d.act p.given w a)
    (record p { actions = others; instead = actions_owed p.instead a; runs = false })

abbrev pub carried_from : {W : Type 0} → Doing W → List PlanAction → W → Plan → Carried W
carried_from d [] w p = record { module_state = w; rest = p; code = None }
carried_from d (a ∷ others) w p = carried_by d w p a others (d.code_of w a) (carried_from d others)

unfoldable pub carry_of_plan : {W : Type 0} → Doing W → W → Plan → Carried W
carry_of_plan d w p = carried_from d p.actions w p

-- One turn: the code that was under way, if any was, has come back; then one action is done, or its
-- code is to be entered.
pub record Advanced (W : Type 0) : Type 0 where
  pub module_state : W
  pub rest : Plan
  pub step : Advance

abbrev pub advanced_by : {W : Type 0} → Doing W → W → Plan → PlanAction → Option Code → Advanced W
advanced_by d w p a (Some code) = record {
  module_state = d.act p.given w a;
  rest = plan_with_code_entered p;
  step = advance.Code code;
}
advanced_by d w p a None = record {
  module_state = d.act p.given w a;
  rest = plan_after_action p a;
  step = advance.Next;
}

abbrev pub advanced_from : {W : Type 0} → Doing W → List PlanAction → W → Plan → Advanced W
advanced_from d [] w p = record { module_state = w; rest = p; step = advance.End (end_by p.first) }
advanced_from d (a ∷ others) w p = advanced_by d w p a (d.code_of w a)

unfoldable pub advance_of_plan : {W : Type 0} → Doing W → W → Plan → Outcome → Advanced W
advance_of_plan d w p o = advanced_from d (plan_after_code p o).actions w (plan_after_code p o)

-- Turns up to the next code or the end; where no code ran, all was well.
abbrev pub carried_after : {W : Type 0} → Doing W → Advanced W → Advance → Carried W
carried_after d r advance.Next = carry_of_plan d r.module_state (plan_after_code r.rest Well)
carried_after d r (advance.Code code) = record {
  module_state = r.module_state;
  rest = r.rest;
  code = Some
      code;
}
carried_after d r (advance.End e) = record { module_state = r.module_state; rest = r.rest; code = None }

-- A whole call whose code never refuses, if at most so many codes run: `run` is what module code
-- makes of the module state.
abbrev pub well_after : {W : Type 0} → (W → Code → W) → Carried W → Option Code → (W → Plan → Carried W) →
    Carried W
well_after run c None on = c
well_after run c (Some code) on = on (run c.module_state code) (plan_after_code c.rest Well)

abbrev pub carried_well : {W : Type 0} → Doing W → (W → Code → W) → ℕ → W → Plan → Carried W
carried_well d run zero w p = carry_of_plan d w p
carried_well d run (suc codes) w p = well_after run (carry_of_plan d w p) (carry_of_plan d w p).code
    (carried_well d run codes)

-- All actions of a list, in order, each with its code.
abbrev pub code_run : {W : Type 0} → (W → Code → W) → W → Option Code → W
code_run run w None = w
code_run run w (Some code) = run w code

abbrev pub all_done : {W : Type 0} → Doing W → (W → Code → W) → Given → List PlanAction → W → W
all_done d run g [] w = w
all_done d run g (a ∷ others) w = all_done d run g others (code_run run (d.act g w a) (d.code_of w a))
