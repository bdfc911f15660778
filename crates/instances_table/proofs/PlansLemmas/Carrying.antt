-- Carrying a plan on, turn by turn and code by code.
use Rattle.std.proofs.Common.{◌≡◌, ◌≤◌, ℕ, suc, zero, false, Option, Some, None, List, [], ◌∷◌, length, refl, sym, ap, subst, arith}
use Rattle.instances_table.specs.declared.plans.action.PlanAction.{PlanAction}
use Rattle.instances_table.specs.declared.plans.code.Code.{Code}
use Rattle.instances_table.specs.declared.plans.given.Given.{Given}
use Rattle.instances_table.specs.plans.Carrying.{Doing, advance_of_plan, advanced_by, advanced_from, all_done, carry_of_plan, carried_after, carried_by, carried_from, carried_well, code_run, well_after}
use Rattle.instances_table.specs.plans.Laws.{CarriesByTurns, DoesAll, IsPlanDone}
use Rattle.instances_table.specs.plans.Plans.{Plan, actions_owed, plan_after_code}

-- the plan of a list of actions, no code of which is under way
abbrev plan_with : Plan → List PlanAction → Plan
plan_with p actions = record { given = p.given; actions = actions; instead = p.instead; runs = p.runs; first = p.first }

by_code : {W : Type 0} → (d : Doing W) (w : W) (p : Plan) (a : PlanAction) (others : List PlanAction) (o : Option Code)
    → carried_by d w (plan_with p (a ∷ others)) a others o (carried_from d others)
    ≡ carried_after d (advanced_by d w (plan_with p (a ∷ others)) a o) (advanced_by d w (plan_with p (a ∷ others)) a o).step
unfolding carry_of_plan plan_after_code
by_code d w p a others None = refl
by_code d w p a others (Some code) = refl

by_list : {W : Type 0} → (d : Doing W) (w : W) (p : Plan) (actions : List PlanAction)
    → carried_from d actions w (plan_with p actions)
    ≡ carried_after d (advanced_from d actions w (plan_with p actions)) (advanced_from d actions w (plan_with p actions)).step
by_list d w p [] = refl
by_list d w p (a ∷ others) = by_code d w p a others (d.code_of w a)

pub carries_by_turns : {W : Type 0} → CarriesByTurns W
unfolding carry_of_plan advance_of_plan
carries_by_turns d w p o = by_list d w (plan_after_code p o) (plan_after_code p o).actions

-- a plan that isn't under way
abbrev resting : Given → List PlanAction → List PlanAction → Option ℕ → Plan
resting g actions instead first = record { given = g; actions = actions; instead = instead; runs = false; first = first }

abbrev Does : {W : Type 0} → Doing W → (W → Code → W) → Given → Option ℕ → List PlanAction → Type 0
Does d run g first actions =
    (codes : ℕ) (instead : List PlanAction) (w : _) → length actions ≤ codes
    → IsPlanDone (carried_well d run codes w (resting g actions instead first)) (all_done d run g actions w) first

one_done : {W : Type 0} → (d : Doing W) (run : W → Code → W) (g : Given) (first : Option ℕ) (a : PlanAction) (others : List PlanAction) (codes : ℕ)
    (instead : List PlanAction) (w : W) (o : Option Code) → length others ≤ codes → Does d run g first others
    → (let p = resting g (a ∷ others) instead first in let c = carried_by d w p a others o (carried_from d others) in
    IsPlanDone (well_after run c c.code (carried_well d run codes)) (all_done d run g others (code_run run (d.act g w a) o)) first)
unfolding carry_of_plan plan_after_code
one_done d run g first a others codes instead w None few rest = rest (suc codes) (actions_owed instead a) (d.act g w a) (omega (arith, few))
one_done d run g first a others codes instead w (Some code) few rest = rest codes (actions_owed instead a) (run (d.act g w a) code) few

all_are_done : {W : Type 0} → (d : Doing W) (run : W → Code → W) (g : Given) (first : Option ℕ) (actions : List PlanAction) → Does d run g first actions
unfolding carry_of_plan
all_are_done d run g first [] zero instead w few = record { module_state = refl; code = refl; actions = refl; error = refl }
all_are_done d run g first [] (suc codes) instead w few = record { module_state = refl; code = refl; actions = refl; error = refl }
all_are_done d run g first (a ∷ others) zero instead w few = absurd (omega (arith, few))
all_are_done d run g first (a ∷ others) (suc codes) instead w few =
    one_done d run g first a others codes instead w (d.code_of w a) (omega (arith, few)) (all_are_done d run g first others)

pub does_all : {W : Type 0} → DoesAll W
does_all d run codes w p rests few =
    let same : resting p.given p.actions p.instead p.first ≡ p = ap (λ r. record { given = p.given; actions = p.actions; instead = p.instead; runs = r; first = p.first }) (sym rests) in
    subst (λ q. IsPlanDone (carried_well d run codes w q) (all_done d run p.given p.actions w) p.first) same (all_are_done d run p.given p.first p.actions codes p.instead w few)
