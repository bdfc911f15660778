-- Laws over plans: what turns come to, what a call does whose code never refuses, and what one does
-- whose finalisation refuses.
use Rattle.std.specs.Prelude.{◌≡◌, ◌≤◌, ◌<◌, ℕ, true, false, Option, Some, None, List, [], ◌∷◌, ◌++◌, length}
use Rattle.instances_table.specs.declared.plans.action.PlanAction.{PlanAction}
use Rattle.instances_table.specs.declared.plans.action.PlanAction.TheVariants as act
use Rattle.instances_table.specs.declared.plans.code.Code.{Code}
use Rattle.instances_table.specs.declared.plans.code.Outcome.{Outcome}
use Rattle.instances_table.specs.declared.plans.code.Outcome.TheVariants.{Refused}
use Rattle.instances_table.specs.declared.plans.given.Given.{Given}
use Rattle.instances_table.specs.plans.Calls.{clear_plan, initialise_all, instantiate_plan, load_plan, reinit_plan, tidy_plan}
use Rattle.instances_table.specs.plans.Carrying.{Doing, Carried, advance_of_plan, all_done, carry_of_plan, carried_after, carried_well}
use Rattle.instances_table.specs.plans.Doable.{AreSlots, IsDoable, is_used, used_after, without_all}
use Rattle.instances_table.specs.plans.Plans.{Plan, plan_after_action, first_action, plan_after_refusal, plan_after_code, plan_with_code_entered}

-- A plan that is carried on takes turns until code is to be entered or nothing is left.
abbrev pub CarriesByTurns : Type 0 → Type 0
CarriesByTurns W = (d : Doing W) (w : W) (p : Plan) (o : Outcome) →
    carry_of_plan d w (plan_after_code p o) ≡ carried_after d (advance_of_plan d w p o)
    (advance_of_plan d w p o).step

-- The call is at its end, the module state is this one, and the first error is as before.
pub record IsPlanDone {W : Type 0} (c : Carried W) (w : W) (first : Option ℕ) : Type 0 where
  pub module_state : c.module_state ≡ w
  pub code : c.code ≡ None
  pub actions : c.rest.actions ≡ []
  pub error : c.rest.first ≡ first

-- A plan whose code never refuses does its list of actions, each once, in order, and nothing else.
abbrev pub DoesAll : Type 0 → Type 0
DoesAll W = (d : Doing W) (run : W → Code → W) (codes : ℕ) (w : W) (p : Plan) → p.runs ≡ false →
    length p.actions ≤ codes
    → IsPlanDone (carried_well d run codes w p) (all_done d run p.given p.actions w) p.first

-- the plan after so many finalisations of a tidy were well
abbrev pub plan_after_finalisations : List ℕ → Plan → Plan
plan_after_finalisations [] p = p
plan_after_finalisations (slot ∷ others) p = plan_after_finalisations others
    (plan_after_action (plan_with_code_entered p) (act.Finalise slot false))

-- A tidy whose next finalisation refuses initialises those that it has finalised, oldest first, and
-- slides nothing.
abbrev pub TidyGivesUp : Type 0
TidyGivesUp = (given : Given) (before others : List ℕ) (slot r0 : ℕ)
    → plan_after_code (plan_with_code_entered (plan_after_finalisations before
    (tidy_plan given (before ++ slot ∷ others)))) (Refused r0)
    ≡ record { given = given; actions = initialise_all before; instead = []; runs = false; first = Some r0 }

-- the plan after so many instances were finalised for good and removed
abbrev pub plan_after_removals : List ℕ → Plan → Plan
plan_after_removals [] p = p
plan_after_removals (slot ∷ others) p = plan_after_removals others
    (plan_after_action (plan_after_action (plan_with_code_entered p) (act.Finalise slot true))
    (act.Remove slot))

-- A clearing stops at the first finalisation that refuses, and those before stay removed.
abbrev pub ClearStops : Type 0
ClearStops = (given : Given) (before others : List ℕ) (slot r0 : ℕ)
    → plan_after_code (plan_with_code_entered (plan_after_removals before
    (clear_plan given (before ++ slot ∷ others)))) (Refused r0)
    ≡ record { given = given; actions = []; instead = []; runs = false; first = Some r0 }

-- Each call's plan is doable when it is made, if its slots are those of instances, all different,
-- and a slot for a new one is free.
abbrev pub LoadIsDoable : Type 0
LoadIsDoable = (given : Given) (used old : List ℕ) (slot : ℕ) → AreSlots used old →
    is_used slot (without_all old used) ≡ false → slot < 64
    → IsDoable used (load_plan given old slot)

abbrev pub ClearIsDoable : Type 0
ClearIsDoable = (given : Given) (used slots : List ℕ) → AreSlots used slots →
    IsDoable used (clear_plan given slots)

abbrev pub ReinitIsDoable : Type 0
ReinitIsDoable = (given : Given) (used : List ℕ) (slot : ℕ) → is_used slot used ≡ true →
    IsDoable used (reinit_plan given slot)

abbrev pub InstantiateIsDoable : Type 0
InstantiateIsDoable = (given : Given) (used : List ℕ) (slot : ℕ) → is_used slot used ≡ false → slot < 64 →
    IsDoable used (instantiate_plan given slot)

abbrev pub TidyIsDoable : Type 0
TidyIsDoable = (given : Given) (used slots : List ℕ) → AreSlots used slots →
    IsDoable used (tidy_plan given slots)

-- A plan stays doable: after an action that was well, and after one whose code refused.
abbrev pub StaysDoable : Type 0
StaysDoable = (used : List ℕ) (p : Plan) (a : PlanAction) → first_action p.actions ≡ Some a →
    IsDoable used p → IsDoable (used_after used a) (plan_after_action p a)

abbrev pub StaysDoableRefused : Type 0
StaysDoableRefused = (used : List ℕ) (p : Plan) (a : PlanAction) (r0 : ℕ) → first_action p.actions ≡ Some a →
    IsDoable used p → IsDoable used (plan_after_refusal p a r0)
