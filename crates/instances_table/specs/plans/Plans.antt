-- A plan: the rest of a module call, as a list of actions (RISC OS 3 Programmer's Reference Manual,
-- "Modules", the reasons of OS_Module). An action whose code runs stays the head of the list until
-- that code has come back.
use Rattle.std.specs.Prelude.{ℕ, Bool, true, false, Option, Some, None, List, [], ◌∷◌, ◌++◌, if◌then◌else◌}
use Rattle.instances_table.specs.declared.plans.action.PlanAction.{PlanAction}
use Rattle.instances_table.specs.declared.plans.action.PlanAction.TheVariants.{Finalise, Remove, Initialise}
use Rattle.instances_table.specs.declared.plans.code.Ended.{Ended}
use Rattle.instances_table.specs.declared.plans.code.Ended.TheVariants as ended
use Rattle.instances_table.specs.declared.plans.code.Outcome.{Outcome}
use Rattle.instances_table.specs.declared.plans.code.Outcome.TheVariants.{Well, Refused}
use Rattle.instances_table.specs.declared.plans.given.Given.{Given}

-- `actions` is what is left to do; `instead` is what is done in place of that where a finalisation
-- refuses; `runs` says that the code of the first action is under way; `first` is the R0 of the
-- first error met.
pub record Plan : Type 0 where
  pub given : Given
  pub actions : List PlanAction
  pub instead : List PlanAction
  pub runs : Bool
  pub first : Option ℕ

-- a plan at the call, of which nothing is done yet
abbrev pub plan_of : Given → List PlanAction → List PlanAction → Plan
plan_of given actions instead = record {
  given = given;
  actions = actions;
  instead = instead;
  runs = false;
  first = None;
}

abbrev pub first_action : List PlanAction → Option PlanAction
first_action [] = None
first_action (a ∷ others) = Some a

abbrev pub all_but_first : List PlanAction → List PlanAction
all_but_first [] = []
all_but_first (a ∷ others) = others

-- An instance that a tidy has finalised owes its initialisation, should another refuse. A fatal
-- finalisation owes nothing.
abbrev pub actions_owed : List PlanAction → PlanAction → List PlanAction
actions_owed instead (Finalise slot false) = instead ++ Initialise slot ∷ []
actions_owed instead _ = instead

-- the first error stays
abbrev pub first_error : Option ℕ → ℕ → Option ℕ
first_error None r0 = Some r0
first_error (Some earlier) r0 = Some earlier

-- the code of the first action is entered
abbrev pub plan_with_code_entered : Plan → Plan
plan_with_code_entered p = record p { runs = true }

-- the first action is done
abbrev pub plan_after_action : Plan → PlanAction → Plan
plan_after_action p a = record p {
  actions = all_but_first p.actions;
  instead = actions_owed p.instead a;
  runs = false;
}

-- The code of the first action refused. After a finalisation the rest isn't done, but what stands
-- in its place; an instance whose initialisation refused is removed, and the rest goes on. No other
-- action has code.
abbrev pub plan_after_refusal : Plan → PlanAction → ℕ → Plan
plan_after_refusal p (Finalise slot fatal) r0 = record p
    { actions = p.instead; instead = []; runs = false; first = first_error p.first r0 }
plan_after_refusal p (Initialise slot) r0 = record p {
  actions = Remove slot ∷ all_but_first p.actions;
  runs = false;
  first = first_error p.first r0;
}
plan_after_refusal p _ r0 = p

abbrev pub settled_by : Plan → Outcome → Option PlanAction → Plan
settled_by p o None = p
settled_by p Well (Some a) = plan_after_action p a
settled_by p (Refused r0) (Some a) = plan_after_refusal p a r0

-- the plan after the code that was under way has come back, if any was
unfoldable pub plan_after_code : Plan → Outcome → Plan
plan_after_code p o = if p.runs then settled_by p o (first_action p.actions) else p

-- how a call ends whose plan has nothing left to do
abbrev pub end_by : Option ℕ → Ended
end_by None = ended.Well
end_by (Some r0) = ended.Own r0
