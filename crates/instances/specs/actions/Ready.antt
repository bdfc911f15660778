-- Plans whose actions all find what they need when their turns come, whatever module code answers
-- (this project's own).
use Rattle.std.specs.Prelude.{◌≡◌, ◌≢◌, ℕ, Bool, true, false, Some, List, [], ◌∷◌, map}
use Rattle.std.specs.List.{list_any}
use Rattle.instances_table.specs.declared.plans.action.PlanAction.{PlanAction}
use Rattle.instances_table.specs.declared.plans.action.PlanAction.TheVariants.{Remove, Insert, Instantiate, Slide}
use Rattle.instances_table.specs.declared.plans.given.Given.{Given}
use Rattle.instances_table.specs.plans.Calls.{clear_plan, instantiate_plan, load_plan, reinit_plan, tidy_plan}
use Rattle.instances_table.specs.plans.Doable.{IsDoable, without_all}
use Rattle.instances_table.specs.plans.Plans.{Plan, plan_after_action, first_action, plan_after_refusal}
use Rattle.instances_table.specs.Modules.{AreModules, Module, has_title, slots_of}
use Rattle.instances_table.specs.Changes.{without_instance}
use Rattle.instances.specs.actions.Actions.{with_another, with_new}
use Rattle.instances.specs.actions.Asked.{CanAct, is_taken}
use Rattle.instances.specs.actions.Pending.{IsSettledOnce, slots_titled}

-- An instantiation stands first, if at all: its name was found free, in a module that was found,
-- when the call was made.
abbrev pub instantiates : PlanAction → Bool
instantiates (Instantiate slot) = true
instantiates _ = false

pub record CanName (g : Given) (modules : List Module) : Type 0 where
  pub titled : list_any (has_title g.header.title.items) modules ≡ true
  pub named : is_taken g modules ≡ false

abbrev pub CanNameFirst : Given → List Module → List PlanAction → Type 0
CanNameFirst g modules [] = Unit {0}
CanNameFirst g modules (a ∷ others) = (list_any instantiates others ≡ false) ×
    (instantiates a ≡ true → CanName g modules)

pub record IsReady (modules : List Module) (p : Plan) : Type 0 where
  pub doable : IsDoable (slots_of modules) p
  pub settles : IsSettledOnce (slots_titled p.given.header.title.items modules) p
  pub names : CanNameFirst p.given modules p.actions
  pub instead : list_any instantiates p.instead ≡ false

-- a module wherever its image stands: a slide changes no more than that
abbrev pub outline : Module → Module
outline m = record m { image = record { at = 0; len = 0 } }

abbrev pub HaveSameOutlines : List Module → List Module → Type 0
HaveSameOutlines old new = map outline new ≡ map outline old

-- the modules after an action
abbrev pub AreAfter : Given → PlanAction → List Module → List Module → Type 0
AreAfter g (Remove slot) old new = new ≡ without_instance slot old
AreAfter g (Insert slot) old new = new ≡ with_new g slot old
AreAfter g (Instantiate slot) old new = new ≡ with_another g slot old
AreAfter g Slide old new = HaveSameOutlines old new
AreAfter g _ old new = new ≡ old

-- A plan that is ready finds what its next action asks for, and is ready still once that is done,
-- or has refused.
abbrev pub ReadyActs : Type 0
ReadyActs = (modules : List Module) (p : Plan) (a : PlanAction) → AreModules modules →
    first_action p.actions ≡ Some a → IsReady modules p → a ≢ Slide
    → CanAct p.given modules a

abbrev pub StaysReady : Type 0
StaysReady = (old new : List Module) (p : Plan) (a : PlanAction) → AreModules old →
    first_action p.actions ≡ Some a → IsReady old p → AreAfter p.given a old new
    → IsReady new (plan_after_action p a)

abbrev pub StaysReadyRefused : Type 0
StaysReadyRefused = (modules : List Module) (p : Plan) (a : PlanAction) (r0 : ℕ) →
    first_action p.actions ≡ Some a → IsReady modules p
    → IsReady modules (plan_after_refusal p a r0)

-- Each call's plan is ready when it is made, if it is doable: a load's where the older instances
-- that go are all those of the title, an instantiation's where its name is free.
abbrev pub LoadIsReady : Type 0
LoadIsReady = (given : Given) (modules : List Module) (old : List ℕ) (slot : ℕ) →
    IsDoable (slots_of modules) (load_plan given old slot)
    → without_all old (slots_titled given.header.title.items modules) ≡ [] →
    IsReady modules (load_plan given old slot)

abbrev pub ClearIsReady : Type 0
ClearIsReady = (given : Given) (modules : List Module) (slots : List ℕ) →
    IsDoable (slots_of modules) (clear_plan given slots)
    → IsReady modules (clear_plan given slots)

abbrev pub ReinitIsReady : Type 0
ReinitIsReady = (given : Given) (modules : List Module) (slot : ℕ) →
    IsDoable (slots_of modules) (reinit_plan given slot)
    → IsReady modules (reinit_plan given slot)

abbrev pub InstantiateIsReady : Type 0
InstantiateIsReady = (given : Given) (modules : List Module) (slot : ℕ) →
    IsDoable (slots_of modules) (instantiate_plan given slot)
    → CanName given modules → IsReady modules (instantiate_plan given slot)

abbrev pub TidyIsReady : Type 0
TidyIsReady = (given : Given) (modules : List Module) (slots : List ℕ) →
    IsDoable (slots_of modules) (tidy_plan given slots)
    → IsReady modules (tidy_plan given slots)

-- of slots none is left without all of them
abbrev pub AllGo : Type 0
AllGo = (slots : List ℕ) → without_all slots slots ≡ []
