-- Laws over plans that settle what becomes of a new image.
use Rattle.std.specs.Prelude.{◌≡◌, ℕ, true, false, Some, List, [], ◌∷◌}
use Rattle.instances_table.specs.declared.plans.action.PlanAction.{PlanAction}
use Rattle.instances_table.specs.declared.plans.action.PlanAction.TheVariants.{Slide}
use Rattle.instances_table.specs.declared.plans.given.Given.{Given}
use Rattle.instances_table.specs.plans.Calls.{clear_plan, instantiate_plan, load_plan, reinit_plan, tidy_plan}
use Rattle.instances_table.specs.plans.Doable.{without_all}
use Rattle.instances_table.specs.plans.Plans.{Plan, plan_after_action, first_action, plan_after_refusal}
use Rattle.instances.specs.actions.Actions.{image_given}
use Rattle.instances.specs.actions.Pending.{AreTitledAfter, IsSettledOnce, pending_of, settles}

-- Each call's plan settles the image once, when it is made; a load's, where the older instances
-- that go are all those of the title.
abbrev pub LoadSettles : Type 0
LoadSettles = (given : Given) (titled old : List ℕ) (slot : ℕ) → without_all old titled ≡ [] →
    IsSettledOnce titled (load_plan given old slot)

abbrev pub ClearSettles : Type 0
ClearSettles = (given : Given) (titled slots : List ℕ) → IsSettledOnce titled (clear_plan given slots)

abbrev pub ReinitSettles : Type 0
ReinitSettles = (given : Given) (titled : List ℕ) (slot : ℕ) → IsSettledOnce titled (reinit_plan given slot)

abbrev pub InstantiateSettles : Type 0
InstantiateSettles = (given : Given) (titled : List ℕ) (slot : ℕ) →
    IsSettledOnce titled (instantiate_plan given slot)

abbrev pub TidySettles : Type 0
TidySettles = (given : Given) (titled slots : List ℕ) → IsSettledOnce titled (tidy_plan given slots)

-- So it stays: after an action that was well, and after one whose code refused.
abbrev pub StaysSettled : Type 0
StaysSettled = (old new : List ℕ) (p : Plan) (a : PlanAction) → first_action p.actions ≡ Some a →
    AreTitledAfter a old new → IsSettledOnce old p
    → IsSettledOnce new (plan_after_action p a)

abbrev pub StaysSettledRefused : Type 0
StaysSettledRefused = (titled : List ℕ) (p : Plan) (a : PlanAction) (r0 : ℕ) →
    first_action p.actions ≡ Some a → IsSettledOnce titled p
    → IsSettledOnce titled (plan_after_refusal p a r0)

-- An action that settles nothing leaves the pending image pending; after one that does none is. A
-- refusal leaves it pending.
abbrev pub PendingStays : Type 0
PendingStays = (p : Plan) (a : PlanAction) → first_action p.actions ≡ Some a → settles a ≡ false →
    pending_of (plan_after_action p a) ≡ pending_of p

abbrev pub PendingIsSettled : Type 0
PendingIsSettled = (titled : List ℕ) (p : Plan) (a : PlanAction) → first_action p.actions ≡ Some a →
    IsSettledOnce titled p → settles a ≡ true
    → (pending_of p ≡ image_given p.given ∷ []) × (pending_of (plan_after_action p a) ≡ [])

-- A slide finds none pending, and leaves none.
abbrev pub NoneSlides : Type 0
NoneSlides = (titled : List ℕ) (p : Plan) → first_action p.actions ≡ Some Slide → IsSettledOnce titled p
    → (pending_of p ≡ []) × (pending_of (plan_after_action p Slide) ≡ [])

abbrev pub PendingOutlastsRefusal : Type 0
PendingOutlastsRefusal = (titled : List ℕ) (p : Plan) (a : PlanAction) (r0 : ℕ) →
    first_action p.actions ≡ Some a → IsSettledOnce titled p
    → pending_of (plan_after_refusal p a r0) ≡ pending_of p
