-- The image of a new module while its call is under way: it is recorded, and no module's yet. A
-- plan settles what becomes of it just once: a module gets it, or it is given up (this project's
-- own).
use Rattle.std.specs.Prelude.{◌≡◌, ℕ, Bool, true, false, List, [], ◌∷◌, ◌++◌, map, if◌then◌else◌}
use Rattle.std.specs.List.{list_any}
use Rattle.instances_table.specs.declared.plans.action.PlanAction.{PlanAction}
use Rattle.instances_table.specs.declared.plans.action.PlanAction.TheVariants.{Finalise, Remove, FreePrivate, Insert, Instantiate, GiveUp, Slide, Initialise}
use Rattle.instances_table.specs.declared.plans.given.Given.{Given}
use Rattle.instances_table.specs.plans.Doable.{without}
use Rattle.instances_table.specs.plans.Plans.{Plan, actions_owed}
use Rattle.instances_table.specs.declared.parts.Image.{Image}
use Rattle.instances_table.specs.Modules.{Instance, Module, has_title}
use Rattle.instances.specs.actions.Actions.{image_given}

-- does an action settle it?
abbrev pub settles : PlanAction → Bool
settles (Insert slot) = true
settles GiveUp = true
settles _ = false

abbrev pub is_pending : List PlanAction → Bool
is_pending actions = list_any settles actions

abbrev pub pending_by : Bool → Given → List Image → List Image
pending_by true g others = image_given g ∷ others
pending_by false g others = others

-- the images that a plan has still to settle: one, or none
abbrev pub pending_of : Plan → List Image
pending_of p = pending_by (is_pending p.actions) p.given []

-- What is done instead of a plan initialises instances, and gives the image up at most once.
abbrev pub GivesUpOnce : List PlanAction → Type 0
GivesUpOnce [] = Unit {0}
GivesUpOnce (GiveUp ∷ others) = (is_pending others ≡ false) × GivesUpOnce others
GivesUpOnce (Initialise slot ∷ others) = GivesUpOnce others
GivesUpOnce _ = ⊥

-- Nothing settles the image twice; what is done instead, where a finalisation refuses, settles it
-- just where the rest would have; an insertion comes only when the instances of the older module of
-- that title are gone, whose slots are `titled`, and none comes after an instantiation or a slide.
abbrev pub SettlesOnce : List ℕ → List PlanAction → List PlanAction → Type 0
SettlesOnce titled instead [] = Unit {0}
SettlesOnce titled instead (Finalise slot fatal ∷ others) =
    (is_pending instead ≡ is_pending others) × (GivesUpOnce instead ×
    SettlesOnce titled (actions_owed instead (Finalise slot fatal)) others)
SettlesOnce titled instead (Remove slot ∷ others) = SettlesOnce (without slot titled) instead others
SettlesOnce titled instead (FreePrivate slot ∷ others) = SettlesOnce titled instead others
SettlesOnce titled instead (Insert slot ∷ others) = (titled ≡ []) ×
    ((is_pending others ≡ false) × SettlesOnce titled instead others)
SettlesOnce titled instead (Instantiate slot ∷ others) = (is_pending others ≡ false) ×
    SettlesOnce titled instead others
SettlesOnce titled instead (GiveUp ∷ others) = (is_pending others ≡ false) × SettlesOnce titled instead others
SettlesOnce titled instead (Slide ∷ others) = (is_pending others ≡ false) × SettlesOnce titled instead others
SettlesOnce titled instead (Initialise slot ∷ others) = SettlesOnce titled instead others ×
    SettlesOnce (without slot titled) instead others

abbrev pub IsSettledOnce : List ℕ → Plan → Type 0
IsSettledOnce titled p = SettlesOnce titled p.instead p.actions

-- What an action makes of the slots of a title's instances. After an insertion or an instantiation
-- they don't matter.
abbrev pub AreTitledAfter : PlanAction → List ℕ → List ℕ → Type 0
AreTitledAfter (Remove slot) old new = new ≡ without slot old
AreTitledAfter (Insert slot) old new = Unit {0}
AreTitledAfter (Instantiate slot) old new = Unit {0}
AreTitledAfter _ old new = new ≡ old

-- the slots of the instances of the module of a title
abbrev pub slots_titled : List ℕ → List Module → List ℕ
slots_titled title [] = []
slots_titled title (m ∷ ms) =
    if has_title title m then map (λ (i : Instance). i.slot) m.instances ++ slots_titled title ms
    else slots_titled title ms
