-- Plans that find what they name: each action, when its turn comes, an instance in the slot that it
-- names, and each that adds one a free slot, whatever module code answers (this project's own).
-- `used` lists the slots of all instances.
use Rattle.std.specs.Prelude.{◌≡◌, ◌<◌, ℕ, Bool, true, false, ◌==◌, ◌||◌, List, [], ◌∷◌, ◌++◌, if◌then◌else◌}
use Rattle.instances_table.specs.declared.plans.action.PlanAction.{PlanAction}
use Rattle.instances_table.specs.declared.plans.action.PlanAction.TheVariants.{Finalise, Remove, FreePrivate, Insert, Instantiate, GiveUp, Slide, Initialise}
use Rattle.instances_table.specs.plans.Plans.{Plan, actions_owed}

abbrev pub is_used : ℕ → List ℕ → Bool
is_used slot [] = false
is_used slot (s ∷ others) = s == slot || is_used slot others

abbrev pub without : ℕ → List ℕ → List ℕ
without slot [] = []
without slot (s ∷ others) = if s == slot then without slot others else s ∷ without slot others

-- the slots after an action
abbrev pub used_after : List ℕ → PlanAction → List ℕ
used_after used (Remove slot) = without slot used
used_after used (Insert slot) = used ++ slot ∷ []
used_after used (Instantiate slot) = used ++ slot ∷ []
used_after used _ = used

-- What stands instead of a plan gives an image up and initialises instances; one that refuses is
-- removed.
abbrev pub StandsInstead : List ℕ → List PlanAction → Type 0
StandsInstead used [] = Unit {0}
StandsInstead used (GiveUp ∷ others) = StandsInstead used others
StandsInstead used (Initialise slot ∷ others) = (is_used slot used ≡ true) ×
    (StandsInstead used others × StandsInstead (without slot used) others)
StandsInstead used _ = ⊥

-- A finalisation may refuse, and what stands instead is done; an initialisation may refuse, and its
-- instance goes.
abbrev pub CanDo : List ℕ → List PlanAction → List PlanAction → Type 0
CanDo used instead [] = Unit {0}
CanDo used instead (Finalise slot fatal ∷ others) =
    (is_used slot used ≡ true) × (StandsInstead used instead ×
    CanDo used (actions_owed instead (Finalise slot fatal)) others)
CanDo used instead (Remove slot ∷ others) = (is_used slot used ≡ true) ×
    CanDo (without slot used) instead others
CanDo used instead (FreePrivate slot ∷ others) = (is_used slot used ≡ true) × CanDo used instead others
CanDo used instead (Insert slot ∷ others) = (is_used slot used ≡ false) ×
    ((slot < 64) × CanDo (used ++ slot ∷ []) instead others)
CanDo used instead (Instantiate slot ∷ others) = (is_used slot used ≡ false) ×
    ((slot < 64) × CanDo (used ++ slot ∷ []) instead others)
CanDo used instead (GiveUp ∷ others) = CanDo used instead others
CanDo used instead (Slide ∷ others) = CanDo used instead others
CanDo used instead (Initialise slot ∷ others) = (is_used slot used ≡ true) ×
    (CanDo used instead others × CanDo (without slot used) instead others)

abbrev pub IsDoable : List ℕ → Plan → Type 0
IsDoable used p = CanDo used p.instead p.actions

-- slots of instances, all different
abbrev pub AreSlots : List ℕ → List ℕ → Type 0
AreSlots used [] = Unit {0}
AreSlots used (slot ∷ others) = (is_used slot used ≡ true) ×
    ((is_used slot others ≡ false) × AreSlots used others)

abbrev pub without_all : List ℕ → List ℕ → List ℕ
without_all [] used = used
without_all (slot ∷ others) used = without_all others (without slot used)
