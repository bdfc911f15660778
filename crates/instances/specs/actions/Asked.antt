-- What an action asks of the modules when its turn comes (this project's own).
use Rattle.std.specs.Prelude.{◌≡◌, ◌<◌, ℕ, Bool, true, false, List}
use Rattle.instances_table.specs.declared.plans.action.PlanAction.{PlanAction}
use Rattle.instances_table.specs.declared.plans.action.PlanAction.TheVariants.{Finalise, Remove, FreePrivate, Insert, Instantiate, GiveUp, Slide, Initialise}
use Rattle.instances_table.specs.declared.plans.given.Given.{Given}
use Rattle.instances_table.specs.Additions.{is_named_at}
use Rattle.instances_table.specs.Modules.{Module}
use Rattle.instances_table.specs.Lookup.{number_of_title}
use Rattle.instances_table.specs.Changes.{is_slot_held, is_new}

-- has the module of the title an instance of the new name?
abbrev pub is_taken : Given → List Module → Bool
is_taken g modules = is_named_at g.name.items (number_of_title g.header.title.items modules) modules

-- a slot is free, and an instance of the new name may have it
pub record CanInstantiate (g : Given) (modules : List Module) (slot : ℕ) : Type 0 where
  pub below : slot < 64
  pub free : is_slot_held slot modules ≡ false
  pub named : is_taken g modules ≡ false

-- An action is done when its instance is there, or what it adds is new. A slide is done elsewhere.
abbrev pub CanAct : Given → List Module → PlanAction → Type 0
CanAct g modules (Finalise slot fatal) = Unit {0}
CanAct g modules (Remove slot) = slot < 64
CanAct g modules (FreePrivate slot) = slot < 64
CanAct g modules (Insert slot) = is_new g.header.title.items slot modules ≡ true
CanAct g modules (Instantiate slot) = CanInstantiate g modules slot
CanAct g modules GiveUp = Unit {0}
CanAct g modules Slide = ⊥
CanAct g modules (Initialise slot) = Unit {0}
