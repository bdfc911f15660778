-- The instances that a call on modules may still come to: those that its plan names, by their slots
-- (this project's own).
use Rattle.std.specs.Prelude.{◌≡◌, ◌==◌, ℕ, true, false, IfSome, Option, Some, None, Result, Ok, Err, List, [], ◌∷◌, ◌++◌}
use Rattle.instances_table.specs.plans.HeaderFault.{HeaderFault}
use Rattle.instances_table.specs.plans.Header.{Header}
use Rattle.instances_table.specs.declared.plans.action.PlanAction.{PlanAction}
use Rattle.instances_table.specs.declared.plans.action.PlanAction.TheVariants.{Finalise, Remove, FreePrivate, Insert, Instantiate, Initialise}
use Rattle.instances_table.specs.declared.plans.code.Code.{Code}
use Rattle.instances_table.specs.plans.Doable.{is_used}
use Rattle.instances_table.specs.plans.Plans.{Plan}
use Rattle.instances_table.specs.Changes.{modules_of_title}
use Rattle.instances_table.specs.Modules.{Module, slots_of}

-- the slot that an action names, if it names one
abbrev pub slot_of_action : PlanAction → List ℕ
slot_of_action (Finalise slot fatal) = slot ∷ []
slot_of_action (Remove slot) = slot ∷ []
slot_of_action (FreePrivate slot) = slot ∷ []
slot_of_action (Insert slot) = slot ∷ []
slot_of_action (Instantiate slot) = slot ∷ []
slot_of_action (Initialise slot) = slot ∷ []
slot_of_action _ = []

abbrev pub slots_of_actions : List PlanAction → List ℕ
slots_of_actions [] = []
slots_of_actions (a ∷ others) = slot_of_action a ++ slots_of_actions others

-- those of the actions that are left, and of what would be done in their place
abbrev pub slots_of_plan : Plan → List ℕ
slots_of_plan p = slots_of_actions p.actions ++ slots_of_actions p.instead

-- those of the plan that is kept, if one is
abbrev pub slots_of_kept : Option Plan → List ℕ
slots_of_kept None = []
slots_of_kept (Some p) = slots_of_plan p

-- Of the instances that are there a plan names none but those in some slots.
abbrev pub NamesOnly : List ℕ → List Module → Plan → Type 0
NamesOnly slots modules p = (s : ℕ) → is_used s (slots_of modules) ≡ true → is_used s slots ≡ false →
    is_used s (slots_of_plan p) ≡ false

-- The plan of a call that adds a module, by the header of its image, names those of its title.
abbrev pub NamesTitled : List Module → Plan → Result Header HeaderFault → Type 0
NamesTitled modules p (Err fault) = ⊥
NamesTitled modules p (Ok header) = NamesOnly (slots_of
    (modules_of_title header.title.items modules)) modules p

-- A call that is carried on comes to no instance that its plan doesn't name: what is left of the
-- plan names none of them, each stays as it was, there or not, and the code that is entered next is
-- of an instance that is there, and none of them.
pub record KeepsOtherInstances (old new : List Module) (p q : Plan) (code : Option Code) : Type 0 where
  pub named : (s : ℕ) → is_used s (slots_of_plan p) ≡ false → is_used s (slots_of_plan q) ≡ false
  pub held : (s : ℕ) → is_used s (slots_of_plan p) ≡ false →
      is_used s (slots_of new) ≡ is_used s (slots_of old)
  pub there : IfSome code (λ c. is_used c.slot (slots_of new) ≡ true)
  pub apart : IfSome code (λ c. (s : ℕ) → is_used s (slots_of_plan p) ≡ false → (c.slot == s) ≡ false)
