-- The images of modules after a module, or an instance, was added.
use Rattle.std.proofs.Common.{◌≡◌, ℕ, true, List, [], ◌∷◌, ◌++◌, refl, ap, ◌∙◌, Some, None}
use Rattle.std.specs.Prelude.{Option}
use Rattle.instances_table.specs.declared.plans.given.Given.{Given}
use Rattle.instances_table.specs.Additions.{added_to}
use Rattle.instances_table.specs.Modules.{Module}
use Rattle.instances_table.specs.Lookup.{number_of_title}
use Rattle.instances_table.specs.Changes.{is_new, new_module, with_instance, with_module}
use Rattle.instances.specs.module_state.Sound.{images_of}
use Rattle.instances.proofs.ModuleStateLemmas.ModuleStates.{images_added, images_changed}
use Rattle.instances.specs.actions.Actions.{image_given, with_another, with_new}

pub images_new : (g : Given) (slot : ℕ) (old new : List Module) → is_new g.header.title.items slot old ≡ true → new ≡ with_new g slot old
    → images_of new ++ [] ≡ images_of old ++ image_given g ∷ []
unfolding with_module
images_new g slot old new is added =
    let all : new ≡ old ++ new_module g.header (image_given g) slot ∷ [] = added ∙ rw is refl in
    ap (λ (ms : List Module). images_of ms ++ []) all ∙ images_added (new_module g.header (image_given g) slot) old

images_more : (number : Option ℕ) (name : List ℕ) (slot : ℕ) (ms : List Module) → images_of (added_to number name slot ms) ≡ images_of ms
images_more None name slot ms = refl
images_more (Some number) name slot ms = images_changed number (with_instance name slot) ms (λ m. refl)

pub images_another : (g : Given) (slot : ℕ) (ms : List Module) → images_of (with_another g slot ms) ≡ images_of ms
images_another g slot ms = images_more (number_of_title g.header.title.items ms) g.name.items slot ms
