-- An instance goes, and with the last one of a module its image.
use Rattle.std.proofs.Common.{◌≡◌, ℕ, List, [], ◌∷◌, refl, sym, ap, ◌∙◌, Some, None, Ok, Err, inl, inr}
use Rattle.std.specs.Prelude.{Option, Result}
use Rattle.std.proofs.lemmas.Bool.{cases_Bool}
use Rattle.instances_table.specs.Outcome.{Gives}
use Rattle.instances_table.specs.ErrorNumber.{ErrorNumber}
use Rattle.rma.specs.Ground.{AreaStore}
use Rattle.instances_table.specs.declared.parts.Image.{Image}
use Rattle.instances_table.specs.Modules.{Module, has_instance}
use Rattle.instances_table.specs.Changes.{module_without, without_instance}
use Rattle.instances_table.specs.Images.{image_unless, last_image}
use Rattle.instances.specs.module_state.ModuleState.{ModuleState, image_gone, image_gone_of, image_gone_with, or_same, private_freed, module_state_after_remove}

-- what a call gave, or refused
pub freed_by : {A : Type 0} (e h : AreaStore) (r : Result (AreaStore × A) ErrorNumber) (answer : Result A ErrorNumber) → Gives e r answer h → h ≡ or_same e r
freed_by e h (Ok r) (Ok u) given = given.0
freed_by e h (Ok r) (Err f) given = absurd given
freed_by e h (Err f) (Ok u) given = absurd given
freed_by e h (Err f) (Err g) given = given.1

-- an image goes, if one does
abbrev pub gone_by : AreaStore → Option Image → AreaStore
gone_by e None = e
gone_by e (Some image) = image_gone e image

gone_of : (e : AreaStore) (m : Module) (left : List Module) → image_gone_of e m left ≡ gone_by e (image_unless m left)
gone_of e m [] = refl
gone_of e m (l ∷ ls) = refl

gone_with : (e : AreaStore) (slot : ℕ) (ms : List Module) → image_gone_with e slot ms ≡ gone_by e (last_image slot ms)
gone_with e slot [] = refl
gone_with e slot (m ∷ ms) = elim (cases_Bool (has_instance slot m)) [
  | inl own ↦ rw own (gone_of e m (module_without slot m))
  | inr its ↦ rw its (gone_with e slot ms)
]

pub removed_by : (e f g : AreaStore) (ms ns : List Module) (slot : ℕ) (image : Option Image) → f ≡ private_freed e slot → ns ≡ without_instance slot ms
    → image ≡ last_image slot ms → g ≡ gone_by f image
    → (let w : ModuleState = record { area_store = g; modules = ns } in w) ≡ module_state_after_remove (record { area_store = e; modules = ms }) slot
unfolding module_state_after_remove
removed_by e f g ms ns slot image freed rest last gone =
    let all : g ≡ image_gone_with (private_freed e slot) slot ms =
    gone ∙ ap (gone_by f) last ∙ ap (λ (h : AreaStore). gone_by h (last_image slot ms)) freed ∙ sym (gone_with (private_freed e slot) slot ms) in
    λ i. record { area_store = all i; modules = rest i }
