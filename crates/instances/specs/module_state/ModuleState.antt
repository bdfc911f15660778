-- What module calls act on: memory with its heaps and areas, and the list of modules (RISC OS 3
-- Programmer's Reference Manual, "Modules", "OS_Module"). The places of the private words and of
-- the environment text are this project's own.
use Rattle.instances_table.specs.MemoryMap.{environment_text_start}
use Rattle.std.specs.Prelude.{ℕ, List, [], ◌∷◌, ◌++◌, Result, Ok, Err, if◌then◌else◌}
use Rattle.instances_table.specs.ErrorNumber.{ErrorNumber}
use Rattle.rma.specs.AddressMap.{AddressMap}
use Rattle.rma.specs.Bytes.{word_at, with_word_at, with_bytes_at}
use Rattle.rma.specs.Areas.{AreaTable}
use Rattle.rma.specs.Ground.{AreaStore, area_store_of}
use Rattle.rma.specs.Calls.{rma_freed, with_store}
use Rattle.rma.specs.Images.{image_dropped, image_freed}
use Rattle.instances_table.specs.plans.Code.{private_of}
use Rattle.instances_table.specs.declared.parts.Image.{Image}
use Rattle.instances_table.specs.ModuleArea.{is_in_module_area}
use Rattle.instances_table.specs.Modules.{Module, has_instance}
use Rattle.instances_table.specs.Changes.{module_without, without_instance}

-- The module state of module calls: an area store, and the modules that stand in it, oldest first.
pub record ModuleState : Type 0 where
  pub area_store : AreaStore
  pub modules : List Module

-- the module state that a map stands for, together with its areas and the modules
abbrev pub module_state_of : AddressMap → AreaTable → List Module → ModuleState
module_state_of m l modules = record { area_store = area_store_of m l; modules = modules }

abbrev pub area_store_with_bytes : AreaStore → (ℕ → ℕ) → AreaStore
area_store_with_bytes e bytes = with_store e (record e.store
    { bytes = record { mapped = e.store.bytes.mapped; at = bytes } })

-- the private word of the instance of a slot, and the environment text with the zero after it
abbrev pub private_word : AreaStore → ℕ → ℕ
private_word e slot = word_at e.store.bytes.at (private_of slot)

abbrev pub with_private : AreaStore → ℕ → ℕ → AreaStore
with_private e slot value = area_store_with_bytes e (with_word_at e.store.bytes.at (private_of slot) value)

abbrev pub with_text : AreaStore → List ℕ → AreaStore
with_text e text = area_store_with_bytes e (with_bytes_at e.store.bytes.at environment_text_start
    (text ++ 0 ∷ []))

-- A block goes where the module area gives it back: a live one, no image, that holds no anchor.
abbrev pub or_same : {A : Type 0} → AreaStore → Result (AreaStore × A) ErrorNumber → AreaStore
or_same e (Ok r) = r.0
or_same e (Err f) = e

abbrev pub area_store_after_free : AreaStore → ℕ → AreaStore
area_store_after_free e block = or_same e (rma_freed e block)

-- The block that a private word names goes, then the word is 0.
unfoldable pub private_freed : AreaStore → ℕ → AreaStore
private_freed e slot = with_private (area_store_after_free e (private_word e slot)) slot 0

-- An image is no image any more; in the module area its block goes.
unfoldable pub image_gone : AreaStore → Image → AreaStore
image_gone e image = with_store e (if is_in_module_area image.at then image_freed e.store image.at
    else image_dropped e.store image.at)

-- With the last instance of a module its image goes: the module that has the slot, if nothing of it
-- is left.
abbrev pub image_gone_of : AreaStore → Module → List Module → AreaStore
image_gone_of e m [] = image_gone e m.image
image_gone_of e m (left ∷ others) = e

abbrev pub image_gone_with : AreaStore → ℕ → List Module → AreaStore
image_gone_with e slot [] = e
image_gone_with e slot (m ∷ ms) =
    if has_instance slot m then image_gone_of e m (module_without slot m) else image_gone_with e slot ms

-- Removal of an instance: its private word's block, then the word, then the instance; and with the
-- last one the image. These are two releases, one after the other.
unfoldable pub module_state_after_remove : ModuleState → ℕ → ModuleState
module_state_after_remove w slot = record {
  area_store = image_gone_with (private_freed w.area_store slot) slot w.modules;
  modules = without_instance slot w.modules;
}
