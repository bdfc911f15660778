-- What a module state says of the images of modules, and of those that are pending.
use Rattle.std.specs.Prelude.{◌≡◌, ◌≤◌, ◌%◌, true, false, List, ◌++◌, map}
use Rattle.std.specs.List.{AllByRecursion}
use Rattle.rma.specs.Forgetting.{holds_heap}
use Rattle.rma.specs.Store.{AreRangesApart, IsClearOfHeaps, IsImageIn}
use Rattle.rma.specs.Ground.{IsRecorded}
use Rattle.instances_table.specs.declared.parts.Image.{Image}
use Rattle.instances_table.specs.ModuleArea.{is_in_module_area}
use Rattle.instances.specs.module_state.Sound.{IsModuleState, images_of, range_of, recorded_len}
use Rattle.instances.specs.module_state.ModuleState.{ModuleState}

-- An image begins at a multiple of 4, and is recorded with its whole length. In the module area the
-- record covers just what a live block holds, and elsewhere bytes that are no heap's.
pub record IsImageHeld (w : ModuleState) (image : Image) : Type 0 where
  pub recorded : IsRecorded (range_of image) w.area_store.store.others
  pub whole : image.len ≤ recorded_len image
  pub aligned : image.at % 4 ≡ 0
  pub block : is_in_module_area image.at ≡ true → IsImageIn w.area_store.store.heaps (range_of image)
  pub unheaped : holds_heap w.area_store.store.heaps image.at (recorded_len image) ≡ false
  pub clear : is_in_module_area image.at ≡ false → IsClearOfHeaps image.at
      (recorded_len image) w.area_store.store.heaps

abbrev pub ImagesAreHeld : Type 0
ImagesAreHeld = (w : ModuleState) (pending : List Image) → IsModuleState w pending →
    AllByRecursion (IsImageHeld w) (images_of w.modules ++ pending)

-- no two of them share a byte
abbrev pub ImagesAreApart : Type 0
ImagesAreApart = (w : ModuleState) (pending : List Image) → IsModuleState w pending →
    AreRangesApart (map range_of (images_of w.modules ++ pending))
