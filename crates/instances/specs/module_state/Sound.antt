-- What holds of the module state of modules between all module calls, and within one (this project's own):
-- each module's image is recorded, with its whole length, one record to a module, in the order of
-- the modules.
use Rattle.instances_table.specs.MemoryMap.{system_start}
use Rattle.std.specs.Prelude.{ℕ, ◌≡◌, ◌≤◌, ◌<◌, ◌-◌, ◌%◌, true, suc, List, [], ◌∷◌, ◌++◌, map, if◌then◌else◌}
use Rattle.rma.specs.AddressMap.{AddressMap}
use Rattle.rma.specs.Kind.TheVariants as kind
use Rattle.rma.specs.Region.{Region}
use Rattle.rma.specs.Bytes.{AreMapped}
use Rattle.rma.specs.Memory.{is_mapped}
use Rattle.rma.specs.lists.Lists.{total_for}
use Rattle.rma.specs.Store.{IsSound, is_image, store_of}
use Rattle.rma.specs.Ground.{IsAreaStore, IsRecorded, system_pages_range}
use Rattle.instances_table.specs.declared.parts.Image.{Image}
use Rattle.instances_table.specs.ModuleArea.{is_in_module_area}
use Rattle.instances_table.specs.Modules.{Module}
use Rattle.instances.specs.module_state.ModuleState.{ModuleState}

-- the records of images, oldest first, and how many other records there are
abbrev pub image_ranges : List Region → List Region
image_ranges [] = []
image_ranges (r ∷ rs) = if is_image r.kind then r ∷ image_ranges rs else image_ranges rs

abbrev pub count_beside : List Region → ℕ
count_beside [] = 0
count_beside (r ∷ rs) = if is_image r.kind then count_beside rs else suc (count_beside rs)

-- no image is empty, and each begins at a multiple of 4
pub record IsSolid (r : Region) : Type 0 where
  pub some : 0 < r.len
  pub whole : r.at % 4 ≡ 0

abbrev pub AreSolid : List Region → Type 0
AreSolid [] = Unit {0}
AreSolid (r ∷ rs) = (is_image r.kind ≡ true → IsSolid r) × AreSolid rs

-- How many bytes are recorded for an image: in the module area all that a block holds which is
-- claimed for it, elsewhere just its own.
abbrev pub recorded_len : Image → ℕ
recorded_len image = if is_in_module_area image.at then total_for image.len - 4 else image.len

abbrev pub range_of : Image → Region
range_of image = record { kind = kind.Image; at = image.at; len = recorded_len image }

abbrev pub images_of : List Module → List Image
images_of modules = map (λ (m : Module). m.image) modules

-- The memory is sound, and the system pages are among its records. The images recorded are those of
-- the modules, and after these the `pending` ones, which a call under way has recorded and not
-- added to the modules yet. Beside images there are the records of the system pages and of the flex
-- store at most.
pub record IsModuleState (w : ModuleState) (pending : List Image) : Type 0 where
  pub area_store : IsAreaStore w.area_store
  pub system : IsRecorded system_pages_range w.area_store.store.others
  pub images : image_ranges w.area_store.store.others ≡ map range_of (images_of w.modules ++ pending)
  pub solid : AreSolid w.area_store.store.others
  pub few : count_beside w.area_store.store.others ≤ 2

-- Memory whose system pages are mapped and recorded, so that no heap has a byte there.
pub record HasSystemPages (m : AddressMap) : Type 0 where
  pub sound : IsSound (store_of m)
  pub recorded : IsRecorded system_pages_range (store_of m).others
  pub mapped : AreMapped (is_mapped m) system_start 0x3000
