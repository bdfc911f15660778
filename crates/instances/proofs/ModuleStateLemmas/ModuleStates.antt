-- What calls keep of the module state: its area store and its records, with the images in the order of the
-- modules.
use Rattle.std.proofs.Common.{◌≡◌, ℕ, ◌+◌, ◌%◌, ◌≤◌, ◌<◌, List, [], ◌∷◌, ◌++◌, length, map, zero, suc, refl, sym, ap, ◌∙◌, arith, length-append, append-nil, append_assoc}
use Rattle.std.proofs.lemmas.List.{length-map, map-append}
use Rattle.rma.specs.Records.{without_region}
use Rattle.rma.specs.Kind.TheVariants as kind
use Rattle.rma.specs.Region.{Region}
use Rattle.rma.specs.Ground.{IsAreaStore}
use Rattle.instances_table.specs.declared.parts.Image.{Image}
use Rattle.instances_table.specs.Modules.{Module, changed_at}
use Rattle.instances_table.specs.Changes.{without_first_passing}
use Rattle.instances.specs.module_state.Sound.{IsModuleState, image_ranges, images_of, range_of, recorded_len}
use Rattle.instances.specs.module_state.ModuleState.{ModuleState}
use Rattle.instances.proofs.ModuleStateLemmas.Images.{AreDifferent, beside_less, beside_more, count_all, ranges_differ, ranges_less, ranges_more, solid_less, solid_more, starts_at, system_less, system_more}

-- the same records and modules
pub module_state_kept : (v w : ModuleState) (pending : List Image) → IsModuleState v pending → w.modules ≡ v.modules → w.area_store.store.others ≡ v.area_store.store.others
    → IsAreaStore w.area_store → IsModuleState w pending
module_state_kept v w pending module_state modules others area_store = record {
  area_store = area_store;
  system = rw others module_state.system;
  images = rw (others, modules) module_state.images;
  solid = rw others module_state.solid;
  few = rw others module_state.few;
}

-- other modules, whose images lie in the same order
pub module_state_renewed : (v w : ModuleState) (pending new : List Image) → IsModuleState v pending → images_of w.modules ++ new ≡ images_of v.modules ++ pending
    → w.area_store.store.others ≡ v.area_store.store.others → IsAreaStore w.area_store → IsModuleState w new
module_state_renewed v w pending new module_state modules others area_store = record {
  area_store = area_store;
  system = rw others module_state.system;
  images = ap image_ranges others ∙ module_state.images ∙ ap (map range_of) (sym modules);
  solid = rw others module_state.solid;
  few = rw others module_state.few;
}

-- a module changes, and its image stays as it is
pub images_changed : (number : ℕ) (change : Module → Module) (modules : List Module) → ((m : Module) → (change m).image ≡ m.image)
    → images_of (changed_at number change modules) ≡ images_of modules
images_changed number change [] same = refl
images_changed zero change (m ∷ ms) same = rw (same m) refl
images_changed (suc number) change (m ∷ ms) same = ap (λ (xs : List Image). m.image ∷ xs) (images_changed number change ms same)

-- the pending image becomes the youngest module's
pub images_added : (m : Module) (modules : List Module) → images_of (modules ++ m ∷ []) ++ [] ≡ images_of modules ++ m.image ∷ []
images_added m modules = append-nil (images_of (modules ++ m ∷ [])) ∙ map-append (λ (x : Module). x.image) modules (m ∷ [])

-- an image that is recorded becomes the pending one
pub module_state_more : (v w : ModuleState) (image : Image) (pending : List Image) → IsModuleState v pending → w.modules ≡ v.modules
    → w.area_store.store.others ≡ v.area_store.store.others ++ range_of image ∷ [] → 0 < recorded_len image → image.at % 4 ≡ 0 → IsAreaStore w.area_store
    → IsModuleState w (pending ++ image ∷ [])
module_state_more v w image pending module_state modules others long whole area_store =
    let rs : List Region = v.area_store.store.others in
    let len : ℕ = recorded_len image in
    let old : List Image = images_of v.modules in
    let ranges : image_ranges w.area_store.store.others ≡ image_ranges rs ++ range_of image ∷ [] = ap image_ranges others ∙ ranges_more image.at len rs in
    let all : image_ranges rs ++ range_of image ∷ [] ≡ map range_of (old ++ (pending ++ image ∷ [])) =
    ap (λ (xs : List Region). xs ++ range_of image ∷ []) module_state.images ∙ sym (map-append range_of (old ++ pending) (image ∷ []))
    ∙ ap (map range_of) (append_assoc old pending (image ∷ [])) in
    record {
      area_store = area_store;
      system = rw others (system_more _ rs module_state.system);
      images = ranges ∙ all ∙ ap (λ (ms : List Module). map range_of (images_of ms ++ (pending ++ image ∷ []))) (sym modules);
      solid = rw others (solid_more image.at len rs long whole module_state.solid);
      few = rw (others, beside_more image.at len rs) module_state.few;
    }

-- an image's record goes
pub module_state_less : (v w : ModuleState) (at : ℕ) (pending new : List Image) → IsModuleState v pending
    → w.area_store.store.others ≡ without_region v.area_store.store.others kind.Image at
    → without_first_passing (starts_at at) (map range_of (images_of v.modules ++ pending)) ≡ map range_of (images_of w.modules ++ new) → IsAreaStore w.area_store
    → IsModuleState w new
module_state_less v w at pending new module_state others modules area_store =
    let rs : List Region = v.area_store.store.others in
    let ranges : image_ranges w.area_store.store.others ≡ without_first_passing (starts_at at) (image_ranges rs) = ap image_ranges others ∙ ranges_less at rs in
    record {
      area_store = area_store;
      system = rw others (system_less at rs module_state.system);
      images = ranges ∙ ap (λ (xs : List Region). without_first_passing (starts_at at) xs) module_state.images ∙ modules;
      solid = rw others (solid_less at rs module_state.solid);
      few = rw (others, beside_less at rs) module_state.few;
    }

-- all images start at different addresses
pub images_differ : (w : ModuleState) (pending : List Image) → IsModuleState w pending → AreDifferent (map range_of (images_of w.modules ++ pending))
images_differ w pending module_state =
    let ranges : AreDifferent (image_ranges w.area_store.store.others) = ranges_differ w.area_store.store.others module_state.solid module_state.area_store.ground.sound.apart in
    rw (sym module_state.images) ranges

-- there is room for an image more
pub few_records : (w : ModuleState) (pending : List Image) → IsModuleState w pending → length w.modules ≤ 64 → length pending ≤ 1 → length w.area_store.store.others < 68
few_records w pending module_state modules one =
    let all = count_all w.area_store.store.others in
    let images : length (image_ranges w.area_store.store.others) ≡ length (images_of w.modules ++ pending) =
    ap length module_state.images ∙ length-map (images_of w.modules ++ pending) range_of in
    let parts : length (images_of w.modules ++ pending) ≡ length (images_of w.modules) + length pending = length-append (images_of w.modules) pending in
    let number : length (images_of w.modules) ≡ length w.modules = length-map w.modules (λ (m : Module). m.image) in
    omega (arith, all, images, parts, number, modules, one, module_state.few)
