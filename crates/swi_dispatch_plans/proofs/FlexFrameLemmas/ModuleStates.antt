-- The module state of modules once the flex store has begun: its range is one record more, and no image.
use Rattle.std.proofs.Common.{◌≡◌, ℕ, List, [], ◌∷◌, ◌++◌, map, suc, inl, inr, refl, ap, sym, ◌∙◌, arith}
use Rattle.std.proofs.lemmas.Bool.{cases_Bool, false≢true}
use Rattle.os_heap.specs.Region.{Region}
use Rattle.flex_store.specs.Store.{is_image}
use Rattle.flex_store.specs.Calls.{flex_record}
use Rattle.instances.specs.Modules.{Module}
use Rattle.instances.specs.module_state.Sound.{AreSolid, count_beside, image_ranges, images_of, range_of}
use Rattle.instances.proofs.ModuleStateLemmas.Images.{system_more}
use Rattle.swi_dispatch_plans.specs.flex_frame.ModuleStateLaws.{BegunModuleState}

pub ranges_begun : (start end : ℕ) (rs : List Region) → image_ranges (rs ++ flex_record start end ∷ []) ≡ image_ranges rs
ranges_begun start end [] = refl
ranges_begun start end (r ∷ rs) = elim (cases_Bool (is_image r.kind)) [
  | inl image ↦ rw image (ap (λ (xs : List Region). r ∷ xs) (ranges_begun start end rs))
  | inr other ↦ rw other (ranges_begun start end rs)
]

pub beside_begun : (start end : ℕ) (rs : List Region) → count_beside (rs ++ flex_record start end ∷ []) ≡ suc (count_beside rs)
beside_begun start end [] = refl
beside_begun start end (r ∷ rs) = elim (cases_Bool (is_image r.kind)) [
  | inl image ↦ rw image (beside_begun start end rs)
  | inr other ↦ rw other (ap suc (beside_begun start end rs))
]

solid_begun : (start end : ℕ) (rs : List Region) → AreSolid rs → AreSolid (rs ++ flex_record start end ∷ [])
solid_begun start end [] solid = ((λ image. absurd (false≢true image)), tt)
solid_begun start end (r ∷ rs) solid = (solid.0, solid_begun start end rs solid.1)

pub begun_module_state : BegunModuleState
begun_module_state w v pending start end begun module_state =
    let rs : List Region = w.area_store.store.others in
    record {
      area_store = begun.area_store;
      system = rw begun.others (system_more (flex_record start end) rs module_state.system);
      images = ap image_ranges begun.others ∙ (ranges_begun start end rs ∙ (module_state.images
          ∙ ap (λ (ms : List Module). map range_of (images_of ms ++ pending)) (sym begun.modules)));
      solid = rw begun.others (solid_begun start end rs module_state.solid);
      few = rw (begun.others, beside_begun start end rs, begun.first) (omega arith);
    }
