-- The images of a module state are held whole, and share no byte.
use Rattle.std.proofs.Common.{◌≡◌, ◌≤◌, ◌%◌, ℕ, Bool, false, List, [], ◌∷◌, ◌++◌, map, refl, subst, inl, inr, arith}
use Rattle.std.specs.List.{AllByRecursion}
use Rattle.std.proofs.lemmas.Bool.{cases_Bool}
use Rattle.rma.specs.Bytes.{AreMapped}
use Rattle.rma.specs.Region.{Region}
use Rattle.rma.specs.lists.Heap.{HeapList}
use Rattle.rma.specs.Forgetting.{holds_heap}
use Rattle.rma.specs.Store.{AreRangesApart, ArePlaced, IsClearOfRanges, IsPlacedIn, is_image}
use Rattle.rma.proofs.ImageBlocks.{image_unheaped}
use Rattle.rma.proofs.Stores.{placed_either}
use Rattle.rma.specs.Ground.{AreRangesMapped, AreaStore, IsGround, IsRecorded}
use Rattle.instances_table.specs.declared.parts.Image.{Image}
use Rattle.instances_table.specs.ModuleArea.{is_in_module_area}
use Rattle.instances.specs.module_state.Laws.{ImagesAreApart, ImagesAreHeld, IsImageHeld}
use Rattle.instances.specs.module_state.Sound.{AreSolid, IsSolid, image_ranges, images_of, range_of, recorded_len}
use Rattle.instances.proofs.ModuleStateLemmas.AreaLemmas.{IsInPlace, in_place}

-- what is so of each record is so of those of images
each_image : (P : Region → Type 0) (mapped : ℕ → Bool) (hs : List HeapList) (rs : List Region)
    → ((r : Region) → IsRecorded r rs → IsSolid r → AreMapped mapped r.at r.len → IsPlacedIn hs r → P r) → AreSolid rs
    → AreRangesMapped mapped rs → ArePlaced hs rs → AllByRecursion P (image_ranges rs)
each_image P mapped hs [] is solid ranges placed = tt
each_image P mapped hs (r ∷ rs) is solid ranges placed =
    let rest : AllByRecursion P (image_ranges rs) =
    each_image P mapped hs rs (λ q there firm covered place. is q (inr there) firm covered place) solid.1 ranges.1 placed.1 in
    elim (cases_Bool (is_image r.kind)) [
      | inl image ↦ rw image (is r (inl refl) (solid.0 image) ranges.0 placed.0, rest)
      | inr other ↦ rw other rest
    ]

each_of : (P : Region → Type 0) (Q : Image → Type 0) (xs : List Image) → ((x : Image) → P (range_of x) → Q x) → AllByRecursion P (map range_of xs)
    → AllByRecursion Q xs
each_of P Q [] leads all = tt
each_of P Q (x ∷ xs) leads all = (leads x all.0, each_of P Q xs leads all.1)

-- a block has room for what it was claimed for
whole_len : (image : Image) → image.len ≤ recorded_len image
whole_len image = elim (cases_Bool (is_in_module_area image.at)) [
  | inl area ↦ rw area (omega arith)
  | inr place ↦ rw place (omega arith)
]

pub images_are_held : ImagesAreHeld
images_are_held w pending module_state =
    let e : AreaStore = w.area_store in
    let ground : IsGround e.store e.pool e.area_table = module_state.area_store.ground in
    let P : Region → Type 0 =
    λ r. IsRecorded r e.store.others × ((r.at % 4 ≡ 0) × (IsInPlace e r × (holds_heap e.store.heaps r.at r.len ≡ false))) in
    each_of P (IsImageHeld w) (images_of w.modules ++ pending)
    (λ image held. record {
      recorded = held.0;
      whole = whole_len image;
      aligned = held.1.0;
      block = held.1.1.0.block;
      unheaped = held.1.1.1;
      clear = held.1.1.0.clear;
    })
    (subst (AllByRecursion P) module_state.images (each_image P e.store.bytes.mapped e.store.heaps e.store.others
    (λ r there firm mapped place. (
      there,
      (
        firm.whole,
        (
          in_place e r module_state.area_store firm.some mapped (placed_either e.store.heaps r place),
          image_unheaped e.store.bytes r e.store.heaps ground.sound.heaps place,
        ),
      ),
    )) module_state.solid ground.ranges ground.sound.placed))

clear_of_images : (r : Region) (rs : List Region) → IsClearOfRanges r rs → IsClearOfRanges r (image_ranges rs)
clear_of_images r [] clear = tt
clear_of_images r (q ∷ rs) clear = elim (cases_Bool (is_image q.kind)) [
  | inl image ↦ rw image (clear.0, clear_of_images r rs clear.1)
  | inr other ↦ rw other (clear_of_images r rs clear.1)
]

images_apart : (rs : List Region) → AreRangesApart rs → AreRangesApart (image_ranges rs)
images_apart [] apart = tt
images_apart (r ∷ rs) apart = elim (cases_Bool (is_image r.kind)) [
  | inl image ↦ rw image (clear_of_images r rs apart.0, images_apart rs apart.1)
  | inr other ↦ rw other (images_apart rs apart.1)
]

pub images_are_apart : ImagesAreApart
images_are_apart w pending module_state = subst AreRangesApart module_state.images (images_apart w.area_store.store.others module_state.area_store.ground.sound.apart)
