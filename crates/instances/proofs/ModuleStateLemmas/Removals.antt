-- The images after one went: that of the module whose last instance was removed, or the pending
-- one.
use Rattle.instances_table.specs.MemoryMap.{module_area_start}
use Rattle.std.proofs.Common.{◌≡◌, ℕ, Bool, true, false, inl, inr, ◌+◌, ◌==◌, List, [], ◌∷◌, ◌++◌, map, refl, sym, ap, ◌∙◌, Ok, Err, Some, None}
use Rattle.std.specs.Prelude.{Option, Result, ok_or, if◌then◌else◌}
use Rattle.std.specs.List.{list_any}
use Rattle.std.proofs.lemmas.Bool.{both_ways, cases_Bool, eq-eqb, eqb-true, false_from_ne_true, or_parts}
use Rattle.instances_table.specs.Outcome.{bind}
use Rattle.instances_table.specs.ErrorNumber.{ErrorNumber}
use Rattle.instances_table.specs.ErrorNumber.TheVariants.{HeapBadDesc, HeapHoldsAnchor, HeapNotABlock}
use Rattle.rma.specs.Records.{without_region}
use Rattle.rma.specs.Item.{Item}
use Rattle.rma.specs.Kind.TheVariants as kind
use Rattle.rma.specs.Region.{Region}
use Rattle.rma.specs.lists.Heap.{HeapList}
use Rattle.rma.specs.lists.Lists.{live_total, items_after_release}
use Rattle.rma.specs.OsHeapCalls.{gave_back, store_holding, holds_anchor, total_or_0, unless_image}
use Rattle.rma.specs.Forgetting.{store_after_forget}
use Rattle.rma.specs.Store.{Store, find_heap, has_image}
use Rattle.rma.specs.Ground.{AreaStore, IsAreaStore, IsRecorded, system_pages_range}
use Rattle.rma.specs.Calls.{in_area, rma_freed}
use Rattle.rma.specs.Images.{image_dropped, image_freed, or_kept}
use Rattle.instances_table.specs.declared.parts.Image.{Image}
use Rattle.instances_table.specs.ModuleArea.{is_in_module_area}
use Rattle.instances_table.specs.Modules.{Instance, Module, has_instance, has_slot}
use Rattle.instances_table.specs.Changes.{module_without, still, without_first_passing, without_instance}
use Rattle.instances.specs.module_state.Sound.{AreSolid, IsModuleState, count_beside, image_ranges, images_of, range_of}
use Rattle.instances.specs.module_state.ModuleState.{ModuleState, area_store_after_free, image_gone, image_gone_of, image_gone_with, or_same, private_freed, private_word, module_state_after_remove}
use Rattle.instances.proofs.ModuleStateLemmas.Images.{AreDifferent, beside_less, ranges_less, solid_less, starts_at, system_less}
use Rattle.instances.proofs.ModuleStateLemmas.ModuleStates.{images_differ, module_state_less}

-- the ranges of the images after the removal of an instance
abbrev pub ranges_of_rest : Module → List Module → List Region → List Region
ranges_of_rest m [] rs = without_first_passing (starts_at m.image.at) rs
ranges_of_rest m (left ∷ others) rs = rs

abbrev pub ranges_left : ℕ → List Module → List Region → List Region
ranges_left slot [] rs = rs
ranges_left slot (m ∷ ms) rs = if has_instance slot m then ranges_of_rest m (module_without slot m) rs else ranges_left slot ms rs

-- the range of another image stays where it is
other_way : (x y : ℕ) → (x == y) ≡ false → (y == x) ≡ false
other_way x y differ = false_from_ne_true (y == x) (λ same. both_ways (x == y) differ (eq-eqb x y (sym (eqb-true y x same))))

rest_keeps : (m : Module) (left : List Module) (r : Region) (rs : List Region) → (m.image.at == r.at) ≡ false
    → ranges_of_rest m left (r ∷ rs) ≡ r ∷ ranges_of_rest m left rs
rest_keeps m [] r rs differ = rw (other_way m.image.at r.at differ) refl
rest_keeps m (l ∷ ls) r rs differ = refl

keeps_first : (slot : ℕ) (r : Region) (ms : List Module) (rs : List Region) → list_any (starts_at r.at) (map range_of (images_of ms)) ≡ false
    → ranges_left slot ms (r ∷ rs) ≡ r ∷ ranges_left slot ms rs
keeps_first slot r [] rs others = refl
keeps_first slot r (m ∷ ms) rs others =
    let parts = or_parts (m.image.at == r.at) (list_any (starts_at r.at) (map range_of (images_of ms))) others in
    elim (cases_Bool (has_instance slot m)) [
      | inl own ↦ rw own (rest_keeps m (module_without slot m) r rs parts.0)
      | inr its ↦ rw its (keeps_first slot r ms rs parts.1)
    ]

in_front : (test : Region → Bool) (xs ys : List Image) → list_any test (map range_of (xs ++ ys)) ≡ false → list_any test (map range_of xs) ≡ false
in_front test [] ys none = refl
in_front test (x ∷ xs) ys none =
    let parts = or_parts (test (range_of x)) (list_any test (map range_of (xs ++ ys))) none in
    rw (parts.0, in_front test xs ys parts.1) refl

first_left : (slot : ℕ) (m : Module) (left : List Instance) (ms : List Module) (pending : List Image)
    → ranges_of_rest m (still slot m left) (map range_of (m.image ∷ (images_of ms ++ pending)))
    ≡ map range_of (images_of (still slot m left ++ ms) ++ pending)
first_left slot m [] ms pending = rw (eq-eqb m.image.at m.image.at refl) refl
first_left slot m (i ∷ others) ms pending = refl

pub ranges_removed : (slot : ℕ) (modules : List Module) (pending : List Image) → AreDifferent (map range_of (images_of modules ++ pending))
    → ranges_left slot modules (map range_of (images_of modules ++ pending)) ≡ map range_of (images_of (without_instance slot modules) ++ pending)
ranges_removed slot [] pending different = refl
ranges_removed slot (m ∷ ms) pending different =
    let none : list_any (starts_at m.image.at) (map range_of (images_of ms)) ≡ false = in_front (starts_at m.image.at) (images_of ms) pending different.0 in
    elim (cases_Bool (has_instance slot m)) [
      | inl own ↦ rw own (first_left slot m (without_first_passing (has_slot slot) m.instances) ms pending)
      | inr its ↦ rw its (keeps_first slot (range_of m.image) ms (map range_of (images_of ms ++ pending)) none
          ∙ ap (λ (rs : List Region). range_of m.image ∷ rs) (ranges_removed slot ms pending different.1))
    ]

-- the pending image goes
pub ranges_given_up : (image : Image) (xs : List Image) → AreDifferent (map range_of (xs ++ image ∷ []))
    → without_first_passing (starts_at image.at) (map range_of (xs ++ image ∷ [])) ≡ map range_of (xs ++ [])
ranges_given_up image [] different = rw (eq-eqb image.at image.at refl) refl
ranges_given_up image (x ∷ xs) different =
    let differ : (x.at == image.at) ≡ false = other_way image.at x.at (last_differs x.at xs different.0) in
    rw differ (ap (λ (rs : List Region). range_of x ∷ rs) (ranges_given_up image xs different.1)) where
      last_differs : (at : ℕ) (xs : List Image) → list_any (starts_at at) (map range_of (xs ++ image ∷ [])) ≡ false → (image.at == at) ≡ false
      last_differs at [] none = (or_parts (image.at == at) false none).0
      last_differs at (y ∷ ys) none = last_differs at ys (or_parts (y.at == at) (list_any (starts_at at) (map range_of (ys ++ image ∷ []))) none).1

-- A release keeps all records but those of heaps that it forgets.
released_others : (s : Store) (h : HeapList) (block total : ℕ) (held : Bool) (r : Option (List Item))
    → (or_kept s (bind (ok_or r HeapNotABlock) (λ items.
    if held then Err HeapHoldsAnchor else Ok (store_holding (store_after_forget s block total block) h items, tt)))).others ≡ s.others
released_others s h block total held None = refl
released_others s h block total true (Some items) = refl
released_others s h block total false (Some items) = refl

pub given_back_others : (s : Store) (heap block : ℕ) → (or_kept s (gave_back s heap block)).others ≡ s.others
unfolding gave_back
given_back_others s heap block = go (find_heap heap s.heaps) where
  go : (found : Option HeapList) → (or_kept s (bind (ok_or found HeapBadDesc) (λ h.
      bind (ok_or (unless_image (has_image block s.others) (items_after_release block (h.start + 16) h.items)) HeapNotABlock) (λ items.
      if holds_anchor s.anchor block (live_total block (h.start + 16) h.items) then Err HeapHoldsAnchor else
      Ok (store_holding (store_after_forget s block (total_or_0 (live_total block (h.start + 16) h.items)) block) h items, tt))))).others ≡ s.others
  go None = refl
  go (Some h) = released_others s h block (total_or_0 (live_total block (h.start + 16) h.items)) (holds_anchor s.anchor block (live_total block (h.start + 16) h.items))
      (unless_image (has_image block s.others) (items_after_release block (h.start + 16) h.items))

freed_as_kept : (e : AreaStore) (r : Result (Store × Unit {0}) ErrorNumber) → (or_same e (in_area e r)).store ≡ or_kept e.store r
freed_as_kept e (Ok r) = refl
freed_as_kept e (Err f) = refl

pub freed_others : (e : AreaStore) (block : ℕ) → (area_store_after_free e block).store.others ≡ e.store.others
unfolding rma_freed
freed_others e block =
    ap (λ (s : Store). s.others) (freed_as_kept e (gave_back e.store module_area_start block)) ∙ given_back_others e.store module_area_start block

pub private_freed_others : (e : AreaStore) (slot : ℕ) → (private_freed e slot).store.others ≡ e.store.others
unfolding private_freed
private_freed_others e slot = freed_others e (private_word e slot)

gone_others : (s : Store) (at : ℕ) (inside : Bool) → (if inside then image_freed s at else image_dropped s at).others ≡ without_region s.others kind.Image at
unfolding image_freed image_dropped
gone_others s at true = given_back_others (image_dropped s at) module_area_start at
gone_others s at false = refl

pub image_gone_others : (e : AreaStore) (image : Image) → (image_gone e image).store.others ≡ without_region e.store.others kind.Image image.at
unfolding image_gone
image_gone_others e image = gone_others e.store image.at (is_in_module_area image.at)

-- what is left of the records and of the images
record AreLeft (slot : ℕ) (modules : List Module) (old new : List Region) : Type 0 where
  system : IsRecorded system_pages_range old → IsRecorded system_pages_range new
  solid : AreSolid old → AreSolid new
  beside : count_beside new ≡ count_beside old
  ranges : image_ranges new ≡ ranges_left slot modules (image_ranges old)

rest_left : (e : AreaStore) (m : Module) (left : List Module)
    → (IsRecorded system_pages_range e.store.others → IsRecorded system_pages_range (image_gone_of e m left).store.others)
    × (AreSolid e.store.others → AreSolid (image_gone_of e m left).store.others)
    × (count_beside (image_gone_of e m left).store.others ≡ count_beside e.store.others)
    × (image_ranges (image_gone_of e m left).store.others ≡ ranges_of_rest m left (image_ranges e.store.others))
rest_left e m [] =
    let others = image_gone_others e m.image in (
      λ there. rw others (system_less m.image.at e.store.others there),
      λ solid. rw others (solid_less m.image.at e.store.others solid),
      ap count_beside others ∙ beside_less m.image.at e.store.others,
      ap image_ranges others ∙ ranges_less m.image.at e.store.others,
    )
rest_left e m (l ∷ ls) = (λ there. there, λ solid. solid, refl, refl)

are_left : (e : AreaStore) (slot : ℕ) (modules : List Module) → AreLeft slot modules e.store.others (image_gone_with e slot modules).store.others
are_left e slot [] = record { system = λ there. there; solid = λ solid. solid; beside = refl; ranges = refl }
are_left e slot (m ∷ ms) = elim (cases_Bool (has_instance slot m)) [
  | inl own ↦
      let rest = rest_left e m (module_without slot m) in
      record {
        system = rw own rest.0;
        solid = rw own rest.1;
        beside = rw own rest.2;
        ranges = rw own rest.3;
      }
  | inr its ↦
      let rest = are_left e slot ms in
      record {
        system = rw its rest.system;
        solid = rw its rest.solid;
        beside = rw its rest.beside;
        ranges = rw its rest.ranges;
      }
]

-- The module state stays one where an instance is removed, and where an image is given up.
pub module_state_removed : (w : ModuleState) (slot : ℕ) (pending : List Image) → IsModuleState w pending → IsAreaStore (module_state_after_remove w slot).area_store → IsModuleState (module_state_after_remove w slot) pending
unfolding module_state_after_remove
module_state_removed w slot pending module_state area_store =
    let freed : AreaStore = private_freed w.area_store slot in
    let same : freed.store.others ≡ w.area_store.store.others = private_freed_others w.area_store slot in
    let left = are_left freed slot w.modules in
    let ranges = ap image_ranges same ∙ module_state.images in
    record {
      area_store = area_store;
      system = left.system (rw same module_state.system);
      images = left.ranges ∙ ap (λ (rs : List Region). ranges_left slot w.modules rs) ranges
          ∙ ranges_removed slot w.modules pending (images_differ w pending module_state);
      solid = left.solid (rw same module_state.solid);
      few = rw (left.beside, same) module_state.few;
    }

pub module_state_given_up : (w : ModuleState) (image : Image) → IsModuleState w (image ∷ []) → IsAreaStore (image_gone w.area_store image)
    → IsModuleState (record w { area_store = image_gone w.area_store image }) []
module_state_given_up w image module_state area_store =
    module_state_less w (record w { area_store = image_gone w.area_store image }) image.at (image ∷ []) [] module_state (image_gone_others w.area_store image)
    (ranges_given_up image (images_of w.modules) (images_differ w (image ∷ []) module_state)) area_store
