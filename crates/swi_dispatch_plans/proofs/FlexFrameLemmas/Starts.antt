-- What the making of the flex store leaves: a record more, and an empty store.
use Rattle.std.proofs.Common.{ℕ, ◌≡◌, ◌-◌, is_some, Bool, true, false, [], ◌∷◌, ◌++◌, suc, Option, Some, None, refl, sym, ap, subst, ◌∙◌}
use Rattle.std.proofs.lemmas.Bool.{both_ways, false≢true, true≢false}
use Rattle.os_heap.specs.Bytes.{AreMapped}
use Rattle.os_heap.specs.Classes.{is_anchor}
use Rattle.os_heap.specs.Memory.{Mapping, class_of, free_pages, is_mapped, regions}
use Rattle.os_heap.specs.AddressMap.{AddressMap}
use Rattle.flex_store.specs.Store.{others_in, store_of}
use Rattle.instances.specs.Areas.{AreaTable}
use Rattle.instances.specs.Ground.{AreAreas}
use Rattle.instances.specs.flex_frame.Keeping.{AreAnchorsFree}
use Rattle.instances.proofs.ImageLemmas.{mapped_more}
use Rattle.flex_store.specs.Calls.{FlexState, flex_record, is_flex_range}
use Rattle.flex_store.specs.Kept.{KeepsMarksAndHeaps}
use Rattle.flex_store.specs.State.{IsFlex, IsFlexAt, state_of_flex}
use Rattle.flex_store.specs.declared.flex.Extent.{Extent}
use Rattle.flex_store.specs.declared.flex.Flex.{Flex}
use Rattle.flex_store.proofs.Starting.{good_range}
use Rattle.instances.specs.module_state.Sound.{count_beside}
use Rattle.flex_store.proofs.Recorded.{others_in-other}
use Rattle.swi_dispatch_plans.proofs.FlexFrameLemmas.ModuleStates.{beside_begun}
use Rattle.swi_dispatch_plans.proofs.FlexFrameLemmas.Calls.{flex_is, flex_stays_by, store_spelled}
use Rattle.swi_dispatch_plans.specs.flex_frame.Ground.{HasFlex, flex_of, records_with, store_flexed, with_flex_record}

pub others_made : (m n : AddressMap) (start end : ℕ) → regions n ≡ regions m ++ flex_record start end ∷ []
    → (store_of n).others ≡ (store_of m).others ++ flex_record start end ∷ []
unfolding store_of
others_made m n start end records = ap others_in records ∙ others_in-other (regions m) (flex_record start end) refl

others_same : (m n : AddressMap) → regions n ≡ regions m → (store_of n).others ≡ (store_of m).others
unfolding store_of
others_same m n records = ap others_in records

-- the store and its place, where the call was done
pub made_left : (m n : AddressMap) (g : Flex) (t : FlexState) (start end : ℕ) → KeepsMarksAndHeaps m n g.extent → regions n ≡ regions m ++ flex_record start end ∷ []
    → state_of_flex n g ≡ t → (store_of n ≡ store_flexed (with_flex_record (store_of m) start end) t) × (g ≡ flex_of t.flex)
unfolding state_of_flex
made_left m n g t start end made records state = (
  store_spelled m n g ((store_of m).others ++ flex_record start end ∷ []) made.flex (others_made m n start end records) made.heaps
      ∙ ap (store_flexed (with_flex_record (store_of m) start end)) state,
  flex_is n g made.flex ∙ ap (λ (x : FlexState). flex_of x.flex) state,
)

-- and where it was refused
pub unmade_left : (m n : AddressMap) (f g : Flex) → IsFlex m f → KeepsMarksAndHeaps m n g.extent → regions n ≡ regions m → state_of_flex n g ≡ state_of_flex m f
    → (store_of n ≡ store_of m) × (g ≡ f)
unmade_left m n f g is made records state = flex_stays_by m n f g is made.flex (others_same m n records) made.heaps state

-- the areas stand on memory with a record more, whose range is mapped
pub made_areas : (m n : AddressMap) (g : Flex) (l : AreaTable) (start end : ℕ) → KeepsMarksAndHeaps m n g.extent → regions n ≡ regions m ++ flex_record start end ∷ []
    → AreMapped (is_mapped m) start (end - start) → AreAreas (store_of m) (free_pages m) l → AreAreas (store_of n) (free_pages n) l
unfolding store_of
made_areas m n g l start end made records there areas =
    let free : free_pages n ≡ free_pages m = ap (λ (p : Mapping). p.free_pages) made.mapping in
    let mapped : is_mapped n ≡ is_mapped m = ap (λ (p : Mapping). λ (a : ℕ). is_some (p.place a)) made.mapping in
    let others = others_made m n start end records in
    let ground = areas.ground in
    record {
      ground = record {
        sizes = ground.sizes;
        table = ground.table;
        area_table = λ x. ap (λ (f : ℕ → Bool). f x) mapped ∙ ground.area_table x;
        pages = rw free ground.pages;
        ranges = rw (mapped, others) (mapped_more (is_mapped m) (others_in (regions m)) (flex_record start end) ground.ranges there);
        sound = made.sound;
      };
      heap = rw made.heaps areas.heap;
    }

pub unmade_areas : (m n : AddressMap) (g : Flex) (l : AreaTable) → KeepsMarksAndHeaps m n g.extent → store_of n ≡ store_of m → AreAreas (store_of m) (free_pages m) l
    → AreAreas (store_of n) (free_pages n) l
unmade_areas m n g l made store areas =
    let free : free_pages n ≡ free_pages m = ap (λ (p : Mapping). p.free_pages) made.mapping in
    rw (free, store) areas

-- the range that the call was done with is mapped
pub room_there : (m : AddressMap) (start end : ℕ) → is_flex_range (store_of m) start end ≡ true → AreMapped (is_mapped m) start (end - start)
room_there m start end room = (good_range m start end room).there

-- what holds of the store then: it has no anchor, and its range is the second record beside images
no_extent : (o : Option Extent) → is_some o ≡ false → o ≡ None
no_extent None is = refl
no_extent (Some e) is = absurd (true≢false is)

anchorless : (m n : AddressMap) (f : Flex) → IsFlex m f → f.extent ≡ None → class_of n ≡ class_of m → (a : ℕ) → (store_of n).anchor a ≡ false
unfolding store_of
anchorless m n f is none marks a =
    let no = subst (IsFlexAt m) none is in
    ap (λ (c : ℕ → _). is_anchor (c a)) marks ∙ no.anchors a

pub has_made : (m n : AddressMap) (f g : Flex) (start end : ℕ) → HasFlex m f → f.extent ≡ None → is_some g.extent ≡ true → KeepsMarksAndHeaps m n g.extent
    → regions n ≡ regions m ++ flex_record start end ∷ [] → HasFlex n g
unfolding AreAnchorsFree
has_made m n f g start end has none some made records = record {
  is = made.flex;
  free = λ a is. absurd (both_ways ((store_of n).anchor a) (anchorless m n f has.is none made.marks a) is);
  beside =
      ap count_beside (others_made m n start end records) ∙ beside_begun start end (store_of m).others ∙ ap suc (has.beside ∙ ap records_with none)
      ∙ sym (records_some g.extent some);
} where
  records_some : (o : Option Extent) → is_some o ≡ true → records_with o ≡ 2
  records_some None is = absurd (false≢true is)
  records_some (Some e) is = refl
