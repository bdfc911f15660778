-- Calls that add a module: what they read is mapped, and what they leave is a module state whose new image
-- is pending.
use Rattle.std.proofs.Common.{◌≡◌, ◌%◌, ◌∙◌, ℕ, ◌+◌, ◌-◌, ◌==◌, sym, ap, ◌&&◌, ◌<◌, ◌≤◌, true, false, List, [], ◌∷◌, ◌++◌, length, refl, Ok, Err, inl, inr, arith}
use Rattle.std.specs.Prelude.{IfOk, Result, nat_lt, not}
use Rattle.std.proofs.lemmas.Bool.{and_parts, both_ways, cases_Bool, eqb-true, false_from_ne_true, le-leb, lt-ltb, ltb-false, or_from, or_parts}
use Rattle.rma.specs.Bytes.{AreMapped, bytes_between, in_range}
use Rattle.rma.proofs.Viewing.{bytes_counted}
use Rattle.rma.specs.Kind.TheVariants as kind
use Rattle.rma.specs.Region.{Region}
use Rattle.instances_table.specs.plans.ModuleHeaderHeader.{header_of}
use Rattle.instances_table.specs.plans.HeaderFault.{HeaderFault}
use Rattle.instances_table.specs.plans.HeaderFault.TheVariants.{Short}
use Rattle.instances_table.specs.plans.Header.{Header}
use Rattle.rma.specs.lists.Lists.{total_for}
use Rattle.rma.proofs.RangeTests.{are_mapped_all, clear_of_heaps}
use Rattle.rma.specs.Ranges.{are_bytes_mapped}
use Rattle.rma.specs.Store.{Store, has_image, is_image, store_of}
use Rattle.rma.specs.Ground.{AreaStore, IsAreaStore}
use Rattle.rma.specs.Copies.{has_bare, may_be_copied}
use Rattle.rma.specs.flex_frame.Keeping.{is_in_record}
use Rattle.rma.specs.NewImages.{image_record, may_be_in_place, with_image_in_place}
use Rattle.rma.proofs.InPlaceLemmas.{MayBe, may_be}
use Rattle.instances_table.specs.ModuleArea.{is_in_module_area}
use Rattle.instances_table.specs.declared.parts.Image.{Image}
use Rattle.instances.specs.module_state.Sound.{AreSolid, IsModuleState, range_of, recorded_len}
use Rattle.instances.specs.module_state.ModuleState.{ModuleState}
use Rattle.instances.proofs.ModuleStateLemmas.AreaLemmas.{stays_outside}
use Rattle.instances.proofs.ModuleStateLemmas.ModuleStates.{module_state_more}
use Rattle.instances.specs.Adding.{AddsInBlock, AddsInPlace, good_header}
use Rattle.instances.specs.module_state.Kept.{IsModuleMap}
use Rattle.instances_table.specs.Modules.{Module}
use Rattle.rma.proofs.FlexFrameLemmas.Keeping.{keeps_same}
use Rattle.rma.specs.AddressMap.{AddressMap}
use Rattle.rma.specs.Areas.{AreaTable}
use Rattle.instances_table.specs.ErrorNumber.{ErrorNumber}

-- where no record lies no image begins, since none is empty
pub no_image : (at : ℕ) (rs : List Region) → AreSolid rs → is_in_record rs at ≡ false → has_image at rs ≡ false
no_image at [] solid none = refl
no_image at (r ∷ rs) solid none =
    let parts = or_parts (in_range r.at r.len at) (is_in_record rs at) none in
    or_from (is_image r.kind && r.at == at) (has_image at rs)
    (false_from_ne_true (is_image r.kind && r.at == at) (λ is.
    let both = and_parts (is_image r.kind) (r.at == at) is in
    let here : r.at ≡ at = eqb-true r.at at both.1 in
    let some : 0 < r.len = (solid.0 both.0).some in
    both_ways (in_range r.at r.len at) parts.0 (rw (le-leb r.at at (omega (arith, here)), lt-ltb at (r.at + r.len) (omega (arith, here, some))) refl)))
    (no_image at rs solid.1 parts.1)

-- the image that begins at an address
abbrev pub placed_at : ℕ → ℕ → Image
placed_at block len = record { at = block; len = len }

-- the image of a block that was claimed is pending
pub module_state_with_block : (v w : ModuleState) (block len : ℕ) → IsModuleState v [] → w.modules ≡ v.modules → block % 4 ≡ 0 → is_in_module_area block ≡ true → is_in_record v.area_store.store.others block ≡ false
    → (has_image block v.area_store.store.others ≡ false → w.area_store.store.others ≡ v.area_store.store.others ++ image_record block len ∷ [])
    → IsAreaStore w.area_store → IsModuleState w (placed_at block len ∷ [])
module_state_with_block v w block len module_state modules whole inside alone others area_store =
    let len_is : recorded_len (placed_at block len) ≡ total_for len - 4 = rw inside refl in
    let range_is : range_of (placed_at block len) ≡ image_record block len = λ i. record { kind = kind.Image; at = block; len = len_is i } in
    module_state_more v w (placed_at block len) [] module_state modules
    (others (no_image block v.area_store.store.others module_state.solid alone) ∙ ap (λ (r : Region). v.area_store.store.others ++ r ∷ []) (sym range_is))
    (omega (arith, len_is)) whole area_store

-- and so is an image in place, which lies outside the module area
pub module_state_in_place : (v w : ModuleState) (at len : ℕ) → IsModuleState v [] → w.modules ≡ v.modules → may_be_in_place v.area_store.store at len ≡ true → 0 < len
    → w.area_store.store ≡ with_image_in_place v.area_store.store at len → IsAreaStore w.area_store → IsModuleState w (placed_at at len ∷ [])
module_state_in_place v w at len module_state modules may some store area_store =
    let r : Region = record { kind = kind.Image; at = at; len = len } in
    let is : MayBe v.area_store.store at len = may_be v.area_store.store at len may in
    let outside : is_in_module_area at ≡ false =
    stays_outside v.area_store r module_state.area_store some is.mapped (clear_of_heaps at len v.area_store.store.heaps is.heaps) in
    let len_is : recorded_len (placed_at at len) ≡ len = rw outside refl in
    let range_is : range_of (placed_at at len) ≡ r = λ i. record { kind = kind.Image; at = at; len = len_is i } in
    module_state_more v w (placed_at at len) [] module_state modules
    (ap (λ (s : Store). s.others) store ∙ ap (λ (q : Region). v.area_store.store.others ++ q ∷ []) (sym range_is))
    (omega (arith, len_is, some)) is.aligned area_store

-- A call that is refused at once keeps all.
pub none_in_place : (m : AddressMap) (l : AreaTable) (modules : List Module) (e : ErrorNumber) → IsModuleMap m l modules → AddsInPlace m m l modules (Err e)
none_in_place m l modules e state = record {
  sound = tt;
  classes = state.classes;
  mapping = refl;
  order = refl;
  flex = keeps_same (store_of m);
}

pub none_in_block : (m : AddressMap) (l : AreaTable) (modules : List Module) (e : ErrorNumber) → IsModuleMap m l modules → AddsInBlock m m l l modules (Err e)
none_in_block m l modules e state = record {
  sound = tt;
  classes = state.classes;
  order = refl;
  places = λ a is. refl;
  flex = keeps_same (store_of m);
  sizes = refl;
}

-- an image with a good header isn't empty
pub header_long : (image : List ℕ) (header : Header) → header_of image ≡ Ok header → 28 ≤ length image
header_long image header is = elim (cases_Bool (nat_lt (length image) 28)) [
  | inl short ↦ absurd (let no : Err Short ≡ Ok header = rw short at is in cc)
  | inr long ↦ ltb-false (length image) 28 long
]

-- so an image in memory isn't
pub header_some : (f : ℕ → ℕ) (at len : ℕ) (header : Header) → header_of (bytes_between f at len) ≡ Ok header → 0 < len
header_some f at len header is =
    omega (arith, header_long (bytes_between f at len) header is, bytes_counted f at len)

-- a header that is good is the one that was read
pub header_good : (r : Result Header HeaderFault) → IfOk (good_header r) (λ header. r ≡ Ok header)
header_good (Ok header) = refl
header_good (Err fault) = tt

-- a range that may be copied is mapped
pub copied_mapped : (e : AreaStore) (at len : ℕ) → may_be_copied e at len ≡ true → AreMapped e.store.bytes.mapped at len
copied_mapped e at len may =
    are_mapped_all e.store.bytes.mapped at len (and_parts (are_bytes_mapped e.store.bytes.mapped at len) (not (has_bare e at len)) may).0
