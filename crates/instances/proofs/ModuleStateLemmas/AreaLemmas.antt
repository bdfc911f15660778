-- A record that begins in the module area is a block there, if it may be one of an image; any other
-- is clear of all heaps.
use Rattle.instances_table.specs.MemoryMap.{module_area_start}
use Rattle.std.proofs.Common.{◌≡◌, ◌⊎◌, ◌<◌, ◌≤◌, ◌+◌, ◌-◌, ◌*◌, true, false, None, Some, List, [], ◌∷◌, refl, sym, subst, ◌∙◌, inl, inr, arith}
use Rattle.std.specs.Prelude.{Option, is_some}
use Rattle.std.proofs.lemmas.Bool.{both_ways, cases_Bool, false≢true, false_from_ne_true, ltb-false, ltb-true}
use Rattle.std.proofs.Math.Dec.{ltb}
use Rattle.rma.proofs.InRange.{range_inside}
use Rattle.rma.specs.Bytes.{AreMapped, Bytes, in_range}
use Rattle.rma.specs.Region.{Region}
use Rattle.rma.specs.lists.Heap.{HeapList}
use Rattle.rma.specs.Store.{AreHeapsIn, IsClearOfHeaps, IsImageBlock, IsImageIn, StandAreas, find_heap}
use Rattle.rma.proofs.Apart.{block_inside}
use Rattle.rma.proofs.Found.{found_start}
use Rattle.rma.proofs.Stores.{AreOthers, are_others, clear_of-found}
use Rattle.rma.specs.Areas.{find_area}
use Rattle.rma.specs.Ground.{AreaStore, IsAreaStore}
use Rattle.rma.specs.Area.{Area}
use Rattle.rma.proofs.GroundLemmas.{unmapped_above}
use Rattle.rma.proofs.ModuleArea.{IsModuleArea, module_area_known}
use Rattle.rma.proofs.RoomLemmas.{found_room}
use Rattle.rma.proofs.RangeTests.{range_high, range_low}
use Rattle.instances_table.specs.ModuleArea.{is_in_module_area}

-- an image in a heap is a block of the module area's
image_among : (h : HeapList) (hs : List HeapList) (r : Region) → AreOthers h hs → StandAreas hs → h.start ≡ module_area_start → IsImageIn hs r → IsImageBlock h r
image_among h [] r others stand start image = absurd image
image_among h (g ∷ hs) r others stand start image = elim image [
  | inr later ↦ image_among h hs r others.1 stand.1 start later
  | inl own ↦ elim others.0 [
    | inl same ↦ subst (λ (x : HeapList). IsImageBlock x r) same own
    | inr apart ↦ absurd (apart.0 (stand.0 own.area ∙ sym start))
  ]
]

pub image_found : (b : Bytes) (hs : List HeapList) (h : HeapList) (r : Region) → AreHeapsIn b hs → StandAreas hs → find_heap module_area_start hs ≡ Some h
    → IsImageIn hs r → IsImageBlock h r
image_found b hs h r heaps stand found image =
    image_among h hs r (are_others b module_area_start hs h heaps found) stand (found_start module_area_start hs h found) image

-- what is mapped of the module area is its heap's
module _ (e : AreaStore) (good : IsAreaStore e) (a : Area) (found : find_area 1 e.area_table.areas ≡ Some a) (r : Region) (some : 0 < r.len) where
  known : IsModuleArea e.store a
  known = module_area_known e.store e.pool e.area_table a good found

  within : 4096 * a.pages ≤ a.maximum
  within = (found_room 1 e.area_table.areas a good.ground.table.rooms found).within

  heap_has : is_in_module_area r.at ≡ true → AreMapped e.store.bytes.mapped r.at r.len → in_range known.heap.start known.heap.end r.at ≡ true
  heap_has inside mapped =
      let low = range_low module_area_start 4194304 r.at inside in
      let high = range_high module_area_start 4194304 r.at inside in
      let start = known.start in
      let end = known.end in
      let base = known.base in
      let maximum = known.maximum in
      elim (cases_Bool (ltb r.at (module_area_start + 4096 * a.pages))) [
        | inl below ↦
            let under = ltb-true r.at (module_area_start + 4096 * a.pages) below in
            range_inside known.heap.start known.heap.end r.at (omega (arith, low, start)) (omega (arith, under, start, end))
        | inr above ↦
            let past = ltb-false r.at (module_area_start + 4096 * a.pages) above in
            let free = unmapped_above e.store e.pool e.area_table 1 a (1024 - a.pages) good.ground found (omega (arith, within, maximum)) r.at
            (omega (arith, past, base)) (omega (arith, high, past, base, maximum, within)) in
            absurd (false≢true (sym free ∙ mapped r.at (omega arith) (omega (arith, some))))
      ]

  not_clear : is_in_module_area r.at ≡ true → AreMapped e.store.bytes.mapped r.at r.len → IsClearOfHeaps r.at r.len e.store.heaps → ⊥
  not_clear inside mapped clear =
      let heap = known.heap in
      both_ways (in_range heap.start heap.end r.at)
      (clear_of-found r.at r.len module_area_start e.store.heaps heap clear known.found r.at (range_inside r.at r.len r.at (omega arith) (omega (arith, some))))
      (heap_has inside mapped)

  area_has : IsImageIn e.store.heaps r → is_in_module_area r.at ≡ true
  area_has image =
      let sound = good.ground.sound in
      let heap = known.heap in
      let own = image_found e.store.bytes e.store.heaps heap r sound.heaps sound.limits.place known.found image in
      let inside = block_inside e.store.bytes heap r.at (r.len + 4) r.at known.spelled own.live
      (range_inside (r.at - 4) (r.len + 4) r.at (omega arith) (omega (arith, some))) in
      let low = range_low heap.start heap.end r.at inside in
      let high = range_high heap.start heap.end r.at inside in
      let start = known.start in
      let end = known.end in
      let maximum = known.maximum in
      range_inside module_area_start 4194304 r.at (omega (arith, low, start)) (omega (arith, high, start, end, maximum, within))

-- so of each record
pub record IsInPlace (e : AreaStore) (r : Region) : Type 0 where
  pub block : is_in_module_area r.at ≡ true → IsImageIn e.store.heaps r
  pub clear : is_in_module_area r.at ≡ false → IsClearOfHeaps r.at r.len e.store.heaps

pub in_place : (e : AreaStore) (r : Region) → IsAreaStore e → 0 < r.len → AreMapped e.store.bytes.mapped r.at r.len
    → IsClearOfHeaps r.at r.len e.store.heaps ⊎ IsImageIn e.store.heaps r → IsInPlace e r
in_place e r good some mapped place = go (find_area 1 e.area_table.areas) refl good.ground.table.first where
  by : (a : Area) → find_area 1 e.area_table.areas ≡ Some a → IsInPlace e r
  by a found = elim place [
    | inl clear ↦ record { block = λ inside. absurd (not_clear e good a found r some inside mapped clear); clear = λ _. clear }
    | inr image ↦ record { block = λ _. image; clear = λ outside. absurd (both_ways (is_in_module_area r.at) outside (area_has e good a found r some image)) }
  ]

  go : (found : Option Area) → find_area 1 e.area_table.areas ≡ found → is_some found ≡ true → IsInPlace e r
  go None is there = absurd (false≢true there)
  go (Some a) is there = by a is

-- a range that is mapped and clear of all heaps does not begin in the module area
pub stays_outside : (e : AreaStore) (r : Region) → IsAreaStore e → 0 < r.len → AreMapped e.store.bytes.mapped r.at r.len
    → IsClearOfHeaps r.at r.len e.store.heaps → is_in_module_area r.at ≡ false
stays_outside e r good some mapped clear =
    false_from_ne_true (is_in_module_area r.at) (λ inside. go inside (find_area 1 e.area_table.areas) refl good.ground.table.first)
  where
    go : is_in_module_area r.at ≡ true → (found : Option Area) → find_area 1 e.area_table.areas ≡ found → is_some found ≡ true → ⊥
    go inside None is there = false≢true there
    go inside (Some a) is there = not_clear e good a is r some inside mapped clear
