-- What calls on the module area keep: nothing done, a call of the heap, and one call after another.
use Rattle.dynamic_areas.specs.MemoryMap.{module_area_start}
use Rattle.std.proofs.Common.{◌≡◌, List, ℕ, true, refl, ap, ◌∙◌}
use Rattle.std.specs.List.{filter}
use Rattle.std.specs.Prelude.{Option, Result, is_some}
use Rattle.dynamic_areas.specs.Outcome.{Gives}
use Rattle.dynamic_areas.specs.ErrorNumber.{ErrorNumber}
use Rattle.dynamic_areas.specs.Bytes.{AreMapped}
use Rattle.dynamic_areas.specs.Memory.{Layout, Mapping, is_mapped, layout, mapping, place, regions}
use Rattle.dynamic_areas.specs.AddressMap.{AddressMap}
use Rattle.dynamic_areas.specs.Kind.{Kind}
use Rattle.dynamic_areas.specs.Areas.{AreaTable}
use Rattle.dynamic_areas.specs.Calls.{gave_back, store_after_get, store_after_resize}
use Rattle.dynamic_areas.specs.Kept.{IsAreaMap}
use Rattle.dynamic_areas.specs.Order.{stays_at}
use Rattle.dynamic_areas.specs.Sound.{IsSoundMap, KeepsLayout, KeepsRest}
use Rattle.dynamic_areas.specs.Store.{IsSound, Store, store_of}
use Rattle.dynamic_areas.proofs.Frame.{layout-others}
use Rattle.dynamic_areas.proofs.HeapCalls.{areas_freed, areas_resized, areas_written}
use Rattle.dynamic_areas.proofs.LostRecords.{loses_none, loses_same}
use Rattle.dynamic_areas.proofs.Order.{order_kept, order_laid, order_lost}
use Rattle.rma.specs.flex_frame.Keeping.{KeepsFlex}
use Rattle.rma.specs.Kept.{FreesRoom, KeepsAreas, KeepsAreaStores, KeepsBlock, KeepsRecords, LosesInnerHeaps}
use Rattle.rma.specs.Places.{KeepsPlaces}
use Rattle.rma.proofs.FlexFrameLemmas.Heaps.{freed_keeps, got_keeps, resized_keeps}
use Rattle.rma.proofs.FlexFrameLemmas.Keeping.{keeps_equal, keeps_same, keeps_then}

-- the words that a map with areas spells are those of a sound store
pub sound_map : (m : AddressMap) (l : AreaTable) → IsAreaMap m l → IsSoundMap m
sound_map m l state = record { sound = state.area_store.ground.sound; classes = state.classes }

-- where bytes lie
places_laid : (m n : AddressMap) → layout n ≡ layout m → KeepsPlaces m n
places_laid m n same a there = ap (λ (q : Layout). q.place a) same

places_mapped : (m n : AddressMap) → mapping n ≡ mapping m → KeepsPlaces m n
places_mapped m n same a there = ap (λ (q : Mapping). q.place a) same

places_then : (m n p : AddressMap) → KeepsPlaces m n → KeepsPlaces n p → KeepsPlaces m p
places_then m n p first second a there =
    let same : place n a ≡ place m a = first a there in
    second a (ap (λ (x : Option ℕ). is_some x) same ∙ there) ∙ same

pub still_mapped : (m n : AddressMap) (at len : ℕ) → KeepsPlaces m n → AreMapped (is_mapped m) at len → AreMapped (is_mapped n) at len
still_mapped m n at len places were a low high =
    let there : is_mapped m a ≡ true = were a low high in
    ap (λ (x : Option ℕ). is_some x) (places a there) ∙ there

-- no record comes or goes: where nothing is done, where the heap makes a block, where it doesn't
-- change one, and in one call after another
pub records_same : (m : AddressMap) (l : AreaTable) → IsAreaMap m l → KeepsRecords m m l l
records_same m l state = record {
  area_store = state.area_store;
  classes = state.classes;
  others = refl;
  order = refl;
  stays = λ a was is. refl;
  places = λ a there. refl;
  flex = keeps_same (store_of m);
  sizes = refl;
}

pub records_got : (m n : AddressMap) (l : AreaTable) (size : ℕ) (r : Result ℕ ErrorNumber) → IsAreaMap m l → KeepsLayout m n
    → Gives (store_of m) (store_after_get (store_of m) module_area_start size) r (store_of n) → KeepsRecords m n l l
records_got m n l size r state kept given =
    let there : KeepsPlaces m n = places_laid m n kept.layout in
    record {
      area_store = areas_written m n l state.area_store kept.sound kept.layout;
      classes = kept.classes;
      others = layout-others m n kept.layout;
      order = order_laid m n kept.layout;
      stays = λ a was is. there a was;
      places = there;
      flex = got_keeps (store_of m) (store_of n) module_area_start size r state.area_store.ground.sound kept.sound given;
      sizes = refl;
    }

pub records_unsized : (m n : AddressMap) (l : AreaTable) (block change : ℕ) (r : Result ℕ ErrorNumber) → IsAreaMap m l → KeepsRest m n
    → Gives (store_of m) (store_after_resize (store_of m) module_area_start block change) r (store_of n) → store_of n ≡ store_of m → KeepsRecords m n l l
records_unsized m n l block change r state kept given same =
    let there : KeepsPlaces m n = places_mapped m n kept.mapping in
    record {
      area_store = areas_resized m n l state.area_store kept.sound kept.others kept.mapping module_area_start block change r given;
      classes = kept.classes;
      others = kept.others;
      order = order_kept m n (loses_same m n state.area_store.ground.sound (ap (λ (s : Store). s.heaps) same) kept.records);
      stays = λ a was is. there a was;
      places = there;
      flex = keeps_equal (store_of m) (store_of n) same;
      sizes = refl;
    }

pub records_then : (m n p : AddressMap) (l k j : AreaTable) → KeepsRecords m n l k → KeepsRecords n p k j → KeepsRecords m p l j
records_then m n p l k j first second =
    let there : KeepsPlaces m p = places_then m n p first.places second.places in
    record {
      area_store = second.area_store;
      classes = second.classes;
      others = second.others ∙ first.others;
      order = second.order ∙ first.order;
      stays = λ a was is. there a was;
      places = there;
      flex = keeps_then (store_of m) (store_of n) (store_of p) first.flex second.flex;
      sizes = second.sizes ∙ first.sizes;
    }

-- inner heaps are forgotten: none, those in what goes of a block, and after another call
pub heaps_same : (m : AddressMap) (l : AreaTable) → IsAreaMap m l → LosesInnerHeaps m m l l
heaps_same m l state = record {
  area_store = state.area_store;
  classes = state.classes;
  others = refl;
  records = order_lost m m m refl (loses_none m state.area_store.ground.sound);
  stays = λ a was is. refl;
  places = λ a there. refl;
  flex = keeps_same (store_of m);
  sizes = refl;
}

pub heaps_resized : (m n : AddressMap) (l : AreaTable) (block change : ℕ) (r : Result ℕ ErrorNumber) → IsAreaMap m l → KeepsRest m n
    → Gives (store_of m) (store_after_resize (store_of m) module_area_start block change) r (store_of n) → LosesInnerHeaps m n l l
heaps_resized m n l block change r state kept given =
    let there : KeepsPlaces m n = places_mapped m n kept.mapping in
    record {
      area_store = areas_resized m n l state.area_store kept.sound kept.others kept.mapping module_area_start block change r given;
      classes = kept.classes;
      others = kept.others;
      records = order_lost m m n refl kept.records;
      stays = λ a was is. there a was;
      places = there;
      flex = resized_keeps (store_of m) (store_of n) module_area_start block change r state.area_store.ground.sound kept.sound given;
      sizes = refl;
    }

pub heaps_then : (m n p : AddressMap) (l k j : AreaTable) → KeepsRecords m n l k → LosesInnerHeaps n p k j → LosesInnerHeaps m p l j
heaps_then m n p l k j first second =
    let there : KeepsPlaces m p = places_then m n p first.places second.places in
    record {
      area_store = second.area_store;
      classes = second.classes;
      others = second.others ∙ first.others;
      records = second.records ∙ ap (λ (xs : List (Kind × ℕ)). filter (stays_at (store_of p).heaps) xs) first.order;
      stays = λ a was is. there a was;
      places = there;
      flex = keeps_then (store_of m) (store_of n) (store_of p) first.flex second.flex;
      sizes = second.sizes ∙ first.sizes;
    }

-- new images: none made, and one made in a block that was claimed
pub areas_same : (m n : AddressMap) (l k : AreaTable) → KeepsRecords m n l k → KeepsAreas m n l k
areas_same m n l k kept = record {
  area_store = kept.area_store;
  classes = kept.classes;
  places = kept.places;
  flex = kept.flex;
  sizes = kept.sizes;
}

pub areas_made : (m n o p : AddressMap) (l k : AreaTable) (block len : ℕ) → KeepsRecords m n l k → KeepsBlock n o block len → KeepsAreaStores o p
    → KeepsFlex (store_of m) (store_of p) → KeepsAreas m p l k
areas_made m n o p l k block len claimed filled recorded flex = record {
  area_store = recorded.area_store k (filled.area_store k claimed.area_store);
  classes = recorded.classes (filled.classes claimed.classes);
  places = places_then m o p (places_then m n o claimed.places (places_laid n o filled.layout)) (places_mapped o p recorded.mapping);
  flex = flex;
  sizes = claimed.sizes;
}

-- a block is given back
pub room_freed : (m n : AddressMap) (block : ℕ) (r : Result (Unit {0}) ErrorNumber) → IsSound (store_of m) → KeepsRest m n
    → Gives (store_of m) (gave_back (store_of m) module_area_start block) r (store_of n) → FreesRoom m n (regions m) (store_of m).others
room_freed m n block r sound kept given = record {
  sound = kept.sound;
  area_store = λ l areas. areas_freed m n l areas kept.sound kept.others kept.mapping module_area_start block r given;
  classes = kept.classes;
  others = kept.others;
  mapping = kept.mapping;
  records = kept.records;
  flex = freed_keeps (store_of m) (store_of n) module_area_start block r sound kept.sound given;
}
