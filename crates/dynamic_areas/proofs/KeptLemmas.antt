-- What is mapped stays in place where a step before or after moves no page; and where areas stand,
-- the module area's heap is there.
use Rattle.std.proofs.Common.{◌≡◌, ◌∙◌, ℕ, Option, Some, None, is_some, true, ap, refl, sym}
use Rattle.os_heap.specs.Memory.{Mapping, StaysInPlace, mapping, place}
use Rattle.os_heap.specs.AddressMap.{AddressMap}
use Rattle.os_heap.specs.lists.Heap.{HeapList}
use Rattle.os_heap.specs.Store.{Store, find_heap}
use Rattle.profile.specs.MemoryMap.{module_area_start}
use Rattle.dynamic_areas.specs.declared.area.Area.{Area}
use Rattle.dynamic_areas.specs.Areas.{AreaTable, find_area}
use Rattle.dynamic_areas.specs.Ground.{AreAreas, EndsWithArea}
use Rattle.dynamic_areas.specs.Kept.{HasAreaHeap}

pub stays_before : (m k n : AddressMap) → StaysInPlace m k → mapping n ≡ mapping k → StaysInPlace m n
stays_before m k n stays same a old new =
    let at : place n a ≡ place k a = ap (λ (x : Mapping). x.place a) same in
    at ∙ stays a old (ap is_some (sym at) ∙ new)

pub stays_after : (m k n : AddressMap) → mapping k ≡ mapping m → StaysInPlace k n → StaysInPlace m n
stays_after m k n same stays a old new =
    let at : place k a ≡ place m a = ap (λ (x : Mapping). x.place a) same in
    stays a (ap is_some at ∙ old) new ∙ at

ended_some : (o : Option HeapList) (a : Option Area) → EndsWithArea o a → is_some o ≡ true
ended_some (Some h) a ends = refl
ended_some None a ends = absurd ends

pub area_heap : (s : Store) (free : ℕ) (l : AreaTable) → AreAreas s free l → HasAreaHeap s
area_heap s free l areas = record {
  sound = areas.ground.sound;
  heap = ended_some (find_heap module_area_start s.heaps) (find_area 1 l.areas) areas.heap;
}
