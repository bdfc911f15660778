-- The base of the module area's heap, as its descriptor shows it.
use Rattle.profile.specs.MemoryMap.{module_area_start}
use Rattle.std.proofs.Common.{◌≡◌, ℕ, ◌+◌, ◌≤◌, ◌^◌, true, refl, ap, Some, None, Ok, arith}
use Rattle.std.specs.Prelude.{is_some, Option}
use Rattle.std.proofs.lemmas.Bool.{false≢true}
use Rattle.os_heap.specs.AddressMap.{AddressMap}
use Rattle.os_heap.specs.Bytes.{word_loaded, word_at}
use Rattle.os_heap.specs.Items.{size_of}
use Rattle.os_heap.specs.Memory.{is_mapped, byte_at, bytes_of}
use Rattle.os_heap.specs.lists.Heap.{HeapList, IsHeapIn}
use Rattle.os_heap.specs.Store.{IsSound, store_of, find_heap}
use Rattle.os_heap.proofs.RangeTests.{range_end}
use Rattle.os_heap.proofs.Found.{found_heap, found_start}
use Rattle.dynamic_areas.specs.Changing.{heap_base}

pub record IsBaseRead (m : AddressMap) (found : Option HeapList) : Type 0 where
  pub base : ℕ
  pub read : word_loaded (bytes_of m) 0x01800008 ≡ Ok base
  pub sum : module_area_start + base ≡ heap_base found
  pub small : base ≤ 2 ^ 26

base_of_found : (m : AddressMap) (found : Option HeapList) → IsSound (store_of m) → find_heap module_area_start (store_of m).heaps ≡ found → is_some found ≡ true
    → IsBaseRead m found
unfolding store_of word_loaded
base_of_found m None sound e some = absurd (false≢true some)
base_of_found m (Some h) sound e some =
    let heap : IsHeapIn (bytes_of m) h.start h.end h.items = found_heap (bytes_of m) module_area_start (store_of m).heaps h sound.heaps e in
    let start : h.start ≡ module_area_start = found_start module_area_start (store_of m).heaps h e in
    let inside : 16 + size_of h.items ≤ h.end = heap.inside in
    let mapped : is_mapped m 0x01800008 ≡ true = heap.mapped 0x01800008 (omega arith) (omega arith) in
    let word : word_at (byte_at m) 0x01800008 ≡ 16 + size_of h.items = (let base = heap.base in rw start at base) in
    record {
      base = 16 + size_of h.items;
      read = rw mapped (ap Ok word);
      sum = rw start refl;
      small = omega (arith, range_end m h.start h.end heap.mapped (omega arith));
    }

pub base_read : (m : AddressMap) → IsSound (store_of m) → is_some (find_heap module_area_start (store_of m).heaps) ≡ true
    → IsBaseRead m (find_heap module_area_start (store_of m).heaps)
base_read m sound some = base_of_found m (find_heap module_area_start (store_of m).heaps) sound refl some
