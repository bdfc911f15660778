-- Which memory is mapped, on a machine with dynamic areas: the application space, the system pages,
-- and each area's pages; all other pages are in the pool (RISC OS 3 Programmer's Reference Manual,
-- "Memory management"; the places are this project's own).
use Rattle.profile.specs.MemoryMap.{application_start, module_area_start, system_start}
use Rattle.std.specs.Prelude.{ℕ, ◌≡◌, ◌+◌, ◌-◌, ◌*◌, ◌||◌, ◌⊎◌, Bool, List, [], ◌∷◌, Option, Some, None}
use Rattle.std.specs.List.{list_any}
use Rattle.profile.specs.Sizes.{Sizes, AreGood}
use Rattle.os_heap.specs.AddressMap.{AddressMap}
use Rattle.os_heap.specs.Kind.TheVariants.{Rma, SystemPage}
use Rattle.os_heap.specs.Region.{Region}
use Rattle.os_heap.specs.Memory.{free_pages}
use Rattle.os_heap.specs.Bytes.{in_range, AreMapped}
use Rattle.os_heap.specs.lists.Heap.{HeapList}
use Rattle.os_heap.specs.Store.{Store, IsSound, find_heap, store_of}
use Rattle.dynamic_areas.specs.declared.area.Area.{Area}
use Rattle.dynamic_areas.specs.Areas.{AreaTable, find_area, pages_of}
use Rattle.dynamic_areas.specs.Rooms.{IsAreaTable}

-- the application space and the system pages
abbrev pub is_fixed : Sizes → ℕ → Bool
is_fixed sizes x = in_range application_start (4096 * sizes.app) x || in_range system_start 0x3000 x

-- the system pages, a recorded range
abbrev pub system_pages_range : Region
system_pages_range = record { kind = SystemPage; at = system_start; len = 0x3000 }

-- a range is among those recorded
abbrev pub IsRecorded : Region → List Region → Type 0
IsRecorded r [] = ⊥
IsRecorded r (q ∷ rs) = (q ≡ r) ⊎ IsRecorded r rs

abbrev pub is_in_area : ℕ → Area → Bool
is_in_area x a = in_range a.base (4096 * a.pages) x

abbrev pub is_area_table : AreaTable → ℕ → Bool
is_area_table l x = is_fixed l.sizes x || list_any (is_in_area x) l.areas

abbrev pub AreRangesMapped : (ℕ → Bool) → List Region → Type 0
AreRangesMapped mapped [] = Unit {0}
AreRangesMapped mapped (r ∷ rs) = AreMapped mapped r.at r.len × AreRangesMapped mapped rs

-- a store that is sound, with `free` pages in the pool, on which the areas stand
pub record IsGround (s : Store) (free : ℕ) (l : AreaTable) : Type 0 where
  pub sizes : AreGood l.sizes
  pub table : IsAreaTable l.areas
  pub area_table : (x : ℕ) → s.bytes.mapped x ≡ is_area_table l x
  pub pages : pages_of l.areas + (l.sizes.app + 3) + free ≡ l.sizes.pages
  pub ranges : AreRangesMapped s.bytes.mapped s.others
  pub sound : IsSound s

-- the pages that are neither an area's nor fixed
abbrev pub pool_of : AreaTable → ℕ
pool_of l = l.sizes.pages - (pages_of l.areas + (l.sizes.app + 3))

-- the module area's heap is no guest's, and ends where the module area does
abbrev pub EndsWithArea : Option HeapList → Option Area → Type 0
EndsWithArea (Some h) (Some a) = (h.kind ≡ Rma) × (h.end ≡ 4096 * a.pages)
EndsWithArea (Some h) None = ⊥
EndsWithArea None area = ⊥

-- What holds between all calls.
pub record AreAreas (s : Store) (free : ℕ) (l : AreaTable) : Type 0 where
  pub ground : IsGround s free l
  pub heap : EndsWithArea (find_heap module_area_start s.heaps) (find_area 1 l.areas)

-- All that calls on memory act on: the store, how many pages are in the pool, and the areas.
pub record AreaStore : Type 0 where
  pub store : Store
  pub pool : ℕ
  pub area_table : AreaTable

abbrev pub IsAreaStore : AreaStore → Type 0
IsAreaStore e = AreAreas e.store e.pool e.area_table

-- the area store that a map stands for, together with its areas
abbrev pub area_store_of : AddressMap → AreaTable → AreaStore
area_store_of m l = record { store = store_of m; pool = free_pages m; area_table = l }
