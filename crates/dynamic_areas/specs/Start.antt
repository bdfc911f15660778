-- The memory of a machine at its start (this project's own).
use Rattle.profile.specs.MemoryMap.{module_area_start}
use Rattle.std.specs.Prelude.{◌*◌, false, [], ◌∷◌}
use Rattle.profile.specs.Sizes.{Sizes}
use Rattle.os_heap.specs.Kind.TheVariants.{Rma}
use Rattle.os_heap.specs.Calls.{store_with_new_heap}
use Rattle.os_heap.specs.Store.{Store}
use Rattle.dynamic_areas.specs.Areas.{start_area_table}
use Rattle.dynamic_areas.specs.Ground.{is_area_table, system_pages_range}

-- The start. Mapped are the application space, the first pages of the module area and the three
-- system pages, which are recorded; each mapped byte is 0 but for the module area's descriptor,
-- since the machine makes an empty heap there. All other pages are in the pool.
abbrev pub bare_store : Sizes → Store
bare_store s = record {
  bytes = record { mapped = is_area_table (start_area_table s); at = λ _. 0 };
  heaps = [];
  others = system_pages_range ∷ [];
  anchor = λ _. false;
  header = λ _. false;
}

abbrev pub start_store : Sizes → Store
start_store s = store_with_new_heap Rma (bare_store s) module_area_start (4096 * s.rma)
