-- The module state of a machine at its start, which has no module.
use Rattle.std.proofs.Common.{◌≡◌, [], ◌∷◌, refl, ap, arith, inl, Result, Ok, Err}
use Rattle.std.proofs.lemmas.Bool.{false≢true}
use Rattle.std.specs.Prelude.{IfOk}
use Rattle.instances_table.specs.Sizes.{Sizes}
use Rattle.rma.specs.AddressMap.{AddressMap}
use Rattle.rma.specs.Memory.{free_pages}
use Rattle.rma.specs.Store.{Store, store_of}
use Rattle.rma.specs.Ground.{IsAreaStore, system_pages_range, AreAreas}
use Rattle.instances.specs.module_state.Sound.{IsModuleState, HasSystemPages}
use Rattle.instances.specs.module_state.ModuleState.{ModuleState, module_state_of}
use Rattle.rma.specs.Areas.{start_area_table}
use Rattle.rma.specs.Start.{start_store}
use Rattle.instances.proofs.ModuleStateLemmas.Writes.{has_system}

pub start_module_state : (w : ModuleState) → IsAreaStore w.area_store → w.area_store.store.others ≡ system_pages_range ∷ [] → w.modules ≡ [] → IsModuleState w []
start_module_state w area_store others modules = record {
  area_store = area_store;
  system = rw others (inl refl);
  images = rw (others, modules) refl;
  solid = rw others ((λ image. absurd (false≢true image)), tt);
  few = rw others (omega arith);
}

-- memory that is made for a start has its system pages
pub start_system : {E : Type 0} (r : Result AddressMap E) (s : Sizes) → IfOk r (λ m. store_of m ≡ start_store s)
    → IfOk r (λ m. AreAreas (store_of m) (free_pages m) (start_area_table s)) → IfOk r (λ m. HasSystemPages m)
start_system (Ok m) s store areas =
    has_system m (start_area_table s) [] [] (start_module_state (module_state_of m (start_area_table s) []) areas (ap (λ (t : Store). t.others) store) refl)
start_system (Err e) s store areas = tt
