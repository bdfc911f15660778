-- The module state of modules once the flex store has begun.
use Rattle.std.specs.Prelude.{ℕ, ◌≡◌, List, [], ◌∷◌, ◌++◌}
use Rattle.instances.specs.Ground.{IsAreaStore}
use Rattle.flex_store.specs.Calls.{flex_record}
use Rattle.instances.specs.Image.{Image}
use Rattle.instances.specs.module_state.Sound.{IsModuleState, count_beside}
use Rattle.instances.specs.module_state.ModuleState.{ModuleState}

-- the range of the store was recorded, the second record that is no image; the modules are what
-- they were
pub record HasBegun (w v : ModuleState) (start end : ℕ) : Type 0 where
  pub area_store : IsAreaStore v.area_store
  pub others : v.area_store.store.others ≡ w.area_store.store.others ++ flex_record start end ∷ []
  pub modules : v.modules ≡ w.modules
  pub first : count_beside w.area_store.store.others ≡ 1

abbrev pub BegunModuleState : Type 0
BegunModuleState = (w v : ModuleState) (pending : List Image) (start end : ℕ) → HasBegun w v start end →
    IsModuleState w pending → IsModuleState v pending
