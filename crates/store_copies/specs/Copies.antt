-- The parts of a machine that are kept of it, and what they stand for: its store, its modules, and where
-- its flex store is.
use Rattle.std.specs.Prelude.{◌≡◌, ℕ, List}
use Rattle.address_map.specs.Memory.{is_mapped, regions}
use Rattle.address_map.specs.declared.map.AddressMap.{AddressMap}
use Rattle.swi_dispatch_guest.specs.Store.{Store, store_of}
use Rattle.swi_dispatch_guest.specs.State.{IsNoFlex}
use Rattle.swi_dispatch_guest.specs.Flex.{Flex}
use Rattle.swi_dispatch_guest.specs.Modules.{Module}
use Rattle.swi_dispatch_guest.specs.MachineState.{MachineState}

pub record CopiedParts : Type 0 where
  pub map : AddressMap
  pub modules : List Module
  pub flex : Flex

pub record KeptStore : Type 0 where
  pub store : Store
  pub modules : List Module
  pub flex : Flex

abbrev pub kept_in : CopiedParts → KeptStore
kept_in copy = record { store = store_of copy.map; modules = copy.modules; flex = copy.flex }

abbrev pub kept_of : MachineState → KeptStore
kept_of s = record { store = s.store; modules = s.tables.modules; flex = s.tables.flex }

-- of two memories the same pages are mapped, and the same ranges recorded; neither has a flex store
pub record IsLaidAlike (m n : AddressMap) : Type 0 where
  pub mapped : (a : ℕ) → is_mapped m a ≡ is_mapped n a
  pub regions : regions m ≡ regions n
  pub first : IsNoFlex m
  pub second : IsNoFlex n
