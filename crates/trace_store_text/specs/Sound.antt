-- Two moments of memory whose heaps can be read: what an instruction or call found, and what it left.
use Rattle.address_map.specs.declared.map.AddressMap.{AddressMap}
use Rattle.store_copies.specs.Store.{IsSound, store_of}

pub record AreBothSound (before after : AddressMap) : Type 0 where
  pub old : IsSound (store_of before)
  pub new : IsSound (store_of after)
