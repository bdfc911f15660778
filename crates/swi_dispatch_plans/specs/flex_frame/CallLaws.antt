-- What a flex call leaves, as the written machine has it, follows from the call's own contract.
use Rattle.std.specs.Prelude.{◌≡◌}
use Rattle.os_heap.specs.AddressMap.{AddressMap}
use Rattle.flex_store.specs.Store.{store_of}
use Rattle.flex_store.specs.Calls.{FlexState}
use Rattle.flex_store.specs.declared.flex.Flex.{Flex}
use Rattle.swi_dispatch_plans.specs.flex_frame.Ground.{flex_of, store_flexed}

-- the store and its place are those that the definition of the call leaves
pub record IsLeft (m n : AddressMap) (g : Flex) (t : FlexState) : Type 0 where
  pub store : store_of n ≡ store_flexed (store_of m) t
  pub flex : g ≡ flex_of t.flex
