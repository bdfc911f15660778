-- What the tests of this crate go on from.
use Rattle.std.specs.Prelude.{ℕ, ◌≡◌, ◌<◌, length, [], None}
use Rattle.os_heap.specs.Class.TheVariants as class
use Rattle.os_heap.specs.AddressMap.{AddressMap}
use Rattle.os_heap.specs.Memory.{class_of, regions}
use Rattle.os_heap.specs.Store.{AreClasses, IsSound, store_of}
use Rattle.flex_store.specs.declared.flex.Flex.{Flex}
use Rattle.flex_store.specs.State.{IsFlex}

-- memory of which nothing is recorded
pub record IsBare (m : AddressMap) : Type 0 where
  pub plain : (a : ℕ) → class_of m a ≡ class.Plain
  pub empty : regions m ≡ []

-- all that a call on the flex store asks for
pub record IsBench (m : AddressMap) (f : Flex) : Type 0 where
  pub flex : IsFlex m f
  pub sound : IsSound (store_of m)
  pub classes : AreClasses m
  pub few : length (store_of m).others < 68

-- and what holds before the first one
pub record IsStart (m : AddressMap) (f : Flex) : Type 0 where
  pub flex : IsFlex m f
  pub sound : IsSound (store_of m)
  pub classes : AreClasses m
  pub none : f.extent ≡ None
  pub few : length (store_of m).others < 67
