-- A map that stands for a sound store, and what a step of a call keeps of it.
use Rattle.std.specs.Prelude.{ℕ, ◌≡◌, ◌+◌, Some, Result, Ok}
use Rattle.os_heap_words.specs.Outcome.{Gives}
use Rattle.os_heap_words.specs.ErrorNumber.{ErrorNumber}
use Rattle.os_heap_words.specs.Memory.{byte_at, layout, mapping}
use Rattle.os_heap_words.specs.AddressMap.{AddressMap}
use Rattle.os_heap_words.specs.lists.Heap.{HeapList}
use Rattle.os_heap_words.specs.lists.Lists.{live_total}
use Rattle.os_heap.specs.Calls.{gave_back}
use Rattle.os_heap.specs.Forgetting.{store_after_forget}
use Rattle.os_heap.specs.Order.{KeepsOrder, LosesHeaps}
use Rattle.os_heap.specs.Store.{AreClasses, IsSound, find_heap, store_of}

-- the store is sound, and the words that it spells are marked
pub record IsSoundMap (m : AddressMap) : Type 0 where
  pub sound : IsSound (store_of m)
  pub classes : AreClasses m

-- It is so still, where a step changes words of a heap: no recorded range is another one.
pub record KeepsLayout (old new : AddressMap) : Type 0 where
  pub sound : IsSound (store_of new)
  pub classes : AreClasses new
  pub layout : layout new ≡ layout old

-- It is so still, where a step records a heap: no other range is another one.
pub record KeepsOtherRanges (old new : AddressMap) : Type 0 where
  pub sound : IsSound (store_of new)
  pub classes : AreClasses new
  pub others : (store_of new).others ≡ (store_of old).others
  pub mapping : mapping new ≡ mapping old

-- It is so still, where a step gives a heap another end: no other range is another one, and each record stands where it stood.
pub record KeepsRangesInOrder (old new : AddressMap) : Type 0 where
  pub sound : IsSound (store_of new)
  pub classes : AreClasses new
  pub others : (store_of new).others ≡ (store_of old).others
  pub mapping : mapping new ≡ mapping old
  pub order : KeepsOrder old new

-- It is so still, where a step changes words of a heap and forgets others: the records of those are gone, and no other range is another one.
pub record KeepsRest (old new : AddressMap) : Type 0 where
  pub sound : IsSound (store_of new)
  pub classes : AreClasses new
  pub others : (store_of new).others ≡ (store_of old).others
  pub mapping : mapping new ≡ mapping old
  pub records : LosesHeaps old new

-- a heap has a block of that total
pub record HasBlock (m : AddressMap) (block total : ℕ) : Type 0 where
  pub heap : HeapList
  pub found : find_heap heap.start (store_of m).heaps ≡ Some heap
  pub live : live_total block (heap.start + 16) heap.items ≡ Some total

-- The heaps that go with the bytes from `from` on of a block are forgotten, and no byte is changed.
pub record Forgets (old new : AddressMap) (block total from : ℕ) : Type 0 where
  pub store : store_of new ≡ store_after_forget (store_of old) block total from
  pub kept : KeepsRest old new
  pub bytes : byte_at new ≡ byte_at old

-- the store after the block at `block` was given back
abbrev pub GivesBack : AddressMap → AddressMap → ℕ → ℕ → Type 0
GivesBack old new heap block = let done : Result (Unit {0}) ErrorNumber = Ok tt in
    Gives (store_of old) (gave_back (store_of old) heap block) done (store_of new)
