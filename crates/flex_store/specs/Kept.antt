-- What the calls ask of memory, and what they and their steps keep of it.
use Rattle.std.specs.Prelude.{ℕ, ◌≡◌, ◌⊎◌, true, Option}
use Rattle.os_heap.specs.Bytes.{word_start}
use Rattle.os_heap.specs.Memory.{class_of, layout, mapping}
use Rattle.os_heap.specs.AddressMap.{AddressMap}
use Rattle.os_heap.specs.Store.{AreClasses, is_in_flex_store, IsSound, store_of}
use Rattle.flex_store.specs.declared.flex.Extent.{Extent}
use Rattle.flex_store.specs.Calls.{is_anchor_place}
use Rattle.flex_store.specs.State.{IsFlexAt}

-- Memory spells the flex store, if there is one; the store of heaps is sound, and the words that it
-- spells are marked.
pub record IsFlexMap (m : AddressMap) (e : Option Extent) : Type 0 where
  pub flex : IsFlexAt m e
  pub sound : IsSound (store_of m)
  pub classes : AreClasses m

-- It is so still, where the range of the store was recorded: no page, mark or heap is another one.
pub record KeepsMarksAndHeaps (old new : AddressMap) (e : Option Extent) : Type 0 where
  pub flex : IsFlexAt new e
  pub sound : IsSound (store_of new)
  pub classes : AreClasses new
  pub mapping : mapping new ≡ mapping old
  pub marks : class_of new ≡ class_of old
  pub heaps : (store_of new).heaps ≡ (store_of old).heaps

-- an anchor that a call leaves was one before, or stands where one may, or in the flex store
abbrev pub AreAnchorsAllowed : AddressMap → AddressMap → Type 0
AreAnchorsAllowed m n = (a : ℕ) → (store_of n).anchor a ≡ true
    → ((store_of m).anchor a ≡ true) ⊎ ((is_anchor_place (store_of m) (word_start a) ≡ true) ⊎
    (is_in_flex_store (store_of m).others a ≡ true))

-- It is so still, where blocks of the store were changed: no page, record or heap is another one,
-- and anchors stand only where they may.
pub record KeepsLayoutAndHeaps (old new : AddressMap) (e : Option Extent) : Type 0 where
  pub flex : IsFlexAt new e
  pub sound : IsSound (store_of new)
  pub classes : AreClasses new
  pub layout : layout new ≡ layout old
  pub heaps : (store_of new).heaps ≡ (store_of old).heaps
  pub anchors : AreAnchorsAllowed old new
