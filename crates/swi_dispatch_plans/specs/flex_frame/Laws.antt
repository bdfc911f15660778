-- The flex store over calls other than its own, over what guests store, and at the start of a
-- machine.
use Rattle.std.specs.Prelude.{ℕ, ◌≡◌, ◌≤◌, ◌<◌, ◌+◌, ◌-◌, true, false, Some, None}
use Rattle.flex_store.specs.Sizes.{Sizes}
use Rattle.os_heap.specs.Memory.{byte_at, class_of, layout}
use Rattle.os_heap.specs.AddressMap.{AddressMap}
use Rattle.flex_store.specs.Store.{IsSound, find_heap, owned_in, store_of}
use Rattle.instances.specs.Areas.{AreaTable}
use Rattle.instances.specs.Ground.{AreAreas}
use Rattle.instances.specs.DynamicAreasStart.{start_store}
use Rattle.instances.specs.flex_frame.Keeping.{KeepsFlex}
use Rattle.flex_store.specs.State.{flex_in}
use Rattle.flex_store.specs.declared.flex.Extent.{Extent}
use Rattle.flex_store.specs.declared.flex.Flex.{Flex}
use Rattle.os_heap.specs.Bytes.{in_range}
use Rattle.flex_store.specs.lists.Heap.{HeapList}
use Rattle.flex_store.specs.lists.Lists.{live_total}
use Rattle.swi_dispatch_plans.specs.flex_frame.Ground.{HasFlex}

-- a call that keeps the store's bytes and words
abbrev pub FlexKept : Type 0
FlexKept = (m n : AddressMap) (f : Flex) (free : ℕ) (l : AreaTable) → HasFlex m f → IsSound (store_of m) →
    KeepsFlex (store_of m) (store_of n)
    → AreAreas (store_of n) free l → HasFlex n f

-- which is then the same store, each block with its anchor, its size and its bytes
abbrev pub BlocksKept : Type 0
BlocksKept = (m n : AddressMap) (f : Flex) → HasFlex m f → KeepsFlex (store_of m) (store_of n) →
    flex_in n f.extent ≡ flex_in m f.extent

-- The store shares no byte with a live block of a heap, the length word of that counted with it.
abbrev pub StoreIsApart : Type 0
StoreIsApart = (m : AddressMap) (f : Flex) (e : Extent) (h : HeapList) (block total a : ℕ) → HasFlex m f →
    f.extent ≡ Some e → IsSound (store_of m)
    → find_heap h.start (store_of m).heaps ≡ Some h → live_total block (h.start + 16) h.items ≡ Some total →
    e.start ≤ a → a < e.end
    → in_range (block - 4) total a ≡ false

-- a guest's stores, which leave each byte that the store calls own
abbrev pub FlexStored : Type 0
FlexStored = (m n : AddressMap) (f : Flex) → HasFlex m f → IsSound (store_of n) → layout n ≡ layout m →
    class_of n ≡ class_of m
    → ((a : ℕ) → owned_in (store_of m) a ≡ true → byte_at n a ≡ byte_at m a) → HasFlex n f

-- before the store has begun
abbrev pub FlexUnmade : Type 0
FlexUnmade = (m n : AddressMap) (f : Flex) → HasFlex m f → f.extent ≡ None → class_of n ≡ class_of m →
    (store_of n).others ≡ (store_of m).others → HasFlex n f

-- the memory of a machine at its start
abbrev pub FlexStarted : Type 0
FlexStarted = (m : AddressMap) (s : Sizes) (f : Flex) → store_of m ≡ start_store s → f.extent ≡ None →
    HasFlex m f
