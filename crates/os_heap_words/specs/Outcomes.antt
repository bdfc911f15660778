-- What a call on one heap leaves of memory.
use Rattle.std.specs.Prelude.{ℕ, List, ◌+◌, ◌%◌, ◌≡◌, None, Option, Result, Err, Ok, Some, Bool, false, true}
use Rattle.address_map.specs.ErrorNumber.{ErrorNumber}
use Rattle.address_map.specs.ErrorNumber.TheVariants.{HeapNoRoom, HeapNotABlock}
use Rattle.address_map.specs.Bytes.{AreMapped, word_at}
use Rattle.address_map.specs.Items.{items_in, size_of}
use Rattle.address_map.specs.Memory.{byte_at, bytes_of, is_mapped, layout, class_of}
use Rattle.address_map.specs.declared.item.Item.{Item}
use Rattle.address_map.specs.declared.map.AddressMap.{AddressMap}
use Rattle.os_heap_words.specs.lists.Heap.{AreTotals, IsHeapIn}
use Rattle.os_heap_words.specs.lists.Marks.{AreMarked, Remarks}
use Rattle.os_heap_words.specs.lists.Lists.{Claim}
use Rattle.os_heap_words.specs.lists.Words.{IsOutside, AreApart}

-- memory spells a heap at `start`, whose items are those that its words show
abbrev pub items_at : AddressMap → ℕ → List Item
items_at m start = items_in (word_at (byte_at m)) start

abbrev pub IsHeapAt : AddressMap → ℕ → ℕ → Type 0
IsHeapAt m start end = IsHeapIn (bytes_of m) start end (items_at m start)

-- and its end is that which its last word shows
abbrev pub end_at : AddressMap → ℕ → ℕ
end_at m start = word_at (byte_at m) (start + 12)

abbrev pub HasHeapAt : AddressMap → ℕ → Type 0
HasHeapAt m start = IsHeapAt m start (end_at m start)

-- items may stand at an address: their words are mapped there
pub record CanStand (m : AddressMap) (at : ℕ) (items : List Item) : Type 0 where
  pub aligned : at % 4 ≡ 0
  pub totals : AreTotals items
  pub mapped : AreMapped (is_mapped m) at (size_of items)

-- The heap at `start` got another list: its words spell it, and all other bytes are as before. Where the words of the old list were marked, those
-- that the new one gives up lost their marks, and those that it makes got them.
pub record Becomes (old new : AddressMap) (start end : ℕ) (items : List Item) : Type 0 where
  pub heap : IsHeapIn (bytes_of new) start end items
  pub same : layout new ≡ layout old
  pub others : (a : ℕ) → AreApart a 1 start 16 → IsOutside (start + 16) items a →
      byte_at new a ≡ byte_at old a
  pub marks : AreMarked (class_of old) (start + 16) (items_at old start) →
      Remarks (class_of old) (class_of new) (start + 16) (items_at old start) items

abbrev pub Claims : AddressMap → AddressMap → ℕ → ℕ → Result ℕ ErrorNumber → Option Claim → Type 0
Claims old new start end answer None = (answer ≡ Err HeapNoRoom) × (new ≡ old)
Claims old new start end answer (Some c) = (answer ≡ Ok (start + 16 + c.offset + 4)) ×
    Becomes old new start end c.items

-- whether a claim finds room
abbrev pub room_of : Option Claim → Result (Unit {0}) ErrorNumber
room_of None = Err HeapNoRoom
room_of (Some c) = Ok tt

abbrev pub Releases : AddressMap → AddressMap → ℕ → ℕ → Result (Unit {0}) ErrorNumber → Option (List Item) →
    Type 0
Releases old new start end answer None = (answer ≡ Err HeapNotABlock) × (new ≡ old)
Releases old new start end answer (Some items) = (answer ≡ Ok tt) × Becomes old new start end items

abbrev pub Refits : AddressMap → AddressMap → ℕ → ℕ → Bool → Option (List Item) → Type 0
Refits old new start end done None = (done ≡ false) × (new ≡ old)
Refits old new start end done (Some items) = (done ≡ true) × Becomes old new start end items
