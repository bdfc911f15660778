-- Laws of heaps as lists, said in other words than the definitions.
use Rattle.std.specs.Prelude.{◌≡◌, List, ℕ, ◌+◌, Some}
use Rattle.address_map.specs.Bytes.{Bytes, word_at}
use Rattle.address_map.specs.Items.{items_in}
use Rattle.address_map.specs.declared.item.Item.{Item}
use Rattle.os_heap_words.specs.lists.Heap.{IsHeapIn, AreSpaced, AreTotals}
use Rattle.os_heap_words.specs.lists.Lists.{items_after_release, claim_in_items, Claim}

-- Memory that spells a heap is read as just its list.
abbrev pub ReadsHeap : Type 0
ReadsHeap = (b : Bytes) (start end : ℕ) (items : List Item) → IsHeapIn b start end items →
    items_in (word_at b.at) start ≡ items

-- A block that is claimed and given back at once leaves the list as it was; `at` is the address of
-- the first item.
abbrev pub ClaimIsUndone : Type 0
ClaimIsUndone = (total room at : ℕ) (items : List Item) (claim : Claim) → AreTotals items → AreSpaced items
    → claim_in_items total room items ≡ Some claim → items_after_release
    (at + claim.offset + 4) at claim.items ≡ Some items
