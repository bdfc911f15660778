-- What a call answers that asks for the size of a block, or for where the items of a heap end.
use Rattle.std.proofs.Common.{List, refl, false, inl, inr, ◌-◌, ◌+◌, ◌≡◌, ℕ, ◌++◌, ◌∙◌, Some, ◌∷◌, None, Err, Ok}
use Rattle.os_heap_words.specs.ErrorNumber.TheVariants.{HeapBadDesc, HeapNotABlock}
use Rattle.std.proofs.lemmas.Bool.{cases_Bool}
use Rattle.os_heap_words.specs.Item.{Item}
use Rattle.os_heap_words.specs.Region.{Region}
use Rattle.os_heap_words.specs.Items.{size_of}
use Rattle.os_heap_words.specs.Memory.{regions}
use Rattle.os_heap_words.specs.AddressMap.{AddressMap}
use Rattle.os_heap_words.specs.Kind.{Kind}
use Rattle.os_heap_words.proofs.ListsLemmas.Resizes.{unreleased}
use Rattle.os_heap_words.specs.lists.Lists.{live_total, items_after_release}
use Rattle.os_heap.proofs.Calls.{part_at, image_recorded}
use Rattle.os_heap.specs.Calls.{block_sized, bytes_held, unless_image, guests_total}
use Rattle.os_heap_words.specs.Outcomes.{items_at}
use Rattle.os_heap.specs.Room.{base_offset}
use Rattle.os_heap.specs.Store.{find_heap, store_of, has_image}

-- what a call answers that asks for the size of a block
pub sized_found : (kind : Kind) (m : AddressMap) (heap block end : ℕ) → find_heap heap (store_of m).heaps ≡ Some (part_at kind m heap end)
    → block_sized (store_of m) heap block ≡ bytes_held (guests_total (regions m) heap (items_at m heap) block)
unfolding block_sized
sized_found kind m heap block end found = rw (found, image_recorded m block) refl

pub sized_none : (m : AddressMap) (heap block : ℕ) → find_heap heap (store_of m).heaps ≡ None → block_sized (store_of m) heap block ≡ Err HeapBadDesc
unfolding block_sized
sized_none m heap block none = rw none refl

pub sized_of : (rs : List Region) (start block word total : ℕ) (items : List Item) → has_image block rs ≡ false → live_total block (start + 16) items ≡ Some total
    → word ≡ total → Ok (word - 4) ≡ bytes_held (guests_total rs start items block)
sized_of rs start block word total items own live same = rw (own, live, same) refl

-- where no block of the guest's is given back, none has a size
pub unheld : (rs : List Region) (block at : ℕ) (xs : List Item) → unless_image (has_image block rs) (items_after_release block at xs) ≡ None
    → unless_image (has_image block rs) (live_total block at xs) ≡ None
unheld rs block at xs none = elim (cases_Bool (has_image block rs)) [
  | inl image ↦ rw image refl
  | inr own ↦ rw own (unreleased block at xs (rw own at none))
]

pub unsized : (rs : List Region) (start block : ℕ) (items : List Item) → unless_image (has_image block rs) (items_after_release block (start + 16) items) ≡ None
    → bytes_held (guests_total rs start items block) ≡ Err HeapNotABlock
unsized rs start block items none = rw (unheld rs block (start + 16) items none) refl

-- and where its items end
pub base_found : (kind : Kind) (m : AddressMap) (heap end : ℕ) → find_heap heap (store_of m).heaps ≡ Some (part_at kind m heap end)
    → base_offset (store_of m) heap ≡ 16 + size_of (items_at m heap)
unfolding base_offset
base_found kind m heap end found = rw found refl

pub base_none : (m : AddressMap) (heap : ℕ) → find_heap heap (store_of m).heaps ≡ None → base_offset (store_of m) heap ≡ 0
unfolding base_offset
base_none m heap none = rw none refl
