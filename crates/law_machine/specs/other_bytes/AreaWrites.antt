-- Which bytes of the whole of memory a call on the module area writes: those of the words that the
-- list of its heap spells then, and what it copies (RISC OS 3 Programmer's Reference Manual,
-- "OS_Module", reasons 1, 6, 7, 11 and 13; which words a heap spells is this project's own).
use Rattle.profile.specs.MemoryMap.{module_area_start}
use Rattle.std.specs.Prelude.{ℕ, ◌≡◌, ◌-◌, ◌+◌, ◌⊎◌, true, length, List, Some, Ok}
use Rattle.address_map.specs.Bytes.{in_range, word_start}
use Rattle.address_map.specs.Items.{is_heap_word}
use Rattle.os_heap_words.specs.lists.Heap.{HeapList}
use Rattle.os_heap_words.specs.lists.Lists.{Claim, changed_by, claim_in_items, live_total, round_up_8}
use Rattle.os_heap.specs.Store.{Store, find_heap}
use Rattle.dynamic_areas.specs.Ground.{AreaStore, IsAreaStore}
use Rattle.rma.specs.Calls.{rma_claimed, rma_extended, rma_freed}
use Rattle.rma.specs.NewImages.{image_copied, image_made}
use Rattle.instances.specs.tidying.Laws.{AreBytes}
use Rattle.law_machine.specs.live_bytes.HeapWrites.{IsHeadByte}

-- a byte of a word that the module area's heap spells
abbrev pub IsAreaWord : Store → ℕ → Type 0
IsAreaWord t a = IsHeadByte t module_area_start a

-- A block of the module area that changed its size was moved: another one was claimed, in the area
-- as it is then, what the old one held was copied there, and the old one was given back. The byte
-- is of a word of the list in which both stand, or it is one of those that were copied.
pub record IsOfMovedAreaBlock (s t : Store) (block change a : ℕ) : Type 0 where
  pub list : HeapList
  pub found : find_heap module_area_start s.heaps ≡ Some list
  pub after : HeapList
  pub left : find_heap module_area_start t.heaps ≡ Some after
  pub total : ℕ
  pub live : live_total block (list.start + 16) list.items ≡ Some total
  pub claim : Claim
  pub claims : claim_in_items (round_up_8 (changed_by total change)) (after.end - 16) list.items ≡ Some claim
  pub byte : (is_heap_word list.start claim.items (word_start a) ≡ true)
      ⊎ (in_range (list.start + 16 + claim.offset + 4) (total - 4) a ≡ true)

-- A call leaves the byte as it was, or is one that writes it. So a cut leaves what it cuts off, a
-- growth what comes to the block, and a new image what fills up its block; the pages that the area
-- grows by are as they are mapped.
pub record AreaCallWrites (d e : AreaStore) (a : ℕ) : Type 0 where
  pub claim : (size block : ℕ) → rma_claimed d size ≡ Ok (e, block)
      → (e.store.bytes.at a ≡ d.store.bytes.at a) ⊎ IsAreaWord e.store a
  pub free : (block : ℕ) → rma_freed d block ≡ Ok (e, tt)
      → (e.store.bytes.at a ≡ d.store.bytes.at a) ⊎ IsAreaWord e.store a
  pub extend : (block change new : ℕ) → rma_extended d block change ≡ Ok (e, new)
      → (e.store.bytes.at a ≡ d.store.bytes.at a)
      ⊎ (IsAreaWord e.store a ⊎ IsOfMovedAreaBlock d.store e.store block change a)
  pub make_image : (image : List ℕ) (at : ℕ) → image_made d image ≡ Ok (e, at)
      → (e.store.bytes.at a ≡ d.store.bytes.at a)
      ⊎ (IsAreaWord e.store a ⊎ (in_range at (length image) a ≡ true))
  pub copy_image : (from len at : ℕ) → image_copied d from len ≡ Ok (e, at)
      → (e.store.bytes.at a ≡ d.store.bytes.at a)
      ⊎ (IsAreaWord e.store a ⊎ (in_range at len a ≡ true))

abbrev pub AreaCallsKeepOthers : Type 0
AreaCallsKeepOthers = (d e : AreaStore) (a : ℕ) → IsAreaStore d → AreBytes d.store.bytes.at → AreaCallWrites
    d e a
