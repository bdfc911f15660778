-- Which bytes a call of OS_Heap writes that is done: those of the words that the list of its heap
-- spells then; and where it moves a block, also those of the words of the list in which the block
-- stands at both places, and those that it copies (RISC OS 3 Programmer's Reference Manual,
-- "OS_Heap", reasons 0 to 6; which words a heap spells is this project's own).
use Rattle.std.specs.Prelude.{ℕ, ◌≡◌, ◌-◌, ◌+◌, ◌⊎◌, true, false, Some}
use Rattle.profile.specs.Reasons.{heap_reason}
use Rattle.profile.specs.declared.reason.HeapReason.{HeapReason}
use Rattle.profile.specs.declared.reason.HeapReason.TheVariants as reason
use Rattle.address_map.specs.Bytes.{in_range, word_start}
use Rattle.address_map.specs.Items.{is_heap_word}
use Rattle.arm_core.specs.State.{State, register_of}
use Rattle.os_heap_words.specs.lists.Heap.{HeapList}
use Rattle.os_heap_words.specs.lists.Lists.{Claim, changed_by, claim_in_items, live_total, round_up_8}
use Rattle.os_heap.specs.Store.{Store, find_heap}
use Rattle.swi_dispatch_guest.specs.MachineState.{MachineState}

-- A byte of a word that the heap at `heap` spells: of its descriptor, of a block's length, or of a
-- free block's link or length. No block's contents are among them.
pub record IsHeadByte (t : Store) (heap a : ℕ) : Type 0 where
  pub list : HeapList
  pub found : find_heap heap t.heaps ≡ Some list
  pub word : is_heap_word list.start list.items (word_start a) ≡ true

-- A resize moved the block at `block` to `new`: another block was claimed, what the old one held
-- was copied there, and the old one was given back. The byte is of a word of the list after the
-- claim, or one of those that were copied.
pub record IsOfMovedBlock (s t : Store) (heap block change new a : ℕ) : Type 0 where
  pub list : HeapList
  pub found : find_heap heap s.heaps ≡ Some list
  pub total : ℕ
  pub live : live_total block (list.start + 16) list.items ≡ Some total
  pub claim : Claim
  pub claims : claim_in_items (round_up_8 (changed_by total change)) (list.end - 16) list.items ≡ Some claim
  pub place : new ≡ list.start + 16 + claim.offset + 4
  pub byte : (is_heap_word list.start claim.items (word_start a) ≡ true)
      ⊎ ((in_range new (total - 4) a ≡ true) × (t.bytes.at a ≡ s.bytes.at (block + (a - new))))

-- The bytes that a call writes, by its reason: reasons 1 and 6 only read. A resize answers `new`.
abbrev pub IsWrittenFor : HeapReason → Store → Store → ℕ → ℕ → ℕ → ℕ → ℕ → Type 0
IsWrittenFor reason.Initialise s t heap block size new a = IsHeadByte t heap a
IsWrittenFor reason.Describe s t heap block size new a = ⊥
IsWrittenFor reason.Get s t heap block size new a = IsHeadByte t heap a
IsWrittenFor reason.Free s t heap block size new a = IsHeadByte t heap a
IsWrittenFor reason.Resize s t heap block size new a = IsHeadByte t heap a ⊎
    IsOfMovedBlock s t heap block size new a
IsWrittenFor reason.ChangeSize s t heap block size new a = IsHeadByte t heap a
IsWrittenFor reason.BlockSize s t heap block size new a = ⊥

-- The call was done, which V shows, and the byte is one that it writes: the heap is in R1, a block
-- in R2, a size or a change of one in R3, and R2 answers where the block is then.
pub record IsWrittenByCall (cpu : State) (s : Store) (t : MachineState) (a : ℕ) : Type 0 where
  pub done : t.cpu.psr.overflow ≡ false
  pub why : HeapReason
  pub reason : heap_reason (register_of cpu 0) ≡ Some why
  pub byte : IsWrittenFor why s t.store (register_of cpu 1) (register_of cpu 2) (register_of cpu 3)
      (register_of t.cpu 2) a
