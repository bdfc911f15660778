-- Which heaps a call of OS_Heap forgets, and what becomes of their bytes (RISC OS 3 Programmer's
-- Reference Manual, "OS_Heap", reasons 3 and 4; that a heap may lie in a block, and is forgotten
-- with bytes of it, is this project's own).
use Rattle.std.specs.Prelude.{ℕ, ◌≡◌, ◌≤◌, ◌↔◌, ◌+◌, ◌-◌, false, nat_le, Option, Some, None, Ok, if◌then◌else◌}
use Rattle.profile.specs.declared.reason.HeapReason.{HeapReason}
use Rattle.profile.specs.declared.reason.HeapReason.TheVariants as reason
use Rattle.address_map.specs.Bytes.{word_start}
use Rattle.address_map.specs.Items.{is_heap_word}
use Rattle.os_heap_words.specs.lists.Heap.{HeapList}
use Rattle.os_heap_words.specs.lists.Lists.{changed_by, live_total, round_up_8}
use Rattle.os_heap.specs.Laws.{IsLost}
use Rattle.os_heap.specs.Store.{Store, IsSound, find_heap}
use Rattle.law_machine.specs.heap_calls.Laws.{LiesInBlock}
use Rattle.law_machine.specs.heap_calls.Turns.{call_on}

-- From which address on a call frees what a block of `total` bytes, with its length word, holds:
-- from its first byte on where it is given back, or where its new size leaves it no byte; from the
-- end of its new total on where it gets another size, which frees none where that is no less. No
-- other reason frees a byte of a block.
abbrev pub freed_from : HeapReason → ℕ → ℕ → ℕ → Option ℕ
freed_from reason.Free block total size = Some block
freed_from reason.Resize block total change =
    Some (if nat_le (changed_by total change) 4 then block
    else block - 4 + round_up_8 (changed_by total change))
freed_from other block total size = None

-- The call with `block` in R2 and `size` in R3 frees bytes of that block of the heap in R1, and
-- with these goes the heap that starts at `start`: it has one of them, or lies in a heap there that
-- has one.
pub record IsForgotten (s : Store) (heap : ℕ) (why : HeapReason) (block size start : ℕ) : Type 0 where
  pub owner : HeapList
  pub found : find_heap heap s.heaps ≡ Some owner
  pub total : ℕ
  pub live : live_total block (owner.start + 16) owner.items ≡ Some total
  pub from : ℕ
  pub frees : freed_from why block total size ≡ Some from
  pub lost : IsLost s block total from start

-- Just these heaps are recorded no more after a call that is done, on any heap or one that makes a
-- heap.
abbrev pub CallsForgetHeaps : Type 0
CallsForgetHeaps =
    (s t : Store) (k : HeapList) (heap : ℕ) (why : HeapReason) (block size : ℕ) (answer : ℕ × ℕ) → IsSound s →
    find_heap k.start s.heaps ≡ Some k
    → call_on s heap why block size ≡ Ok (t, answer) → (find_heap k.start t.heaps ≡ None) ↔
    IsForgotten s heap why block size k.start

-- Each of them lies in a block of another heap.
abbrev pub ForgottenLieInBlocks : Type 0
ForgottenLieInBlocks =
    (s : Store) (k : HeapList) (heap : ℕ) (why : HeapReason) (block size : ℕ) → IsSound s →
    find_heap k.start s.heaps ≡ Some k
    → IsForgotten s heap why block size k.start → LiesInBlock s k

-- A call that frees bytes of a block, and gives it no more, changes no byte but those of the words
-- that the new list of its heap spells. So the bytes of the heaps that it forgets stay where they
-- are.
abbrev pub FreesKeepBytes : Type 0
FreesKeepBytes =
    (s t : Store) (h g : HeapList) (why : HeapReason) (block size total from a : ℕ) (answer : ℕ × ℕ) →
    IsSound s → IsSound t
    → find_heap h.start s.heaps ≡ Some h → live_total block (h.start + 16) h.items ≡ Some total →
    freed_from why block total size ≡ Some from
    → from ≤ block - 4 + total → call_on s h.start why block size ≡ Ok (t, answer) →
    find_heap h.start t.heaps ≡ Some g
    → is_heap_word h.start g.items (word_start a) ≡ false → t.bytes.at a ≡ s.bytes.at a
