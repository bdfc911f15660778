-- What holds of live blocks in every sound store, and over every call that changes one (RISC OS 3 Programmer's Reference Manual, "OS_Heap": a block
-- is its claimer's until it is given back).
use Rattle.std.specs.Prelude.{ℕ, ◌≡◌, ◌≤◌, ◌<◌, ◌⊎◌, ◌↔◌, ◌+◌, ◌-◌, ◌&&◌, Bool, not, true, false, Option, Some, None, Ok}
use Rattle.std.specs.List.{list_any}
use Rattle.os_heap_words.specs.Bytes.{in_range, shares_address}
use Rattle.os_heap_words.specs.Memory.{regions}
use Rattle.os_heap_words.specs.AddressMap.{AddressMap}
use Rattle.os_heap_words.specs.lists.Heap.{HeapList}
use Rattle.os_heap_words.specs.lists.Lists.{live_total}
use Rattle.os_heap.specs.Calls.{store_after_init, store_after_change, gave_back, store_after_get, store_after_resize}
use Rattle.os_heap.specs.Forgetting.{store_after_forget, starts_in}
use Rattle.os_heap.specs.Nesting.{holds_range, innermost_heap, is_crossed, is_round, last_of}
use Rattle.os_heap.specs.Order.{KeepsOrder}
use Rattle.os_heap.specs.Payloads.{is_other, payload_in, payload_of}
use Rattle.os_heap.specs.Store.{Store, IsSound, find_heap, store_of}

-- The `len` bytes from `at` on lie in what the block at `block` with its `total` bytes holds.
abbrev pub IsInPayload : ℕ → ℕ → ℕ → ℕ → Type 0
IsInPayload block total at len = (block ≤ at) × (at + len + 4 ≤ block + total)

-- Two live blocks that share a byte, of their length words or of those that they hold, are one, or one of them lies with its length word in what the
-- other holds.
abbrev pub LiveBlocksAreApart : Type 0
LiveBlocksAreApart = (s : Store) (h g : HeapList) (block total other other_total a : ℕ) → IsSound s
    → find_heap h.start s.heaps ≡ Some h → find_heap g.start s.heaps ≡ Some g
    → live_total block (h.start + 16) h.items ≡ Some total →
    live_total other (g.start + 16) g.items ≡ Some other_total
    → in_range (block - 4) total a ≡ true → in_range (other - 4) other_total a ≡ true
    → ((h.start ≡ g.start) × (block ≡ other)) ⊎ (IsInPayload block total (other - 4) other_total ⊎
    IsInPayload other other_total (block - 4) total)

-- A call on the heap at `heap`: a block that is live in both stores, in the same heap, holds the same bytes in both, as far as it holds them in both.
-- The block is of the heap called, or the byte is none of that heap's range; other blocks that have bytes there lie in one of its blocks or round it.
abbrev pub KeepsPayloads : Store → Store → ℕ → Type 0
KeepsPayloads s t heap = (h g : HeapList) (block total new_total a : ℕ) → find_heap h.start s.heaps ≡ Some h →
    find_heap h.start t.heaps ≡ Some g
    → live_total block (h.start + 16) h.items ≡ Some total →
    live_total block (h.start + 16) g.items ≡ Some new_total
    → in_range block (total - 4) a ≡ true → in_range block (new_total - 4) a ≡ true
    → (h.start ≡ heap) ⊎ ((k : HeapList) → find_heap heap t.heaps ≡ Some k →
    in_range k.start k.end a ≡ false) → t.bytes.at a ≡ s.bytes.at a

-- Each call that is done keeps the bytes of these blocks; a block that is moved is live at its old address no more.
pub record KeepPayloads (s t : Store) (heap : ℕ) : Type 0 where
  pub init : (size : ℕ) → store_after_init s heap size ≡ Ok (t, tt) → KeepsPayloads s t heap
  pub get : (size block : ℕ) → store_after_get s heap size ≡ Ok (t, block) → KeepsPayloads s t heap
  pub free : (block : ℕ) → gave_back s heap block ≡ Ok (t, tt) → KeepsPayloads s t heap
  pub resize : (block change new : ℕ) → store_after_resize s heap block change ≡ Ok (t, new) →
      KeepsPayloads s t heap
  pub change_size : (change : ℕ) → store_after_change s heap change ≡ Ok (t, tt) → KeepsPayloads s t heap

abbrev pub CallsKeepPayloads : Type 0
CallsKeepPayloads = (s t : Store) (heap : ℕ) → IsSound s → IsSound t → KeepPayloads s t heap

-- What is left of a sound store is sound where heaps are forgotten.
abbrev pub ForgettingKeeps : Type 0
ForgettingKeeps = (s : Store) (block total from : ℕ) → IsSound s →
    IsSound (store_after_forget s block total from)

-- A heap goes with the bytes from `from` on of a block where it starts in a heap that starts in the block and has one of these bytes. That may be the
-- heap itself.
pub record IsLost (s : Store) (block total from start : ℕ) : Type 0 where
  pub heap : HeapList
  pub found : find_heap heap.start s.heaps ≡ Some heap
  pub starts : starts_in block (total - 4) heap ≡ true
  pub freed : from < heap.start + heap.end
  pub round : in_range heap.start heap.end start ≡ true

-- Just these heaps are forgotten with bytes of a live block.
abbrev pub ForgottenAreLost : Type 0
ForgottenAreLost = (s : Store) (h k : HeapList) (block total from : ℕ) → IsSound s →
    find_heap h.start s.heaps ≡ Some h
    → live_total block (h.start + 16) h.items ≡ Some total → block ≤ from → find_heap k.start s.heaps ≡ Some k
    → (find_heap k.start (store_after_forget s block total from).heaps ≡ None) ↔
    IsLost s block total from k.start

-- what a test says of a heap, if there is one
abbrev pub passes_if_there : (HeapList → Bool) → Option HeapList → Bool
passes_if_there test None = false
passes_if_there test (Some h) = test h

-- Of heaps that lie round each other the innermost shows for all. Whether a byte lies in a heap, but not in what live blocks hold, is shown by the heap
-- with that byte that starts last. Whether a range meets a heap otherwise than by lying in a block is shown by the heap round it that starts last,
-- unless it meets a heap that does not lie round it.
abbrev pub InnermostShows : Type 0
InnermostShows = (s : Store) → IsSound s
    → ((a : ℕ) → is_other (payload_of s.heaps a) ≡ passes_if_there (λ h. is_other (payload_in h a))
    (last_of (λ h. in_range h.start h.end a) s.heaps))
    × ((at len : ℕ) → 0 < len → list_any (λ h. shares_address at len h.start h.end
    && not (is_round at len h)) s.heaps ≡ false
    → list_any (is_crossed at len) s.heaps ≡ passes_if_there
    (λ h. not (holds_range (h.start + 16) h.items at len)) (innermost_heap at len s.heaps))

-- The heaps of a store, its other ranges, and the order show all records: where a call leaves these three, it leaves the record as it was.
abbrev pub RecordsAreShown : Type 0
RecordsAreShown = (m n : AddressMap) → (store_of n).heaps ≡ (store_of m).heaps →
    (store_of n).others ≡ (store_of m).others → KeepsOrder m n → regions n ≡ regions m
