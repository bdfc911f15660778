-- A heap by itself: its list and the bytes of its range, and what a call on it is given (RISC OS 3
-- Programmer's Reference Manual, "OS_Heap", reasons 1 to 6; that these calls depend on nothing else
-- is this project's own).
use Rattle.std.specs.Prelude.{ℕ, ◌+◌, ◌-◌, Bool, nat_lt, Option, Some, None, if◌then◌else◌}
use Rattle.profile.specs.declared.reason.HeapReason.{HeapReason}
use Rattle.profile.specs.declared.reason.HeapReason.TheVariants as reason
use Rattle.address_map.specs.Bytes.{in_range}
use Rattle.os_heap_words.specs.lists.Heap.{HeapList}
use Rattle.os_heap_words.specs.lists.Lists.{changed_by}
use Rattle.os_heap.specs.Ranges.{are_bytes_mapped, overgrows}
use Rattle.os_heap.specs.Store.{Store}

-- the bytes of a range; elsewhere a byte counts as 0
abbrev pub bytes_in : ℕ → ℕ → (ℕ → ℕ) → ℕ → ℕ
bytes_in at len bytes a = if in_range at len a then bytes a else 0

-- a heap alone: its list, and the byte at each address of its range
pub record Alone : Type 0 where
  pub heap : HeapList
  pub bytes : ℕ → ℕ

abbrev pub alone_in : Store → HeapList → Alone
alone_in s h = record { heap = h; bytes = bytes_in h.start h.end s.bytes.at }

-- What is given for a growth: whether all added bytes are mapped, whether the heap may not grow by
-- them, and what they are. It may not where they meet another recorded range, an anchor or a heap
-- that it does not lie in, nor where a heap that it lies in does not hold them in the same block.
pub record Growth : Type 0 where
  pub mapped : Bool
  pub meets : Bool
  pub bytes : ℕ → ℕ

abbrev pub growth_to : Store → HeapList → ℕ → Growth
growth_to s h end = record {
  mapped = are_bytes_mapped s.bytes.mapped (h.start + h.end) (end - h.end);
  meets = overgrows s h end;
  bytes = bytes_in (h.start + h.end) (end - h.end) s.bytes.at;
}

-- A call on a heap: its reason, a block in R2, a size or a change of one in R3, and what is given
-- for a growth, if it is one.
pub record HeapCall : Type 0 where
  pub reason : HeapReason
  pub block : ℕ
  pub size : ℕ
  pub growth : Option Growth

-- only a change of the heap's size to a later end is a growth
abbrev pub growth_given : Store → HeapList → HeapReason → ℕ → Option Growth
growth_given s h reason.ChangeSize change =
    if nat_lt h.end (changed_by h.end change) then Some (growth_to s h (changed_by h.end change)) else None
growth_given s h other size = None

abbrev pub call_given : Store → HeapList → HeapReason → ℕ → ℕ → HeapCall
call_given s h reason block size = record {
  reason = reason;
  block = block;
  size = size;
  growth = growth_given s h reason size;
}
