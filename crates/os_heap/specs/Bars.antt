-- The recorded ranges that are in the way of a heap's range by themselves, whatever the items of heaps are.
use Rattle.std.specs.List.{list_any}
use Rattle.std.specs.Option.{option_map}
use Rattle.std.specs.Prelude.{ℕ, ◌≡◌, Bool, false, ◌&&◌, ◌+◌, nat_lt, List, Option, if◌then◌else◌}
use Rattle.os_heap_words.specs.Bytes.{Bytes, in_range, shares_address}
use Rattle.os_heap_words.specs.Records.{is_heap_kind}
use Rattle.os_heap_words.specs.Region.{Region}
use Rattle.os_heap_words.specs.lists.Heap.{HeapList}
use Rattle.os_heap.specs.Nesting.{innermost_heap}
use Rattle.os_heap.specs.Ranges.{has_before}
use Rattle.os_heap.specs.Store.{heap_in, heaps_in}

-- a heap round it that ends in it, or a range that has one of the new bytes
abbrev pub bars : ℕ → ℕ → ℕ → ℕ → HeapList → Bool
bars at len new more h = if has_before at h then nat_lt (h.start + h.end) (at + len)
    else shares_address new more h.start h.end

abbrev pub bars_record : ℕ → ℕ → ℕ → ℕ → Region → Bool
bars_record at len new more r =
    if is_heap_kind r.kind && (nat_lt r.at at && in_range r.at r.len at) then nat_lt (r.at + r.len) (at + len)
    else shares_address new more r.at r.len

-- no record is in the way by itself, and of the heaps round it this is the record of the one that starts last
pub record IsInnermost (at len new more : ℕ) (rs : List Region) (found : Option Region) : Type 0 where
  pub free : list_any (bars_record at len new more) rs ≡ false
  pub last : (b : Bytes) → innermost_heap at len (heaps_in b rs) ≡ option_map (heap_in b) found
