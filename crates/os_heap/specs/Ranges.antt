-- Which ranges a heap may have (RISC OS 3 Programmer's Reference Manual, "OS_Heap", reasons 0 and 5; the limits are this project's own).
use Rattle.os_heap_words.specs.MemoryMap.{module_area_start}
use Rattle.std.specs.Prelude.{ℕ, ◌≡◌, Bool, List, [], true, false, not, zero, suc, ◌+◌, ◌-◌, ◌%◌, ◌==◌, ◌&&◌, ◌||◌, nat_le, nat_lt, if◌then◌else◌}
use Rattle.std.specs.List.{list_any}
use Rattle.os_heap_words.specs.Kind.{Kind}
use Rattle.os_heap_words.specs.Kind.TheVariants as kind
use Rattle.os_heap_words.specs.Bytes.{Bytes, in_range, shares_address}
use Rattle.os_heap_words.specs.Items.{size_of}
use Rattle.os_heap_words.specs.Records.{anchor_among}
use Rattle.os_heap_words.specs.lists.Heap.{HeapList}
use Rattle.os_heap.specs.Nesting.{holds_range, is_crossed}
use Rattle.os_heap.specs.Store.{Store, guest_count}

-- it begins and ends at whole words, has 16 to 16,777,216 bytes, and all are mapped
abbrev pub are_bytes_mapped : (ℕ → Bool) → ℕ → ℕ → Bool
are_bytes_mapped mapped at zero = true
are_bytes_mapped mapped at (suc n) = mapped at && are_bytes_mapped mapped (at + 1) n

abbrev pub is_heap_region : Bytes → ℕ → ℕ → Bool
is_heap_region b at size = (at % 4 == 0 && size % 4 == 0)
    && ((nat_le 16 size && nat_le size 16777216) && are_bytes_mapped b.mapped at size)

-- does a range share an address with a recorded one, or hold an anchor? An empty range does neither.
abbrev pub meets_any : ℕ → ℕ → Store → Bool
meets_any at len s =
    (list_any (λ h. shares_address at len h.start h.end) s.heaps
    || list_any (λ r. shares_address at len r.at r.len) s.others) || anchor_among s.anchor at len

-- May a heap not be made of a range? It may lie in what one live block holds of each heap that it meets; it may meet no other recorded range, and
-- hold no anchor.
abbrev pub overlaps : ℕ → ℕ → Store → Bool
overlaps at len s =
    (list_any (is_crossed at len) s.heaps || list_any (λ r. shares_address at len r.at r.len) s.others)
    || anchor_among s.anchor at len

-- does a heap that starts below an address have its byte? One that starts there lies in it then.
abbrev pub has_before : ℕ → HeapList → Bool
has_before at h = nat_lt h.start at && in_range h.start h.end at

abbrev pub is_in_heap : ℕ → List HeapList → Bool
is_in_heap at hs = list_any (has_before at) hs

-- Is a heap in the way of one that is to have the range of `len` bytes at `at`, those `more` at `new` for the first time? A heap round it must hold
-- all of its range in one live block, and each other may have none of the new bytes.
abbrev pub is_in_way : ℕ → ℕ → ℕ → ℕ → HeapList → Bool
is_in_way at len new more h = if has_before at h then not (holds_range (h.start + 16) h.items at len)
    else shares_address new more h.start h.end

abbrev pub is_obstructed : ℕ → ℕ → ℕ → ℕ → Store → Bool
is_obstructed at len new more s =
    (list_any (is_in_way at len new more) s.heaps || list_any
    (λ r. shares_address new more r.at r.len) s.others) || anchor_among s.anchor new more

-- whether one heap more of a kind is within the limits: 64 that guests have made, and the module area at its place, which is made before all others
abbrev pub IsWithinHeapLimit : Kind → Store → ℕ → Type 0
IsWithinHeapLimit kind.Heap s at = nat_le 64 (guest_count s.heaps) ≡ false
IsWithinHeapLimit kind.Rma s at = (s.heaps ≡ []) × (at ≡ module_area_start)
IsWithinHeapLimit kind.FlexStore s at = ⊥
IsWithinHeapLimit kind.FlexHeader s at = ⊥
IsWithinHeapLimit kind.Anchor s at = ⊥
IsWithinHeapLimit kind.HeadWord s at = ⊥
IsWithinHeapLimit kind.Image s at = ⊥
IsWithinHeapLimit kind.SystemPage s at = ⊥

-- a heap of `size` bytes at `at` is allowed
pub record MayBegin (k : Kind) (s : Store) (at size : ℕ) : Type 0 where
  pub region : is_heap_region s.bytes at size ≡ true
  pub clear : overlaps at size s ≡ false
  pub room : IsWithinHeapLimit k s at

-- May a heap not grow up to another end, counted from its start? One that lies in another must lie, as it is then, in the same block; and what it
-- grows by must meet no heap but those, no other recorded range and no anchor.
abbrev pub overgrows : Store → HeapList → ℕ → Bool
overgrows s h end = nat_lt h.end end && is_obstructed h.start end (h.start + h.end) (end - h.end) s

-- The heap may have another end: the new range is one that a heap may have; it may grow up to there; and it holds all items.
pub record MayEnd (s : Store) (h : HeapList) (end : ℕ) : Type 0 where
  pub region : is_heap_region s.bytes h.start end ≡ true
  pub clear : overgrows s h end ≡ false
  pub inside : nat_lt end (16 + size_of h.items) ≡ false
