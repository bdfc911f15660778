-- What a store call changes in heaps, a line below the call for each heap that is gone or made, for
-- each limit of one that differs, and for each item that is gone or new. Limits are in bytes from the
-- heap's start.
use Rattle.std.specs.Prelude.{ℕ, ◌==◌, List, [], ◌++◌, codes, Option, Some, None, if◌then◌else◌}
use Rattle.std.specs.Fmt.{decimal}
use Rattle.std.specs.List.{flat_map}
use Rattle.profile.specs.Digits.{hex_word}
use Rattle.address_map.specs.Records.{is_heap_kind}
use Rattle.address_map.specs.declared.region.Region.{Region}
use Rattle.store_copies.specs.Store.{Store}
use Rattle.store_copies.specs.Heap.{HeapList}
use Rattle.trace_store_text.specs.heaps.Limits.{limits_in}
use Rattle.trace_store_text.specs.items.Changes.{item_changes}
use Rattle.trace_store_text.specs.ItemLines.{item_lines}
use Rattle.trace_store_text.specs.declared.heaps.limits.HeapLimits.{HeapLimits}

-- `heap 00009000 gone`
unfoldable pub heap_gone_line : ℕ → List ℕ
heap_gone_line start = codes "                  heap " ++ (hex_word start ++ codes " gone\n")

abbrev pub gone_heap_line : ℕ → Option HeapLimits → List ℕ
gone_heap_line start None = heap_gone_line start
gone_heap_line start (Some limits) = []

-- `heap 00009000 made, end 256`
unfoldable pub made_line : ℕ → ℕ → List ℕ
made_line start end = codes "                  heap " ++ (hex_word start ++ (codes " made, end "
    ++ (decimal end ++ codes "\n")))

-- `heap 00009000 base 64 was 40`
unfoldable pub changed_limit_line : ℕ → List ℕ → ℕ → ℕ → List ℕ
changed_limit_line start name old new = codes "                  heap " ++ (hex_word start ++ (name
    ++ (decimal new ++ (codes " was " ++ (decimal old ++ codes "\n")))))

abbrev pub limit_line : ℕ → List ℕ → ℕ → ℕ → List ℕ
limit_line start name old new = if old == new then [] else changed_limit_line start name old new

abbrev pub limit_lines : ℕ → HeapLimits → HeapLimits → List ℕ
limit_lines start old new = limit_line start (codes " base ") old.base new.base
    ++ limit_line start (codes " end ") old.end new.end

-- of a heap that is there after the call
abbrev pub heap_lines_by : ℕ → Option HeapLimits → Option HeapLimits → List ℕ
heap_lines_by start None (Some new) = made_line start new.end
heap_lines_by start (Some old) (Some new) = limit_lines start old new
heap_lines_by start old None = []

abbrev pub gone_heap_lines : Store → ℕ → List ℕ
gone_heap_lines s' start = gone_heap_line start (limits_in s' start)

abbrev pub kept_heap_lines : Store → Store → ℕ → List ℕ
kept_heap_lines s s' start = heap_lines_by start (limits_in s start) (limits_in s' start)
    ++ item_lines start (item_changes s s' start)

-- those of some heaps
abbrev pub lines_of_heaps : (ℕ → List ℕ) → List HeapList → List ℕ
lines_of_heaps lines heaps = flat_map (λ (h : HeapList). lines h.start) heaps

unfoldable pub heap_lines : Store → Store → List ℕ
heap_lines s s' = lines_of_heaps (gone_heap_lines s') s.heaps ++ lines_of_heaps (kept_heap_lines s s')
    s'.heaps

-- the same by the recorded ranges
abbrev pub lines_of_region : (ℕ → List ℕ) → Region → List ℕ
lines_of_region lines r = if is_heap_kind r.kind then lines r.at else []
