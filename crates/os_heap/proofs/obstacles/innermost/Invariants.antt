use Rattle.std.proofs.Common.{◌≡◌, drop, option_map}
use Rattle.std.specs.List.{list_any}
use Rattle.os_heap_words.specs.Bytes.{Bytes}
use Rattle.os_heap.specs.Bars.{bars_record}
use Rattle.os_heap.specs.Nesting.{innermost_heap, later_heap}
use Rattle.os_heap.specs.Store.{heap_in, heaps_in}
use Rattle.os_heap.proofs.obstacles.innermost.Given as goal

abbrev pub invariant-loop-region : goal.invariant-loop-region
invariant-loop-region l = record {
  free : list_any (bars_record l.at l.len l.new l.more) (drop l.region-index l.regions) ≡ list_any (bars_record l.at l.len l.new l.more) l.regions;
  last : (b : Bytes)
      → later_heap (option_map (heap_in b) l.last) (innermost_heap l.at l.len (heaps_in b (drop l.region-index l.regions))) ≡ innermost_heap l.at l.len (heaps_in b l.regions);
}
