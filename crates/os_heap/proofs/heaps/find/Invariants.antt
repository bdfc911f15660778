use Rattle.std.proofs.Common.{◌≡◌, drop}
use Rattle.os_heap_words.specs.Memory.{bytes_of}
use Rattle.os_heap.specs.Store.{find_heap, heaps_in}
use Rattle.os_heap.proofs.heaps.find.Given as goal

abbrev pub invariant-loop-region : goal.invariant-loop-region
invariant-loop-region l = find_heap l.heap (heaps_in (bytes_of l.map) (drop l.region-index l.regions)) ≡ find_heap l.heap (heaps_in (bytes_of l.map) l.regions)
