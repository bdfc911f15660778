use Rattle.std.proofs.Common.{◌≡◌, ◌≤◌, drop, min}
use Rattle.os_heap_words.specs.Bytes.{Bytes}
use Rattle.os_heap.specs.Forgetting.{lowest_lost}
use Rattle.os_heap.specs.Store.{heaps_in}
use Rattle.os_heap.proofs.forget.lowest_lost.Given as goal

abbrev pub invariant-loop-region : goal.invariant-loop-region
invariant-loop-region l = record {
  most : l.low ≤ l.from;
  least : (b : Bytes) → min l.low (lowest_lost l.block l.len l.from (heaps_in b (drop l.region-index l.regions)))
      ≡ lowest_lost l.block l.len l.from (heaps_in b l.regions);
}
