use Rattle.std.proofs.Common.{◌≡◌, ◌≤◌, ◌+◌, ◌^◌, length}
use Rattle.os_heap_words.specs.Items.{size_of}
use Rattle.os_heap_words.specs.lists.Heap.{AreTotals}
use Rattle.os_heap.specs.Nesting.{holds_range}
use Rattle.os_heap.specs.Probes.{walked_to}
use Rattle.os_heap.proofs.obstacles.range_among.Given as goal

abbrev pub invariant-loop-item : goal.invariant-loop-item
invariant-loop-item l = record {
  place : holds_range l.here l.rest l.at l.len ≡ holds_range l.start l.fn.blocks l.at l.len;
  totals : AreTotals l.rest;
  below : l.here + size_of l.rest ≤ 2 ^ 26;
  count : l.probes + walked_to l.at l.here l.rest ≡ walked_to l.at l.start l.fn.blocks;
  few : l.probes ≤ l.here;
}

abbrev pub decreases-loop-item : goal.decreases-loop-item
decreases-loop-item l = length l.rest
