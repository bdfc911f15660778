use Rattle.std.proofs.Common.{◌≡◌, ◌≤◌, ◌+◌, ◌^◌, length}
use Rattle.os_heap_words.specs.Items.{size_of}
use Rattle.os_heap_words.specs.lists.Heap.{AreTotals}
use Rattle.os_heap.specs.Payloads.{payload_from}
use Rattle.os_heap.proofs.payload.payload_among.Given as goal

abbrev pub invariant-loop-item : goal.invariant-loop-item
invariant-loop-item l = record {
  place : payload_from l.at l.rest l.address ≡ payload_from l.start l.fn.blocks l.address;
  totals : AreTotals l.rest;
  below : l.at + size_of l.rest ≤ 2 ^ 26;
}

abbrev pub decreases-loop-item : goal.decreases-loop-item
decreases-loop-item l = length l.rest
