use Rattle.std.proofs.Common.{◌≡◌, ◌≤◌, ◌+◌, ◌^◌, length}
use Rattle.swi_dispatch_guest.specs.Output.{AddsAllBut}
use Rattle.swi_dispatch_guest.specs.Items.{size_of}
use Rattle.debugger.specs.Heap.{heap_items_text}
use Rattle.debugger.proofs.heap.show_items.Given as goal

abbrev pub invariant-loop-item : goal.invariant-loop-item
invariant-loop-item g l = record {
  text : AddsAllBut (g.W.Sink.contents l.fn.sink) (g.W.Sink.contents l.sink) (heap_items_text l.at l.rest) (heap_items_text l.start l.fn.blocks);
  below : l.at + size_of l.rest ≤ 2 ^ 26;
  same_flag : g.W.Sink.has_failed l.sink ≡ g.W.Sink.has_failed l.fn.sink;
}

abbrev pub decreases-loop-item : goal.decreases-loop-item
decreases-loop-item g l = length l.rest
