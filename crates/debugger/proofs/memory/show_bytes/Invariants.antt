use Rattle.std.proofs.Common.{◌≡◌}
use Rattle.swi_dispatch_guest.specs.Output.{AddsAllBut}
use Rattle.swi_dispatch_guest.specs.AddressMapMemory.{bytes_of}
use Rattle.debugger.specs.Memory.{bytes_text}
use Rattle.debugger.proofs.memory.show_bytes.Given as goal

abbrev pub invariant-loop-left : goal.invariant-loop-left
invariant-loop-left g l = record {
  text : AddsAllBut (g.W.Sink.contents l.fn.sink) (g.W.Sink.contents l.sink) (bytes_text (bytes_of l.map) l.at l.left)
      (bytes_text (bytes_of l.map) l.address l.count);
  same_flag : g.W.Sink.has_failed l.sink ≡ g.W.Sink.has_failed l.fn.sink;
}

abbrev pub decreases-loop-left : goal.decreases-loop-left
decreases-loop-left g l = l.left
