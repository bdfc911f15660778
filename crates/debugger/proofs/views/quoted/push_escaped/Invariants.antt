use Rattle.std.proofs.Common.{◌≡◌, drop}
use Rattle.std.specs.List.{flat_map}
use Rattle.swi_dispatch_guest.specs.Output.{AddsAllBut}
use Rattle.debugger.specs.views.Quoted.{quoted_byte_text}
use Rattle.debugger.proofs.views.quoted.push_escaped.Given as goal

-- what stands written, and the bytes that are left, is all
abbrev pub invariant-loop-byte : goal.invariant-loop-byte
invariant-loop-byte g l = record {
  text : AddsAllBut (g.W.Sink.contents l.fn.sink) (g.W.Sink.contents l.sink)
      (flat_map quoted_byte_text (drop l.byte-index l.bytes)) (flat_map quoted_byte_text l.fn.bytes);
  same_flag : g.W.Sink.has_failed l.sink ≡ g.W.Sink.has_failed l.fn.sink;
}
