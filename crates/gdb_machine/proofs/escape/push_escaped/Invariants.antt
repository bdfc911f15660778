use Rattle.std.proofs.Common.{◌≡◌, drop}
use Rattle.profile.specs.Output.{AddsAllBut}
use Rattle.gdb_machine.specs.Escape.{escaped_bytes}
use Rattle.gdb_machine.proofs.escape.push_escaped.Given as goal

-- what stands written, and the bytes that are left, is all
abbrev pub invariant-loop-byte : goal.invariant-loop-byte
invariant-loop-byte g l = record {
  text : AddsAllBut (g.W.Sink.contents l.fn.sink) (g.W.Sink.contents l.sink) (escaped_bytes (drop l.byte-index l.bytes)) (escaped_bytes l.fn.bytes);
  same_flag : g.W.Sink.has_failed l.sink ≡ g.W.Sink.has_failed l.fn.sink;
}
