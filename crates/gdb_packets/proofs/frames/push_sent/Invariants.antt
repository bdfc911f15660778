use Rattle.std.proofs.Common.{◌≡◌, drop, take}
use Rattle.profile.specs.Output.{AddsAllBut}
use Rattle.gdb_packets.specs.Frames.{check_sum, sent_bytes}
use Rattle.gdb_packets.proofs.frames.push_sent.Given as goal

-- what stands written, and the bytes that are left, is all; the sum is that of what stands written
abbrev pub invariant-loop-byte : goal.invariant-loop-byte
invariant-loop-byte g l = record {
  text : AddsAllBut (g.W.Sink.contents l.fn.sink) (g.W.Sink.contents l.sink)
      (sent_bytes (drop l.byte-index l.packet)) (sent_bytes l.fn.packet);
  same_flag : g.W.Sink.has_failed l.sink ≡ g.W.Sink.has_failed l.fn.sink;
  total : l.total ≡ check_sum (sent_bytes (take l.byte-index l.packet));
}
