use Rattle.std.proofs.Common.{◌≡◌, drop}
use Rattle.profile.specs.Output.{AddsAllBut}
use Rattle.gdb_server.specs.Server.{server_state}
use Rattle.gdb_server.specs.Serving.{bytes_served}
use Rattle.gdb_server.proofs.server.GdbServer.take.Given as goal

-- What stands written, and what the bytes that are left are answered with, is the answer to all bytes.
abbrev pub invariant-loop-byte : goal.invariant-loop-byte
invariant-loop-byte g l = record {
  text : AddsAllBut (g.W.Sink.contents l.fn.sink) (g.W.Sink.contents l.sink)
      (bytes_served (drop l.byte-index l.bytes) (server_state l.self l.images)).text
      (bytes_served l.bytes (server_state l.fn.self l.fn.images)).text;
  state : (bytes_served (drop l.byte-index l.bytes) (server_state l.self l.images)).state
      ≡ (bytes_served l.bytes (server_state l.fn.self l.fn.images)).state;
  same_flag : g.W.Sink.has_failed l.sink ≡ g.W.Sink.has_failed l.fn.sink;
}
