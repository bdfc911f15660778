use Rattle.std.proofs.Common.{◌≡◌, take}
use Rattle.gdb_server.specs.Server.{server_state}
use Rattle.rosm_tools.specs.gdb.Streams.{AnswersBytes}
use Rattle.rosm_tools.proofs.gdb.serve.take_piece.Given as goal

-- The bytes so far are answered.
abbrev pub invariant-loop-byte : goal.invariant-loop-byte
invariant-loop-byte g l = record {
  answers : AnswersBytes g.F.File.Read.remaining l.wanted (take l.byte-index l.piece)
      (g.W.Sink.contents l.fn.sink) (g.W.Sink.contents l.sink) (server_state l.fn.server l.fn.images) (server_state l.server l.images);
  same_flag : g.W.Sink.has_failed l.sink ≡ g.W.Sink.has_failed l.fn.sink;
}
