use Rattle.std.proofs.Common.{◌≡◌, false}
use Rattle.profile.specs.Devices.{device_failed, device_inner}
use Rattle.gdb_server.specs.Server.{server_state}
use Rattle.rosm_tools.specs.gdb.Streams.{AnswersInput}
use Rattle.rosm_tools.proofs.gdb.serve.serve.Given as goal

-- All that was read is answered.
abbrev pub invariant-loop-pulls : goal.invariant-loop-pulls
invariant-loop-pulls g l = record {
  answers : AnswersInput g.F.File.Read.remaining l.wanted (g.R.Source.remaining l.fn.reader) (g.R.Source.remaining l.reader)
      (g.W.Write.contents (device_inner l.fn.writer)) (g.W.Write.contents (device_inner l.writer))
      (server_state l.fn.server l.fn.images) (server_state l.server l.images);
  readable : g.R.Source.has_failed l.fn.reader ≡ false → g.R.Source.has_failed l.reader ≡ false;
  same_flag : device_failed l.writer ≡ device_failed l.fn.writer;
}
