use Rattle.std.proofs.Common.{◌≡◌, length}
use Rattle.profile.specs.Output.{AddsAllBut}
use Rattle.gdb_server.specs.Serving.{shown_packets}
use Rattle.gdb_server.proofs.server.push_shown.Given as goal

abbrev pub invariant-loop-rest : goal.invariant-loop-rest
invariant-loop-rest g l = record {
  text : AddsAllBut (g.W.Sink.contents l.fn.sink) (g.W.Sink.contents l.sink) (shown_packets l.rest) (shown_packets l.text);
  same_flag : g.W.Sink.has_failed l.sink ≡ g.W.Sink.has_failed l.fn.sink;
}

abbrev pub decreases-loop-rest : goal.decreases-loop-rest
decreases-loop-rest g l = length l.rest
