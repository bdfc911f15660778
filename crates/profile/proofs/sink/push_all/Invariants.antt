use Rattle.std.proofs.Common.{◌≡◌, length}
use Rattle.profile.specs.Output.{AddsAllBut}
use Rattle.profile.proofs.sink.push_all.Given as goal

-- What stands written, and the rest, is all.
abbrev pub invariant-loop-rest : goal.invariant-loop-rest
invariant-loop-rest g l = record {
  text : AddsAllBut (g.W.Sink.contents l.fn.sink) (g.W.Sink.contents l.sink) l.rest l.fn.bytes;
  same_flag : g.W.Sink.has_failed l.sink ≡ g.W.Sink.has_failed l.fn.sink;
}

abbrev pub decreases-loop-rest : goal.decreases-loop-rest
decreases-loop-rest g l = length l.rest
