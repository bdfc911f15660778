use Rattle.std.proofs.Common.{◌≡◌, drop}
use Rattle.std.specs.List.{flat_map}
use Rattle.profile.specs.Output.{AddsAllBut}
use Rattle.profile.proofs.sink.push_parts.Given as goal

-- What stands written, and the parts that are left, is all.
abbrev pub invariant-loop-part : goal.invariant-loop-part
invariant-loop-part g l = record {
  text : AddsAllBut (g.W.Sink.contents l.fn.sink) (g.W.Sink.contents l.sink) (flat_map (λ p. p.now) (drop l.part-index l.parts)) (flat_map (λ p. p.now) l.fn.parts);
  same_flag : g.W.Sink.has_failed l.sink ≡ g.W.Sink.has_failed l.fn.sink;
}
