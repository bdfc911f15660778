use Rattle.std.proofs.Common.{◌≡◌, drop}
use Rattle.std.specs.List.{flat_map}
use Rattle.profile.specs.Output.{AddsAllBut}
use Rattle.trace_text.specs.Areas.{area_line}
use Rattle.trace_text.proofs.areas.push_present.Given as goal

-- what stands written, and the lines of what is left, is all
abbrev pub invariant-loop-area : goal.invariant-loop-area
invariant-loop-area g l = record {
  text : AddsAllBut (g.W.Sink.contents l.fn.sink) (g.W.Sink.contents l.sink)
      (flat_map (area_line l.marks) (drop l.area-index l.areas)) (flat_map (area_line l.marks) l.fn.areas);
  same_flag : g.W.Sink.has_failed l.sink ≡ g.W.Sink.has_failed l.fn.sink;
}
