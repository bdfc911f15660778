use Rattle.std.proofs.Common.{◌≡◌, drop}
use Rattle.std.specs.List.{flat_map}
use Rattle.profile.specs.Output.{AddsAllBut}
use Rattle.trace_store_text.specs.ImageLines.{lone_image_line}
use Rattle.trace_store_text.proofs.image_lines.push_lone_images.Given as goal

-- what stands written, and the lines of what is left, is all
abbrev pub invariant-loop-region : goal.invariant-loop-region
invariant-loop-region g l = record {
  text : AddsAllBut (g.W.Sink.contents l.fn.sink) (g.W.Sink.contents l.sink)
      (flat_map (lone_image_line l.others l.verb) (drop l.region-index l.regions))
      (flat_map (lone_image_line l.others l.verb) l.fn.regions);
  same_flag : g.W.Sink.has_failed l.sink ≡ g.W.Sink.has_failed l.fn.sink;
}
