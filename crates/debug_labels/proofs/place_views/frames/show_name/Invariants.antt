use Rattle.std.proofs.Common.{◌≡◌, drop}
use Rattle.std.specs.List.{flat_map}
use Rattle.profile.specs.Output.{AddsAllBut}
use Rattle.debug_labels.specs.place_views.Frames.{full_name_within}
use Rattle.debug_labels.proofs.place_views.frames.show_name.Given as goal

-- what stands written, and what the modules that are left show, is all
abbrev pub invariant-loop-number : goal.invariant-loop-number
invariant-loop-number g l = record {
  text : AddsAllBut (g.W.Sink.contents l.fn.sink) (g.W.Sink.contents l.sink)
      (flat_map (full_name_within l.slot) (drop l.number l.modules)) (flat_map (full_name_within l.slot) l.modules);
  same_flag : g.W.Sink.has_failed l.sink ≡ g.W.Sink.has_failed l.fn.sink;
}
