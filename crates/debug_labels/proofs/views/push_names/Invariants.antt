use Rattle.std.proofs.Common.{◌≡◌, drop}
use Rattle.std.specs.List.{flat_map}
use Rattle.profile.specs.Output.{AddsAllBut}
use Rattle.debug_labels.specs.Views.{spaced_name}
use Rattle.debug_labels.proofs.views.push_names.Given as goal

-- what stands written, and the names that are left, is all
abbrev pub invariant-loop-label : goal.invariant-loop-label
invariant-loop-label g l = record {
  text : AddsAllBut (g.W.Sink.contents l.fn.sink) (g.W.Sink.contents l.sink)
      (flat_map spaced_name (drop l.label-index l.labels)) (flat_map spaced_name l.labels);
  same_flag : g.W.Sink.has_failed l.sink ≡ g.W.Sink.has_failed l.fn.sink;
}
