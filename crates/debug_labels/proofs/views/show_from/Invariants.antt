use Rattle.std.proofs.Common.{◌≡◌, drop}
use Rattle.profile.specs.Output.{AddsAllBut}
use Rattle.debug_labels.specs.Views.{labels_text_from}
use Rattle.debug_labels.proofs.views.show_from.Given as goal

-- what stands written, and the lines of the labels that are left, is all
abbrev pub invariant-loop-label : goal.invariant-loop-label
invariant-loop-label g l = record {
  text : AddsAllBut (g.W.Sink.contents l.fn.sink) (g.W.Sink.contents l.sink)
      (labels_text_from l.start l.image (drop l.label-index l.labels)) (labels_text_from l.start l.image l.labels);
  same_flag : g.W.Sink.has_failed l.sink ≡ g.W.Sink.has_failed l.fn.sink;
}
