use Rattle.std.proofs.Common.{◌≡◌, drop}
use Rattle.std.specs.List.{flat_map}
use Rattle.profile.specs.Output.{AddsAllBut}
use Rattle.debug_labels.specs.Views.{labels_text_of}
use Rattle.debug_labels.proofs.views.show_images.Given as goal

-- what stands written, and the lines of the images that are left, is all
abbrev pub invariant-loop-image : goal.invariant-loop-image
invariant-loop-image g l = record {
  text : AddsAllBut (g.W.Sink.contents l.fn.sink) (g.W.Sink.contents l.sink)
      (flat_map (labels_text_of l.modules) (drop l.image-index l.images)) (flat_map (labels_text_of l.modules) l.images);
  same_flag : g.W.Sink.has_failed l.sink ≡ g.W.Sink.has_failed l.fn.sink;
}
