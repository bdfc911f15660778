use Rattle.std.proofs.Common.{◌≡◌, drop}
use Rattle.std.specs.List.{flat_map}
use Rattle.profile.specs.Output.{AddsAllBut}
use Rattle.debug_labels.specs.Views.{first_names_of}
use Rattle.debug_labels.proofs.views.push_images_names.Given as goal

-- what stands written, and the names of the images that are left, is all
abbrev pub invariant-loop-image : goal.invariant-loop-image
invariant-loop-image g l = record {
  text : AddsAllBut (g.W.Sink.contents l.fn.sink) (g.W.Sink.contents l.sink)
      (flat_map first_names_of (drop l.image-index l.images)) (flat_map first_names_of l.images);
  same_flag : g.W.Sink.has_failed l.sink ≡ g.W.Sink.has_failed l.fn.sink;
}
