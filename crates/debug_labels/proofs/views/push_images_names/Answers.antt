use Rattle.std.proofs.Common.{◌+◌, ◌∙◌, arith, drop}
use Rattle.std.specs.List.{flat_map}
use Rattle.profile.proofs.OutputLemmas.{AddsAllBut-more}
use Rattle.debug_labels.specs.Views.{first_names_of}
use Rattle.debug_labels.proofs.WalkLemmas.{next_shown}
use Rattle.debug_labels.proofs.views.push_images_names.Goals as goal

pub loop-image-preserved : goal.loop-image-preserved
loop-image-preserved g c =
    let images = c.args.images.now in
    let place = c.loop-image.image-index in
    let image = c.image-item.result in
    record {
      text = AddsAllBut-more (g.W.Sink.contents c.args.sink.now) (g.W.Sink.contents c.loop-image.sink)
          (g.W.Sink.contents c.push_first_names.new.sink)
          (flat_map first_names_of (drop place images)) (first_names_of image)
          (flat_map first_names_of (drop (place + 1) images)) (flat_map first_names_of images)
          c.loop-image.invariant.text c.in_ok-push_first_names.ensures.text
          (next_shown first_names_of images place image (omega (arith, c.loop-image-test.true)) c.image-item.is);
      same_flag = c.in_ok-push_first_names.ensures.same_flag ∙ c.loop-image.invariant.same_flag;
    }
