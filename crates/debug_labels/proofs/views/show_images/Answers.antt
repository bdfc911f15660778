use Rattle.std.proofs.Common.{◌+◌, ◌∙◌, arith, drop}
use Rattle.std.specs.List.{flat_map}
use Rattle.profile.proofs.OutputLemmas.{AddsAllBut-more}
use Rattle.debug_labels.specs.Views.{labels_text_of}
use Rattle.debug_labels.proofs.WalkLemmas.{next_shown}
use Rattle.debug_labels.proofs.views.show_images.Goals as goal

pub loop-image-preserved : goal.loop-image-preserved
loop-image-preserved g c =
    let images = c.args.images.now in
    let place = c.loop-image.image-index in
    let text = labels_text_of c.args.modules.now in
    let image = c.image-item.result in
    record {
      text = AddsAllBut-more (g.W.Sink.contents c.args.sink.now) (g.W.Sink.contents c.loop-image.sink)
          (g.W.Sink.contents c.show.new.sink)
          (flat_map text (drop place images)) (text image) (flat_map text (drop (place + 1) images)) (flat_map text images)
          c.loop-image.invariant.text c.in_ok-show.ensures.text
          (next_shown text images place image (omega (arith, c.loop-image-test.true)) c.image-item.is);
      same_flag = c.in_ok-show.ensures.same_flag ∙ c.loop-image.invariant.same_flag;
    }
