-- As the definition says, by all recorded ranges.
use Rattle.std.proofs.Common.{arith}
use Rattle.std.proofs.lemmas.Grind.{common_steps}
use Rattle.trace_store_text.proofs.ImageLemmas.{images_by_region}
use Rattle.trace_store_text.proofs.image_lines.push_images.Goals as goal

pub returns : goal.returns
returns g c = rw (images_by_region c.args.before.now c.args.after.now) (grind (arith, common_steps))
