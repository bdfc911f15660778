use Rattle.std.proofs.Common.{sym}
use Rattle.debug_labels.proofs.LineLemmas.{three_parts}
use Rattle.debug_labels.proofs.words.PlaceNames.value_in_image.Goals as goal

pub returns-in-Some : goal.returns-in-Some
returns-in-Some c =
    sym (three_parts c.args.self.now c.args.image.now c.args.text.now c.cut.result.0.now c.in-Some.field-0.now
    (rw c.in-Some.is at c.cut.ensures.parts))
