-- The places are those of the lines.
use Rattle.std.proofs.Common.{◌∙◌, arith}
use Rattle.std.proofs.lemmas.Grind.{common_steps}
use Rattle.std.proofs.lemmas.Result.{IfOk-weaker}
use Rattle.debug_listing.proofs.SourceLemmas.{rows_are}
use Rattle.debug_listing.proofs.source_listing.rows_text.Goals as goal

pub returns-in-Ok : goal.returns-in-Ok
returns-in-Ok c = IfOk-weaker c.rows_of_lines.result _ _
    (λ text is. rows_are text.items c.args.counts.now c.args.start c.args.bytes.now c.args.source.now c.as_slice.result.now
    c.in-Ok.places c.count.result c.labels_of_lines.result is
    (c.as_slice.ensures.value ∙ c.in_ok-labelled.ensures) (grind (arith, common_steps)) c.in-Ok.is (grind (arith, common_steps)))
    c.rows_of_lines.ensures
