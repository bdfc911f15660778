-- The lemmas of the lines of a text, at its end and at the next line.
use Rattle.std.proofs.Common.{◌∙◌, ap}
use Rattle.std.specs.Fmt.{decimal}
use Rattle.debug_listing.proofs.SourceLemmas.{labels_go_on, labels_stop}
use Rattle.debug_listing.proofs.source_listing.labelled_lines.Goals as goal

pub loop-line-preserved : goal.loop-line-preserved
loop-line-preserved c = labels_go_on _ _ _ _ _ _ _ _ _ _ _ _ c.in-Some.ensures.line c.in-Some.ensures.number
    c.in_ok-push_texts.ensures c.as_slice.ensures c.as_slice-in-Some.ensures
    (c.as_bytes-number.ensures.value ∙ c.format.ensures.text ∙ ap decimal c.number.ensures) c.after_word.ensures c.loop-line.invariant

pub returns : goal.returns
returns c = labels_stop _ _ _ _ c.in_default.ensures.line c.loop-line.invariant
