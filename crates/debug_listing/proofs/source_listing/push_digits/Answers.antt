-- A word has eight digits.
use Rattle.std.proofs.Common.{◌*◌, ◌∙◌, arith, sym}
use Rattle.std.proofs.lemmas.List.{length-take-le}
use Rattle.debug_listing.proofs.SourceLemmas.{eight_digits}
use Rattle.debug_listing.proofs.source_listing.push_digits.Goals as goal

pub slice_bounds-extend_from_slice-end : goal.slice_bounds-extend_from_slice-end
slice_bounds-extend_from_slice-end c =
    let all = eight_digits c.made_word.result c.as_slice.result.now (c.as_slice.ensures ∙ c.word-digits.ensures) in
    sym (length-take-le (2 * c.min-width.result) c.as_slice.result.now (omega arith))
