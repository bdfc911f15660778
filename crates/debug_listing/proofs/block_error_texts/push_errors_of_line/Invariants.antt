use Rattle.std.proofs.Common.{◌≡◌, ◌++◌, drop}
use Rattle.std.specs.List.{flat_map}
use Rattle.debug_listing.specs.BlockErrorTexts.{error_text_if}
use Rattle.debug_listing.proofs.block_error_texts.push_errors_of_line.Given as goal

-- what stands written, and the errors that come, is all
abbrev pub invariant-loop-error : goal.invariant-loop-error
invariant-loop-error l = l.text.items ++ flat_map (error_text_if l.in_block l.number l.line) (drop l.error-index l.errors)
    ≡ l.fn.text.items ++ flat_map (error_text_if l.in_block l.number l.line) l.errors
