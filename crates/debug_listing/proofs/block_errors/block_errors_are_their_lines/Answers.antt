use Rattle.debug_listing.proofs.BlockErrorLemmas.{block_errors_are_their_lines}
use Rattle.debug_listing.proofs.block_errors.block_errors_are_their_lines.Goals as goal

pub returns : goal.returns
returns c = block_errors_are_their_lines
