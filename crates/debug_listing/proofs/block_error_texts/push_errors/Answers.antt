-- The lemmas of the lines of a block, at each way out and at the next line.
use Rattle.std.proofs.Common.{arith}
use Rattle.debug_listing.proofs.BlockErrorLemmas.{text_ends, text_goes_on, text_stops}
use Rattle.debug_listing.proofs.block_error_texts.push_errors.Goals as goal

pub returns-then-is_block_end : goal.returns-then-is_block_end
returns-then-is_block_end c =
    text_ends _ _ _ _ _ _ _ _ c.in-Some.ensures.line (grind arith) c.loop-line.invariant.text

pub loop-line-preserved : goal.loop-line-preserved
loop-line-preserved c = record {
  text = text_goes_on _ _ _ _ _ _ _ _ _ _ _ c.in-Some.ensures.line (grind arith) (grind arith) c.in-Some.ensures.number
      (grind arith) c.loop-line.invariant.text;
  later = grind arith;
}

pub returns : goal.returns
returns c = text_stops _ _ _ _ _ _ c.in_default.ensures.line c.loop-line.invariant.text
