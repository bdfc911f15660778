-- The lemmas of the lines of a block, at each way out and at the next line.
use Rattle.std.proofs.Common.{arith}
use Rattle.debug_listing.proofs.BlockErrorLemmas.{source_ends, source_goes_on, source_stops}
use Rattle.debug_listing.proofs.block_errors.source_without.Goals as goal

pub returns-then-is_block_end : goal.returns-then-is_block_end
returns-then-is_block_end c =
    source_ends _ _ _ _ _ _ _ c.in-Some.ensures.line (grind arith) c.loop-line.invariant.source

pub loop-line-preserved : goal.loop-line-preserved
loop-line-preserved c = record {
  source = source_goes_on _ _ _ _ _ _ _ _ _ _ _ c.in-Some.ensures.line (grind arith) (grind arith) (grind arith)
      c.in_ok-extend_from_slice.ensures.items c.in_ok-extend_from_slice-2.ensures.items c.loop-line.invariant.source;
  later = grind arith;
}

pub returns : goal.returns
returns c = source_stops _ _ _ _ _ c.in_default.ensures.line c.loop-line.invariant.source
