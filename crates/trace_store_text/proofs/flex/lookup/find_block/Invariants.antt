use Rattle.std.proofs.Common.{◌≡◌, length}
use Rattle.trace_store_text.specs.flex.Changes.{block_of_anchor}
use Rattle.trace_store_text.proofs.flex.lookup.find_block.Given as goal

-- the block is among those that are left
abbrev pub invariant-loop-block : goal.invariant-loop-block
invariant-loop-block l = record {
  left : block_of_anchor l.anchor l.rest ≡ block_of_anchor l.anchor l.fn.blocks;
}

abbrev pub decreases-loop-block : goal.decreases-loop-block
decreases-loop-block l = length l.rest
