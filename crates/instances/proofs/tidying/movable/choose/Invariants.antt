use Rattle.std.proofs.Common.{◌≡◌, ◌≤◌, ◌+◌, ◌++◌, ◌^◌, length}
use Rattle.rma.specs.Items.{size_of}
use Rattle.rma.specs.Memory.{anchor_of}
use Rattle.rma.specs.Forgetting.{holds_heap}
use Rattle.rma.specs.Store.{store_of}
use Rattle.instances.specs.tidying.Movable.{blocks_that, can_move}
use Rattle.instances.proofs.tidying.movable.choose.Given as goal

-- what was chosen, and what will be of the items that are left
abbrev pub invariant-loop-item : goal.invariant-loop-item
invariant-loop-item l = record {
  below : l.at + size_of l.rest ≤ 2 ^ 26;
  chosen : l.movable.items ++ blocks_that (can_move (anchor_of l.map) (holds_heap (store_of l.map).heaps) l.table l.words l.return_address) l.at l.rest
      ≡ blocks_that (can_move (anchor_of l.map) (holds_heap (store_of l.map).heaps) l.table l.words l.return_address) 0x01800010 l.fn.blocks;
}

abbrev pub decreases-loop-item : goal.decreases-loop-item
decreases-loop-item l = length l.rest
