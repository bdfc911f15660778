use Rattle.std.proofs.Common.{◌≡◌, ◌≤◌, map, length}
use Rattle.arm_core.specs.Listed.{listed_below}
use Rattle.arm_step.specs.Blocks.{block_value}
use Rattle.arm_step.proofs.block.block_values.Given as goal

abbrev pub invariant-loop-number : goal.invariant-loop-number
invariant-loop-number l = record {
  items : l.values.items ≡ map (block_value l.cpu l.block) (listed_below l.number l.block.list);
  few : length l.values.items ≤ l.number;
}
