use Rattle.std.proofs.Common.{◌≡◌, ◌<◌, ◌-◌}
use Rattle.debug_tables.specs.counts.Counts.{steps_counted}
use Rattle.debug_runs.specs.BasicBlocks.{block_places}
use Rattle.debug_runs.proofs.basic_blocks.count_basic_block.Given as goal

-- the steps that are left, counted, make all of them
abbrev pub invariant-loop-step : goal.invariant-loop-step
invariant-loop-step l = record {
  within : l.word < l.block.count;
  counted : steps_counted (block_places l.block l.word (l.taken - l._step)) l.counts ≡ steps_counted (block_places l.block 0 l.taken) l.fn.counts;
}
