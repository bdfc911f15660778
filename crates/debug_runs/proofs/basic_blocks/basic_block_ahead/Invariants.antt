use Rattle.std.proofs.Common.{◌≡◌, ◌<◌, ◌≤◌, ◌+◌, ◌-◌, ◌*◌, ◌%◌, ◌^◌, ℕ, false}
use Rattle.address_map.specs.Memory.{bytes_of}
use Rattle.debug_tables.specs.GuestState.{state_of}
use Rattle.debug_tables.specs.declared.step_words.WordFlow.TheVariants.{Straight}
use Rattle.debug_runs.specs.BasicBlocks.{HasFlow}
use Rattle.debug_runs.proofs.basic_blocks.basic_block_ahead.Given as goal

-- the words so far all go straight on
abbrev pub invariant-loop-row : goal.invariant-loop-row
invariant-loop-row l = record {
  start : l.row.start ≡ (state_of l.machine.guest).cpu.pc;
  aligned : l.row.start % 4 ≡ 0;
  below : l.row.start < 2 ^ 26;
  few : l.row.count ≤ 64;
  forward : l.row.is_loop ≡ false;
  inside : l.row.start + 4 * l.row.count ≤ 2 ^ 26;
  straight : (j : ℕ) → j < l.row.count → HasFlow (bytes_of l.memory) (l.row.start + 4 * j) Straight;
}

abbrev pub decreases-loop-row : goal.decreases-loop-row
decreases-loop-row l = 64 - l.row.count
