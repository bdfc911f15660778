use Rattle.std.proofs.Common.{◌≡◌, ◌≤◌, ◌-◌, ℕ, false, List, Option, None}
use Rattle.debug_labels.specs.Labels.{ImageLabels}
use Rattle.profile.specs.images.Entries.{Entry}
use Rattle.debug_tables.specs.GuestState.{state_of}
use Rattle.debug_tables.specs.Session.{script_state}
use Rattle.debug_runs.specs.BasicBlocks.{RunsOnBehind}
use Rattle.debug_runs.specs.TraceWriter.{is_step_shown}
use Rattle.debug_runs.proofs.basic_blocks.take_basic_blocks.Given as goal

-- the run goes on behind the steps so far
abbrev pub invariant-loop-left : goal.invariant-loop-left
invariant-loop-left l = record {
  so_far : (images : List Entry) (labels : List ImageLabels) (reported : Option ℕ) → is_step_shown reported ≡ false
      → RunsOnBehind l.modes labels l.goal reported l.most (script_state l.fn.session images) l.fn.counts (l.most - l.left) None
      (script_state l.session images) l.counts;
  few : l.left ≤ l.most;
  enough : l.left ≤ l.session.left;
  unhalted : (state_of l.session.machine.guest).halt ≡ None;
}

abbrev pub decreases-loop-left : goal.decreases-loop-left
decreases-loop-left l = l.left
