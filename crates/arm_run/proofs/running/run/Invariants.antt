use Rattle.std.proofs.Common.{◌≡◌, ◌≤◌, ◌<◌, ◌⊎◌, ◌+◌, ◌-◌, ◌*◌, ◌%◌, ◌^◌, false, []}
use Rattle.arm_step.specs.Memory.{bytes_of, class_of, is_owned, layout, place}
use Rattle.arm_core.specs.breaks.Breaks.{is_among}
use Rattle.arm_run.specs.Runs.{AreDone}
use Rattle.arm_run.specs.Standing.{core_at}
use Rattle.arm_step.specs.fetch_page.FetchPages.{IsOpen}
use Rattle.arm_run.proofs.running.run.Given as goal

-- so far each step was an instruction that was done, and none led to a break
abbrev pub invariant-loop-next : goal.invariant-loop-next
invariant-loop-next l = record {
  done : AreDone (is_owned l.fn.memory) l.breaks (l.most - l.rest + (l.stride - l.left)) (l.fn.cpu, bytes_of l.fn.memory) (core_at l.cpu l.at, bytes_of l.memory);
  clear : (l.most - l.rest + (l.stride - l.left) ≡ 0) ⊎ (is_among l.breaks (l.at % 2 ^ 24 * 4) ≡ false);
  looks : (l.stride ≡ 1) ⊎ ((l.breaks ≡ []) × (l.stride ≡ l.most) × (l.rest ≡ l.most));
  some : 0 < l.left;
  left : l.left ≤ l.stride;
  within : l.stride ≤ l.rest;
  rest : l.rest ≤ l.most;
  position : l.at ≤ 2 ^ 24;
  fetch_page : IsOpen (place l.memory) l.fetch_page;
  layout : layout l.memory ≡ layout l.fn.memory;
  marks : class_of l.memory ≡ class_of l.fn.memory;
}

abbrev pub decreases-loop-next : goal.decreases-loop-next
decreases-loop-next l = l.rest - l.stride + l.left
