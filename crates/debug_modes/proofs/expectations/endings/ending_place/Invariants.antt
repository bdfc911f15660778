use Rattle.std.proofs.Common.{◌≡◌, ◌≤◌, length, drop, None}
use Rattle.debug_modes.specs.expectations.Endings.{output_before_ending}
use Rattle.debug_modes.proofs.expectations.endings.ending_place.Given as goal

-- no ending begins from the place on
abbrev pub invariant-loop-place : goal.invariant-loop-place
invariant-loop-place l = record {
  inside : l.place ≤ length l.answer;
  none : output_before_ending (drop l.place l.answer) ≡ None;
}

abbrev pub decreases-loop-place : goal.decreases-loop-place
decreases-loop-place l = l.place
