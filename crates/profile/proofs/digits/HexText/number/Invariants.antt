use Rattle.std.proofs.Common.{◌≡◌, ◌≤◌, ◌-◌, drop}
use Rattle.profile.specs.Digits.{without_zeros}
use Rattle.profile.proofs.digits.HexText.number.Given as goal

-- the digits passed over so far are zeros before another digit
abbrev pub invariant-loop-start : goal.invariant-loop-start
invariant-loop-start l = record {
  within : l.start ≤ 7;
  same : without_zeros (drop l.start l.digits) ≡ without_zeros l.digits;
}

abbrev pub decreases-loop-start : goal.decreases-loop-start
decreases-loop-start l = 7 - l.start
