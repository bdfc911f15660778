-- What was done to a machine, done again.
use Rattle.std.specs.Prelude.{◌≡◌, ℕ, Some, unwrap_or}
use Rattle.profile.specs.Sizes.{Sizes}
use Rattle.profile.specs.declared.stop.Stop.TheVariants.{Budget}
use Rattle.debug_tables.specs.State.{ScriptState}
use Rattle.debug_history.specs.Acts.{PastMoment}

-- a script whose machine came to that moment; what is left of the budget and the last stop may be others
abbrev pub IsAtMoment : ScriptState → ScriptState → PastMoment → Type 0
IsAtMoment s now m = now ≡ record s {
  machine = m.machine;
  is_fresh = m.is_fresh;
  left = now.left;
  last = now.last;
}

-- a script whose machine went back to a moment: images, breaks and the last stop stay, and the lines that
-- follow have the whole budget
abbrev pub script_at_moment : ScriptState → Sizes → ℕ → PastMoment → ScriptState
script_at_moment s sizes budget m = record s {
  machine = m.machine;
  is_fresh = m.is_fresh;
  sizes = sizes;
  left = budget;
  last = Some (unwrap_or s.last Budget);
}
