-- The exit status after a script: 0 after OS_Exit, 1 after a fault, and 3 where the last stop was
-- another, or none.
use Rattle.std.specs.Prelude.{ℕ, Option, Some, None}
use Rattle.profile.specs.declared.stop.Stop.{Stop}
use Rattle.profile.specs.declared.stop.Stop.TheVariants.{Exit, Fault, Budget, Break}

abbrev pub status_after : Option Stop → ℕ
status_after None = 3
status_after (Some Exit) = 0
status_after (Some (Fault fault)) = 1
status_after (Some Budget) = 3
status_after (Some (Break address)) = 3
