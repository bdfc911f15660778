-- The exit status of a program whose lines a debugging script's were.
use Rattle.std.specs.Prelude.{ℕ, ◌==◌, ◌&&◌, if◌then◌else◌}
use Rattle.profile.specs.Status.{status_after}
use Rattle.debug_modules.specs.Reports.{is_untested}
use Rattle.debug_session.specs.DebugState.{DebugState}

-- Without EXPECT lines that of a script, by the last stop; with some 0 where all of them passed and
-- nothing was refused, else 5.
abbrev pub debug_status : DebugState → ℕ
debug_status d =
    if is_untested d.tally then status_after d.script.last else (
    if d.tally.failed == 0 && d.tally.refused == 0 then 0 else 5)
