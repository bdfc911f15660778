-- The modes of a debugger, by which lines that take steps are answered.
use Rattle.std.specs.Prelude.{ℕ, Bool, false, not, ◌||◌, [], Option, Some, None, if◌then◌else◌}
use Rattle.debug_modes.specs.declared.modes.DebugModes.{DebugModes}
use Rattle.debug_tables.specs.counts.Counts.{no_counts}
use Rattle.debug_tables.specs.Modes.{are_plain}

-- as a debugger begins
abbrev pub no_modes : DebugModes
no_modes = record {
  steps = record { stubs = []; watches = [] };
  counts = no_counts;
  is_explaining = false;
  is_tracing = false;
  limit = 1000;
}

-- whether the lines of a script that take steps are answered otherwise than in a script
abbrev pub takes_over : DebugModes → Bool
takes_over m = m.is_tracing || (m.is_explaining || (m.counts.is_on || not (are_plain m.steps)))

-- how many steps of a line are shown, where they are
abbrev pub answer_of_line : DebugModes → Bool → Option ℕ
answer_of_line m is_traced = if is_traced || m.is_tracing then Some m.limit else None
