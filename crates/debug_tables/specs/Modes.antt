-- What a debugger does beside the steps of a line.
use Rattle.std.specs.Prelude.{Bool, ◌==◌, ◌&&◌, length}
use Rattle.debug_tables.specs.declared.modes.StepModes.{StepModes}

-- there is no stub and no watch
abbrev pub are_plain : StepModes → Bool
are_plain modes = length modes.stubs == 0 && length modes.watches == 0
