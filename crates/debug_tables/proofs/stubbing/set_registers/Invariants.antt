use Rattle.std.proofs.Common.{◌≡◌, drop, List}
use Rattle.profile.specs.images.Entries.{Entry}
use Rattle.command_shell.specs.Session.{script_state}
use Rattle.debug_tables.specs.Stubs.{script_with_settings}
use Rattle.debug_tables.proofs.stubbing.set_registers.Given as goal

-- the registers that are left are still to be set
abbrev pub invariant-loop-set : goal.invariant-loop-set
invariant-loop-set l = (images : List Entry)
    → script_with_settings (drop l.set-index l.settings) (script_state l.session images)
    ≡ script_with_settings l.settings (script_state l.fn.session images)
