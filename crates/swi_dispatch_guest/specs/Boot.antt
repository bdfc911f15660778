-- A program is copied to the start of the application space of a machine that is still as it was
-- made.
use Rattle.std.specs.Prelude.{ℕ, Bool, true, false, ◌*◌, nat_le, Result, Ok, Err, List, length, if◌then◌else◌}
use Rattle.profile.specs.Sizes.{Sizes}
use Rattle.swi_dispatch_guest.specs.declared.boot_error.BootError.{BootError}
use Rattle.swi_dispatch_guest.specs.declared.boot_error.BootError.TheVariants.{Booted, TooLarge}
use Rattle.swi_dispatch_guest.specs.MachineState.{MachineState}
use Rattle.swi_dispatch_guest.specs.Writes.{with_program}

abbrev pub fits_application : Sizes → List ℕ → Bool
fits_application sizes program = nat_le (length program) (4096 * sizes.app)

unfoldable pub machine_after_boot : Sizes → Bool → MachineState → List ℕ → Result MachineState BootError
machine_after_boot sizes false s program = Err Booted
machine_after_boot sizes true s program = if fits_application sizes program then Ok (with_program s program)
    else Err TooLarge
