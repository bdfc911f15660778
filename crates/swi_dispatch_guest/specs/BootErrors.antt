-- The names of the refusals of a boot.
use Rattle.std.specs.Prelude.{ℕ, List, codes}
use Rattle.swi_dispatch_guest.specs.declared.boot_error.BootError.{BootError}
use Rattle.swi_dispatch_guest.specs.declared.boot_error.BootError.TheVariants.{Booted, TooLarge}

abbrev pub boot_error_name : BootError → List ℕ
boot_error_name Booted = codes "Booted"
boot_error_name TooLarge = codes "TooLarge"
