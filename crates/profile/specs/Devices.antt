-- Devices over the readers and writers of the standard library: what a device holds, and after
-- which failures a call is tried again.
use Rattle.std.specs.Prelude.{Bool, true, false}
use Rattle.std.specs.declared.io.ErrorKind.{ErrorKind}
use Rattle.std.specs.declared.io.ErrorKind.TheVariants.{Interrupted}
use Rattle.profile.specs.declared.device.Device.{Device}

-- the reader or writer of a device
abbrev pub device_inner : {T : Type 0} → Device T → T
device_inner d = d.inner

-- whether a call of the device has failed
abbrev pub device_failed : {T : Type 0} → Device T → Bool
device_failed d = d.has_failed

-- A call that was interrupted is taken up again. Every other failure is for good.
abbrev pub is_interrupted : ErrorKind → Bool
is_interrupted Interrupted = true
is_interrupted _ = false
