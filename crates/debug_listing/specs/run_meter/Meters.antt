-- What is shown of a run that goes on.
use Rattle.std.specs.Prelude.{None}
use Rattle.debug_listing.specs.declared.run_meter.meter.RunMeter.{RunMeter}

-- a meter that shows nothing
abbrev pub silent_meter : RunMeter
silent_meter = record { errors = None }
