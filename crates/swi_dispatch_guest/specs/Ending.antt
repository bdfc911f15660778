-- How a call that runs the machine ends, by the run that it stands for.
use Rattle.std.specs.Prelude.{◌≡◌, ◌<◌, ◌+◌, ℕ, List, Option, Some}
use Rattle.std.specs.Io.KnownBytes.{Appends}
use Rattle.profile.specs.Output.{AddsPart}
use Rattle.profile.specs.declared.stop.Stop.{Stop}
use Rattle.profile.specs.declared.stop.Stop.TheVariants as stop
use Rattle.swi_dispatch_plans.specs.Entries.{Entry}
use Rattle.swi_dispatch_guest.specs.MachineState.{MachineState}
use Rattle.swi_dispatch_guest.specs.Run.{Run, ran, last_or}

-- The machine, the bytes written, what it printed last, the count and the stop are the run's.
-- `shown` is what the machine printed last before.
pub record Ends (r : Run) (now : MachineState) (shown output : List ℕ) (before after : Option (List ℕ))
    (taken : ℕ) (end : Stop) : Type 0 where
  pub machine : now ≡ r.now
  pub text : Appends before after r.printed
  pub shows : output ≡ last_or shown r.last
  pub count : taken ≡ r.taken
  pub stop : end ≡ r.stop

-- Where the writer failed, the machine stands after the step whose output failed, one of those of
-- the budget. What stands written is all that the steps before it printed and a front of what it
-- printed, but not all of that.
pub record StandsAfter (images : List Entry) (breaks : List ℕ) (budget : ℕ) (start now : MachineState)
    (output : List ℕ)
    (before after : Option (List ℕ)) : Type 0 where
  pub taken : ℕ
  pub within : taken < budget
  pub goes_on : (ran images breaks taken start).stop ≡ stop.Budget
  pub machine : now ≡ (ran images breaks (taken + 1) start).now
  pub shows : Some output ≡ (ran images breaks (taken + 1) start).last
  pub between : Option (List ℕ)
  pub written : Appends before between (ran images breaks taken start).printed
  pub part : AddsPart between after output
