-- The machine after so many steps, with stubs for SWIs that it doesn't have, if there are some. A machine
-- that is halted stays as it is.
use Rattle.std.specs.Prelude.{◌≡◌, ℕ, zero, suc, ◌-◌, List, []}
use Rattle.profile.specs.images.Entries.{Entry}
use Rattle.command_shell_lines.specs.declared.debug_words.stubs.Stub.{Stub}
use Rattle.debug_tables.specs.MachineState.{MachineState}
use Rattle.debug_tables.specs.Run.{ran}
use Rattle.debug_tables.specs.Stubs.{stubbed_step}

unfoldable pub steps_after : List Stub → List Entry → ℕ → MachineState → MachineState
steps_after stubs images zero s = s
steps_after stubs images (suc k) s = steps_after stubs images k (stubbed_step stubs images s).now

-- A run is its steps: what is left to take of so many steps, after those that a run of at most so many
-- took, leads to the machine after all of them. So runs to breaks, and runs in pieces, are steps too.
abbrev pub RunsAreTheirSteps : Type 0
RunsAreTheirSteps = (images : List Entry) (breaks : List ℕ) (count : ℕ) (s : MachineState)
    → let run = ran images breaks count s in
    steps_after [] images count s ≡ steps_after [] images (count - run.taken) run.now
