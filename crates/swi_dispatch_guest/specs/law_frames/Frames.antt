-- Which frames of module code a step leaves open.
use Rattle.std.specs.Prelude.{◌≡◌, ◌≢◌, ◌++◌, List}
use Rattle.profile.specs.MemoryMap.{return_gate}
use Rattle.profile.specs.images.Entries.{Entry}
use Rattle.swi_dispatch_plans.specs.Frame.{Frame}
use Rattle.swi_dispatch_guest.specs.MachineState.{MachineState, StepOutcome}
use Rattle.swi_dispatch_guest.specs.Step.{machine_step}

-- all that were open, in their order, and behind them what was opened
pub record KeepsFrames (s : MachineState) (o : StepOutcome) : Type 0 where
  pub opened : List Frame
  pub are : o.now.tables.frames ≡ s.tables.frames ++ opened

-- A frame is closed by a step from the address that module code returns to, and by no other.
abbrev pub OnlyTheGateCloses : Type 0
OnlyTheGateCloses = (images : List Entry) (s : MachineState) → s.cpu.pc ≢ return_gate
    → KeepsFrames s (machine_step images s)
