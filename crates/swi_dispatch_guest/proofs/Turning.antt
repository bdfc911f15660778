-- The core's part of a step, and then what its turn asks of the machine, are the written step.
use Rattle.std.proofs.Common.{◌≡◌, List, Result, Ok, Err, ◌∙◌, ap}
use Rattle.os_heap.specs.Bytes.{Bytes}
use Rattle.arm_run.specs.StepEnd.{StepEnd}
use Rattle.arm_run.specs.State.{State}
use Rattle.swi_dispatch_plans.specs.Entries.{Entry}
use Rattle.swi_dispatch_guest.specs.MachineState.{MachineState, silent}
use Rattle.swi_dispatch_guest.specs.Step.{outcome_of_turn, turn_end, Turned}

pub turned_by : (images : List Entry) (s : MachineState) (r : Result (State × Bytes) StepEnd) (t : StepEnd) (s' : MachineState) → Turned s r t s'
    → turn_end images s' t ≡ outcome_of_turn images s r
turned_by images s (Ok w) t s' h = ap (λ (x : StepEnd). turn_end images s' x) h.0 ∙ ap silent h.1
turned_by images s (Err e) t s' h = ap (λ (x : StepEnd). turn_end images s' x) h.0 ∙ ap (λ (x : MachineState). turn_end images x e) h.1
