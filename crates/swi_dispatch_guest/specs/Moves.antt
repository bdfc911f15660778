-- Moves of a machine: store calls that a user makes from outside, and steps. What each leaves, and
-- which SWI it makes (this project's own).
use Rattle.std.specs.Prelude.{ℕ, ◌≡◌, ◌+◌, ◌%◌, ◌^◌, Option, None, Result, Err, List, [], ◌∷◌}
use Rattle.profile.specs.SwiNames.{swi_of}
use Rattle.profile.specs.declared.swi.SwiName.{SwiName}
use Rattle.os_heap.specs.Bytes.{Bytes}
use Rattle.arm_run.specs.State.{State}
use Rattle.arm_run.specs.StepEnd.{StepEnd}
use Rattle.arm_run.specs.StepEnd.TheVariants as turn
use Rattle.swi_dispatch_plans.specs.Entries.{Entry}
use Rattle.swi_dispatch_guest.specs.Writes.{machine_with_register}
use Rattle.swi_dispatch_guest.specs.MachineState.{MachineState}
use Rattle.swi_dispatch_guest.specs.Step.{result_of_instruction, machine_step, store_called, without_x}

-- A call by its number and the words of R0 and the registers after it; or a step: an instruction, a
-- SWI or a gate action of the guest.
pub data Move : Type 0 where
  Call : ℕ → List ℕ → Move
  Step : Move

abbrev pub with_registers : MachineState → ℕ → List ℕ → MachineState
with_registers s n [] = s
with_registers s n (v ∷ vs) = with_registers (machine_with_register s n v) (n + 1) vs

-- the machine on which a call from outside is made
abbrev pub machine_with_words : MachineState → List ℕ → MachineState
machine_with_words s words = with_registers s 0 words

abbrev pub machine_after_event : List Entry → MachineState → Move → MachineState
machine_after_event images s (Call number words) = (store_called images
    (machine_with_words s words) number).now
machine_after_event images s Step = (machine_step images s).now

abbrev pub moved_all : List Entry → MachineState → List Move → MachineState
moved_all images s [] = s
moved_all images s (m ∷ ms) = moved_all images (machine_after_event images s m) ms

-- the name of a call from outside: bits 31 to 24 of its number and its X bit are left out
abbrev pub outside_name : ℕ → Option SwiName
outside_name number = swi_of (without_x (number % 2 ^ 24))

-- The SWI that a move makes, if it makes one, and the core that makes it.
abbrev pub swi_of_turn : Result (State × Bytes) StepEnd → Option SwiName
swi_of_turn (Err (turn.Swi n)) = swi_of (without_x n)
swi_of_turn other = None

abbrev pub swi_made : MachineState → Move → Option SwiName
swi_made s (Call number words) = outside_name number
swi_made s Step = swi_of_turn (result_of_instruction s)

abbrev pub core_of : MachineState → Move → State
core_of s (Call number words) = (machine_with_words s words).cpu
core_of s Step = s.cpu
