-- Which steps of a machine end in a halt, and what they leave then.
use Rattle.std.specs.Prelude.{ℕ, ◌≡◌, ◌%◌, ◌^◌, ◌↔◌, Some, None, Err, List, []}
use Rattle.profile.specs.declared.swi.SwiName.TheVariants as swi
use Rattle.profile.specs.SwiNames.{swi_of}
use Rattle.arm_core.specs.declared.turn.StepEnd.TheVariants as turn
use Rattle.profile.specs.images.Entries.{Entry}
use Rattle.swi_dispatch_guest.specs.declared.halt.Halt.{Halt}
use Rattle.swi_dispatch_guest.specs.declared.halt.Halt.TheVariants as halt
use Rattle.swi_dispatch_guest.specs.MachineState.{MachineState, StepOutcome}
use Rattle.swi_dispatch_guest.specs.Step.{result_of_instruction, machine_step, module_loaded, store_called, without_x}

-- the machine as it was, with that halt; and nothing is printed
abbrev pub stopped_as_it_was : MachineState → Halt → StepOutcome
stopped_as_it_was s h = record { now = record s { halt = Some h }; printed = [] }

-- A step that ends in a halt, a fault or OS_Exit, changes nothing but that: a call without X that
-- is refused after it did something too, and the end of module code whose caller takes no error. A
-- halted machine stays as it is.
abbrev pub HaltsChangeNothing : Type 0
HaltsChangeNothing =
    (images : List Entry) (s : MachineState) (h : Halt) → (machine_step images s).now.halt ≡ Some h
    → machine_step images s ≡ stopped_as_it_was s h

-- The instruction at the program counter calls OS_Exit.
pub record Exits (s : MachineState) : Type 0 where
  pub number : ℕ
  pub is : result_of_instruction s ≡ Err (turn.Swi number)
  pub name : swi_of (without_x number) ≡ Some swi.Exit

-- The guest is at its end just where it calls OS_Exit, with X or without: every other halt is a
-- fault.
abbrev pub ExitsAreCalls : Type 0
ExitsAreCalls =
    (images : List Entry) (s : MachineState) → s.halt ≡ None
    → ((machine_step images s).now.halt ≡ Some halt.Exit) ↔ Exits s

-- What a user does from outside never ends in a fault: a call halts the machine just where it is
-- OS_Exit, and changes nothing then; a load never does.
pub record HaltsFromOutside (images : List Entry) (s : MachineState) (number : ℕ)
    (text : List ℕ) : Type 0 where
  pub exit : swi_of (without_x (number % 2 ^ 24)) ≡ Some swi.Exit
      → store_called images s number ≡ stopped_as_it_was s halt.Exit
  pub call : (swi_of (without_x (number % 2 ^ 24)) ≡ Some swi.Exit → ⊥)
      → (store_called images s number).now.halt ≡ None
  pub load : (module_loaded images s text).now.halt ≡ None

abbrev pub NoFaultFromOutside : Type 0
NoFaultFromOutside =
    (images : List Entry) (s : MachineState) (number : ℕ) (text : List ℕ) → s.halt ≡ None
    → HaltsFromOutside images s number text
