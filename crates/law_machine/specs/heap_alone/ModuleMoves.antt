-- Which moves call OS_Module, or are steps in which module code comes back.
use Rattle.std.specs.Prelude.{◌||◌, Bool, true, false, Option, Some, Result, Err}
use Rattle.profile.specs.declared.swi.SwiName.{SwiName}
use Rattle.profile.specs.declared.swi.SwiName.TheVariants as swi
use Rattle.address_map.specs.Bytes.{Bytes}
use Rattle.arm_core.specs.State.{State}
use Rattle.arm_core.specs.declared.turn.StepEnd.{StepEnd}
use Rattle.arm_core.specs.declared.turn.StepEnd.TheVariants as turn
use Rattle.swi_dispatch_guest.specs.MachineState.{MachineState}
use Rattle.swi_dispatch_guest.specs.Step.{result_of_instruction}
use Rattle.swi_dispatch_guest.specs.Moves.{Call, Move, Step, swi_made}

abbrev pub is_module_name : Option SwiName → Bool
is_module_name (Some swi.Module) = true
is_module_name other = false

abbrev pub is_at_gate : Result (State × Bytes) StepEnd → Bool
is_at_gate (Err turn.Gate) = true
is_at_gate other = false

abbrev pub is_module_move : MachineState → Move → Bool
is_module_move s (Call number words) = is_module_name (swi_made s (Call number words))
is_module_move s Step = is_module_name (swi_made s Step) || is_at_gate (result_of_instruction s)
