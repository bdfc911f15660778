-- That a fault has halted a machine, and where.
use Rattle.std.specs.Prelude.{ℕ, List, ◌++◌, codes, Option, Some, None}
use Rattle.profile.specs.Digits.{hex_number}
use Rattle.profile.specs.FaultNames.{fault_name}
use Rattle.profile.specs.Fault.{Fault}
use Rattle.profile.specs.declared.stop.Stop.{Stop}
use Rattle.profile.specs.declared.stop.Stop.TheVariants as stop

-- `halted at &8004 by DataUnmapped; RESET or BACK wakes it`
abbrev pub halted_by_text : ℕ → List ℕ → List ℕ
halted_by_text pc name =
    codes "halted at &" ++ (hex_number pc ++ (codes " by " ++ (name ++ codes "; RESET or BACK wakes it\n")))

abbrev pub halted_at_text : Fault → ℕ → List ℕ
halted_at_text fault pc = halted_by_text pc (fault_name fault)

-- the fault by which a machine has stopped, if one has
abbrev pub halting_fault : Option Stop → Option Fault
halting_fault (Some (stop.Fault fault)) = Some fault
halting_fault _ = None
