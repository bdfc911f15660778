-- The core on its way into module code (RISC OS 3 Programmer's Reference Manual, "Modules", "SWI
-- handler code", "Initialisation entry point", "Finalisation entry point"; the return gate is this
-- project's own): supervisor mode, V clear, the other flags and the masks as the caller has them,
-- and R14 of supervisor mode the gate with that status.
use Rattle.address_map.specs.MemoryMap.{return_gate}
use Rattle.std.specs.Prelude.{ℕ, false, ◌+◌, ◌%◌}
use Rattle.arm_core.specs.declared.psr.Mode.TheVariants.{User, Supervisor}
use Rattle.arm_core.specs.Psr.{psr_bits}
use Rattle.arm_core.specs.State.{State, with_mode, with_overflow, with_pc, with_register_in}
use Rattle.instances_table.specs.plans.Code.{private_of}
use Rattle.instances_table.specs.declared.plans.code.Code.{Code}

-- where module code returns to, which is never mapped
abbrev pub gate : ℕ
gate = return_gate

abbrev pub state_in_supervisor : State → State
state_in_supervisor cpu = with_overflow (with_mode cpu Supervisor) false

abbrev pub state_after_entry : State → ℕ → State
state_after_entry cpu at = with_pc (with_register_in Supervisor (state_in_supervisor cpu) 14
    (psr_bits (state_in_supervisor cpu).psr + gate)) at

-- R11 is the number of the SWI in its chunk of 64, R12 the address of the instance's private word.
unfoldable pub swi_entered : State → ℕ → ℕ → ℕ → State
swi_entered cpu at number slot = with_register_in User (with_register_in User (state_after_entry cpu at) 11
    (number % 64)) 12 (private_of slot)

unfoldable pub code_entered : State → Code → State
code_entered cpu code =
    with_register_in User (with_register_in User (with_register_in User
    (state_after_entry cpu code.at) 10 code.r10) 11 code.r11) 12 code.r12
