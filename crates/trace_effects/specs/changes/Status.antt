-- Flags, mode and program counter, as two cores differ in them.
use Rattle.std.specs.Prelude.{ℕ, Bool, true, false, ◌+◌, ◌%◌, ◌^◌, ◌==◌, Option, Some, None, if◌then◌else◌}
use Rattle.arm_core.specs.declared.psr.Mode.{Mode}
use Rattle.arm_core.specs.declared.psr.Mode.TheVariants.{User, FastInterrupt, Interrupt, Supervisor}
use Rattle.arm_core.specs.declared.psr.Psr.{Psr}
use Rattle.arm_core.specs.State.{State}
use Rattle.trace_effects.specs.declared.changes.status.Flag.{Flag}
use Rattle.trace_effects.specs.declared.changes.status.Flag.TheVariants.{Negative, Zero, Carry, Overflow, InterruptsOff, FastInterruptsOff}

-- whether a status has the flag set
abbrev pub flag_of : Flag → Psr → Bool
flag_of Negative p = p.negative
flag_of Zero p = p.zero
flag_of Carry p = p.carry
flag_of Overflow p = p.overflow
flag_of InterruptsOff p = p.interrupts_off
flag_of FastInterruptsOff p = p.fast_interrupts_off

-- the new one of two, where they differ
abbrev pub new_bool : Bool → Bool → Option Bool
new_bool true true = None
new_bool true false = Some false
new_bool false true = Some true
new_bool false false = None

abbrev pub new_mode : Mode → Mode → Option Mode
new_mode User User = None
new_mode FastInterrupt FastInterrupt = None
new_mode Interrupt Interrupt = None
new_mode Supervisor Supervisor = None
new_mode _ new = Some new

abbrev pub flag_change : Flag → Psr → Psr → Option Bool
flag_change flag p q = new_bool (flag_of flag p) (flag_of flag q)

abbrev pub mode_change : Psr → Psr → Option Mode
mode_change p q = new_mode p.mode q.mode

-- the address of the word after an instruction
abbrev pub following_word : State → ℕ
following_word s = (s.pc + 4) % 2 ^ 26

-- where a core goes on, if that isn't where it was expected to
abbrev pub jump : ℕ → State → Option ℕ
jump expected s = if s.pc == expected then None else Some s.pc
