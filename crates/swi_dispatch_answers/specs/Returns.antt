-- How a call goes back to its caller (RISC OS 3 Programmer's Reference Manual, "An introduction to
-- SWIs").
use Rattle.std.specs.Prelude.{ℕ, Bool, ◌+◌, ◌*◌, ◌/◌, ◌%◌, ◌^◌}
use Rattle.arm_core.specs.declared.psr.Mode.TheVariants.{Supervisor}
use Rattle.arm_core.specs.declared.psr.Psr.{Psr}
use Rattle.arm_core.specs.Psr.{psr_bits}
use Rattle.arm_core.specs.State.{State, with_register_in, with_overflow, with_pc}

-- The return address in the link register of supervisor mode, with the caller's status (the status
-- before the call).
abbrev pub return_word : Psr → ℕ → ℕ
return_word caller next = psr_bits caller + next / 4 % 2 ^ 24 * 4

-- A call goes back: V says whether it was refused, R14 of supervisor mode is the return address,
-- and the guest goes on there.
unfoldable pub state_after_return : Psr → State → Bool → ℕ → State
state_after_return caller cpu overflow next =
    with_pc (with_register_in Supervisor (with_overflow cpu overflow) 14 (return_word caller next)) next
