-- What instructions have in common: what R15 reads as, what a write to it does, the flags of a result (ARM2 data sheet, "Register 15",
-- "Using R15 as an operand"). Where the data sheet leaves a corner open, this project chose.
use Rattle.std.specs.Prelude.{ℕ, ◌+◌, ◌*◌, ◌%◌, ◌^◌, ◌==◌, if◌then◌else◌}
use Rattle.arm_decode.specs.Word.{bit_of}
use Rattle.arm_decode.specs.Sum.{Sum}
use Rattle.arm_core.specs.declared.psr.Mode.{Mode}
use Rattle.arm_core.specs.Psr.{psr_bits, psr_of, psr_taken}
use Rattle.arm_core.specs.State.{State, register_in, with_register_in, with_pc, with_psr, with_flags}

-- The program counter some words ahead of the instruction, in the 26-bit address space.
abbrev pub ahead : State → ℕ → ℕ
ahead s words = (s.pc + 4 * words) % 2 ^ 26

-- After an instruction that doesn't set it, the program counter is at the next word.
abbrev pub with_next_pc : State → State
with_next_pc s = with_pc s (s.pc + 4)

-- A register as an operand: R15 reads as the program counter ahead, with the status bits 0 or with the status.
abbrev pub plain_operand : State → ℕ → ℕ → ℕ
plain_operand s n words = if n == 15 then ahead s words else register_in s.psr.mode s n

abbrev pub status_operand : Mode → State → ℕ → ℕ → ℕ
status_operand m s n words = if n == 15 then psr_bits s.psr + ahead s words else register_in m s n

-- A register set; R15 takes bits 25 to 2 as the program counter.
abbrev pub with_result_in : Mode → State → ℕ → ℕ → State
with_result_in m s n v = if n == 15 then with_pc s v else with_register_in m s n v

-- The same in the present mode.
abbrev pub with_result : State → ℕ → ℕ → State
with_result s n v = with_result_in s.psr.mode s n v

-- The status set from a word; in user mode N, Z, C and V alone.
abbrev pub with_status : State → ℕ → State
with_status s v = with_psr s (psr_taken s.psr (psr_of v))

-- N and Z of a result, with C and V as they come.
abbrev pub with_result_flags : State → Sum → State
with_result_flags s r = with_flags s (bit_of r.value 31) (r.value == 0) r.carry r.overflow
