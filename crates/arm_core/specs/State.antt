-- The core: its register file with the banks of the four modes, the status and the program counter (ARM2 data sheet, "Registers").
use Rattle.arm_decode.specs.MemoryMap.{application_start}
use Rattle.std.specs.Prelude.{◌≡◌, ◌<◌, ℕ, Bool, length, ◌+◌, ◌*◌, ◌/◌, ◌%◌, ◌^◌, ◌==◌, nat_lt, if◌then◌else◌, List, [], ◌∷◌, slice_index, slice_set, false, replicate, ◌++◌}
use Rattle.arm_core.specs.declared.psr.Mode.{Mode}
use Rattle.arm_core.specs.declared.psr.Mode.TheVariants.{User, FastInterrupt, Interrupt, Supervisor}
use Rattle.arm_core.specs.declared.psr.Psr.{Psr}
use Rattle.arm_core.specs.Psr.{psr_bits}

-- The file has 26 registers: R0 to R14 of the shared bank, R8 to R14 of FIQ, R13 and R14 of IRQ, R13 and R14 of SVC.
pub record State : Type 0 where
  pub file : List ℕ
  pub psr : Psr
  pub pc : ℕ

-- As every core is: 26 registers that are words, and the program counter at a word of the address space.
pub record IsCore (s : State) : Type 0 where
  pub size : length s.file ≡ 26
  pub words : (k : ℕ) → slice_index s.file k < 2 ^ 32
  pub inside : s.pc < 2 ^ 26
  pub aligned : s.pc % 4 ≡ 0

-- The place in the file of R0 to R14 as a mode sees them.
abbrev pub slot_of : Mode → ℕ → ℕ
slot_of User n = n
slot_of FastInterrupt n = if nat_lt n 8 then n else n + 7
slot_of Interrupt n = if nat_lt n 13 then n else n + 9
slot_of Supervisor n = if nat_lt n 13 then n else n + 11

-- R0 to R14 of a mode, whatever the present one.
abbrev pub register_in : Mode → State → ℕ → ℕ
register_in m s n = slice_index s.file (slot_of m n)

abbrev pub with_register_in : Mode → State → ℕ → ℕ → State
with_register_in m s n v = record s { file = slice_set s.file (slot_of m n) v }

-- R15: the status and the program counter in one word.
abbrev pub r15_of : State → ℕ
r15_of s = psr_bits s.psr + s.pc

-- R0 to R15 of the present mode.
abbrev pub register_of : State → ℕ → ℕ
register_of s n = if n == 15 then r15_of s else register_in s.psr.mode s n

-- One of R0 to R14 of the present mode set.
abbrev pub with_register : State → ℕ → ℕ → State
with_register s n v = with_register_in s.psr.mode s n v

abbrev pub with_psr : State → Psr → State
with_psr s p = record s { psr = p }

-- The program counter set to bits 25 to 2 of a number, all others being left out.
abbrev pub with_pc : State → ℕ → State
with_pc s a = record s { pc = a / 4 % 2 ^ 24 * 4 }

abbrev pub with_flags : State → Bool → Bool → Bool → Bool → State
with_flags s n z c v = record s { psr = record s.psr { negative = n; zero = z; carry = c; overflow = v } }

abbrev pub with_overflow : State → Bool → State
with_overflow s v = record s { psr = record s.psr { overflow = v } }

abbrev pub with_mode : State → Mode → State
with_mode s m = record s { psr = record s.psr { mode = m } }

-- The start: user mode with all flags clear, the program counter at the start of the application space, every register 0 but the stack
-- pointer of supervisor mode, which is the end of its stack.
abbrev pub start_psr : Psr
start_psr = record {
  negative = false;
  zero = false;
  carry = false;
  overflow = false;
  interrupts_off = false;
  fast_interrupts_off = false;
  mode = User;
}

unfoldable pub cpu_start_state : State
cpu_start_state = record {
  file = replicate 24 0 ++ 0x01C02000 ∷ 0 ∷ [];
  psr = start_psr;
  pc = application_start;
}
