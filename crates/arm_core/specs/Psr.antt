-- The processor status as bits of R15 (ARM2 data sheet, "Register 15"): N 31, Z 30, C 29, V 28, I 27, F 26, the mode in bits 1 to 0.
use Rattle.std.specs.Prelude.{ℕ, ◌+◌, ◌*◌, ◌%◌, ◌^◌, if◌then◌else◌, ◌==◌}
use Rattle.std.specs.Int.{from_bool}
use Rattle.arm_decode.specs.Word.{bit_of}
use Rattle.arm_core.specs.declared.psr.Mode.{Mode}
use Rattle.arm_core.specs.declared.psr.Mode.TheVariants.{User, FastInterrupt, Interrupt, Supervisor}
use Rattle.arm_core.specs.declared.psr.Psr.{Psr}

abbrev pub mode_number : Mode → ℕ
mode_number User = 0
mode_number FastInterrupt = 1
mode_number Interrupt = 2
mode_number Supervisor = 3

abbrev pub mode_numbered : ℕ → Mode
mode_numbered n = if n == 0 then User else (if n == 1 then FastInterrupt
    else (if n == 2 then Interrupt else Supervisor))

abbrev pub mode_of : ℕ → Mode
mode_of word = mode_numbered (word % 4)

-- The status as a word: every bit of the program counter is 0.
abbrev pub psr_bits : Psr → ℕ
psr_bits p = from_bool p.negative * 2 ^ 31 + from_bool p.zero * 2 ^ 30 + from_bool p.carry * 2 ^ 29 +
    from_bool p.overflow * 2 ^ 28
    + from_bool p.interrupts_off * 2 ^ 27 + from_bool p.fast_interrupts_off * 2 ^ 26 + mode_number p.mode

-- The status that a word holds.
abbrev pub psr_of : ℕ → Psr
psr_of word = record {
  negative = bit_of word 31;
  zero = bit_of word 30;
  carry = bit_of word 29;
  overflow = bit_of word 28;
  interrupts_off = bit_of word 27;
  fast_interrupts_off = bit_of word 26;
  mode = mode_of word;
}

-- Of a status that an instruction sets, user mode takes the flags N, Z, C and V alone.
abbrev pub psr_taken_in : Mode → Psr → Psr → Psr
psr_taken_in User old new = record old {
  negative = new.negative;
  zero = new.zero;
  carry = new.carry;
  overflow = new.overflow;
}
psr_taken_in _ old new = new

abbrev pub psr_taken : Psr → Psr → Psr
psr_taken old new = psr_taken_in old.mode old new
