-- The registers as GDB numbers them: R0 to R14 of the present mode, the program counter, the status,
-- R15 as one word, and then those of all banks. The status is shown as a later processor has it in a
-- mode of 26 bits: the flags in bits 31 to 28, I and F in bits 7 and 6, the mode in bits 1 and 0.
use Rattle.std.specs.Prelude.{ℕ, zero, suc, ◌+◌, ◌-◌, ◌*◌, ◌^◌, ◌==◌, nat_lt, List, [], ◌++◌, Option, Some, None, codes, if◌then◌else◌}
use Rattle.std.specs.Int.{from_bool, to_le_bytes, w32}
use Rattle.hex.specs.Hex.{encode_lower}
use Rattle.arm_core.specs.declared.psr.Mode.{Mode}
use Rattle.arm_core.specs.declared.psr.Mode.TheVariants.{User, FastInterrupt, Interrupt, Supervisor}
use Rattle.arm_core.specs.declared.psr.Psr.{Psr}
use Rattle.arm_core.specs.Psr.{mode_number}
use Rattle.arm_core.specs.State.{State, register_in, register_of}

abbrev pub status_word : Psr → ℕ
status_word p = from_bool p.negative * 2 ^ 31 + from_bool p.zero * 2 ^ 30 + from_bool p.carry * 2 ^ 29 +
    from_bool p.overflow * 2 ^ 28
    + from_bool p.interrupts_off * 2 ^ 7 + from_bool p.fast_interrupts_off * 2 ^ 6 + mode_number p.mode

-- the mode and the register that a number from 18 on means: R8 to R14 of user mode, R8 to R14 of FIQ,
-- R13 and R14 of IRQ, R13 and R14 of supervisor mode
abbrev pub register_bank : ℕ → Option (Mode × ℕ)
register_bank n =
    if nat_lt n 18 then None else (
    if nat_lt n 25 then Some (User, n - 10) else (
    if nat_lt n 32 then Some (FastInterrupt, n - 17) else (
    if nat_lt n 34 then Some (Interrupt, n - 19) else (
    if nat_lt n 36 then Some (Supervisor, n - 21) else None))))

abbrev pub bank_shown : State → Option (Mode × ℕ) → Option ℕ
bank_shown s None = None
bank_shown s (Some bank) = Some (register_in bank.0 s bank.1)

abbrev pub register_shown : State → ℕ → Option ℕ
register_shown s n =
    if nat_lt n 15 then Some (register_of s n) else (
    if n == 15 then Some s.pc else (
    if n == 16 then Some (status_word s.psr) else (
    if n == 17 then Some (register_of s 15) else bank_shown s (register_bank n))))

-- a register's four bytes, the lowest first, as pairs of digits
abbrev pub word_digits : ℕ → List ℕ
word_digits word = encode_lower (to_le_bytes w32 word)

abbrev pub shown_register : Option ℕ → List ℕ
shown_register None = codes "E16"
shown_register (Some word) = word_digits word

-- `p n`
abbrev pub register_reply : State → ℕ → List ℕ
register_reply s n = shown_register (register_shown s n)

-- so many registers, from that number on
unfoldable pub registers_text : State → ℕ → ℕ → List ℕ
registers_text s n zero = []
registers_text s n (suc left) = register_reply s n ++ registers_text s (n + 1) left

-- `g`
abbrev pub all_registers_text : State → List ℕ
all_registers_text s = registers_text s 0 36
