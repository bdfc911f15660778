-- The registers that each mode has of its own, as text: R8 to R14 of USR, which other modes hide, and
-- of FIQ, R13 and R14 of IRQ and SVC (ARM2 data sheet, "Registers"; the text is this project's own).
-- R8 to R12 stand on one line, R13 and R14 on the next.
use Rattle.std.specs.Prelude.{ℕ, ◌++◌, List, codes}
use Rattle.std.specs.Fmt.{decimal}
use Rattle.assembler_text.specs.Digits.{hex_word}
use Rattle.swi_dispatch_guest.specs.ArmCoreMode.{Mode}
use Rattle.swi_dispatch_guest.specs.ArmCoreMode.TheVariants.{User, FastInterrupt, Interrupt, Supervisor}
use Rattle.swi_dispatch_guest.specs.ArmCoreState.{State, register_in}
use Rattle.debugger.specs.Registers.{mode_text}

abbrev pub mode_suffix : Mode → List ℕ
mode_suffix User = codes "_usr"
mode_suffix FastInterrupt = codes "_fiq"
mode_suffix Interrupt = codes "_irq"
mode_suffix Supervisor = codes "_svc"

-- `R13_svc`
abbrev pub banked_name : Mode → ℕ → List ℕ
banked_name mode number = codes "R" ++ (decimal number ++ mode_suffix mode)

-- ` R13_svc 01C01FFC`
unfoldable pub banked_register_text : State → Mode → ℕ → List ℕ
banked_register_text s mode number =
    codes " " ++ (banked_name mode number ++ (codes " " ++ hex_word (register_in mode s number)))

-- ` R8_fiq 00000000 R9_fiq 00000000 R10_fiq 00000000 R11_fiq 00000000 R12_fiq 00000000`
unfoldable pub registers_from_8_text : State → Mode → List ℕ
registers_from_8_text s mode = banked_register_text s mode 8 ++ (banked_register_text s mode 9
    ++ (banked_register_text s mode 10 ++ (banked_register_text s mode 11 ++ banked_register_text s mode 12)))

-- the mode and these
unfoldable pub bank_line_from_8 : State → Mode → List ℕ
bank_line_from_8 s mode = mode_text mode ++ (registers_from_8_text s mode ++ codes "\n")

-- `SVC R13_svc 01C01FFC R14_svc 03800003`
unfoldable pub bank_line_from_13 : State → Mode → List ℕ
bank_line_from_13 s mode = mode_text mode ++
    (banked_register_text s mode 13 ++ (banked_register_text s mode 14 ++ codes "\n"))

abbrev pub banks_text : State → List ℕ
banks_text s =
    bank_line_from_8 s User ++ (bank_line_from_13 s User
    ++ (bank_line_from_8 s FastInterrupt ++ (bank_line_from_13 s FastInterrupt
    ++ (bank_line_from_13 s Interrupt ++ bank_line_from_13 s Supervisor))))
