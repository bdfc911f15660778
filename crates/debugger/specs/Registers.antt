-- The registers as text: four lines of four, each a name of three places and eight hexadecimal
-- digits, and a line of the status, a set flag in capitals.
use Rattle.std.specs.Prelude.{ℕ, Bool, ◌+◌, ◌++◌, nat_lt, List, [], ◌∷◌, codes, if◌then◌else◌}
use Rattle.assembler_text.specs.Digits.{hex_word}
use Rattle.swi_dispatch_guest.specs.ArmCoreMode.{Mode}
use Rattle.swi_dispatch_guest.specs.ArmCoreMode.TheVariants.{User, FastInterrupt, Interrupt, Supervisor}
use Rattle.swi_dispatch_guest.specs.ArmCorePsr.{Psr}
use Rattle.swi_dispatch_guest.specs.ArmCoreState.{State, register_of}

-- a register's name, padded to three places, and a space
abbrev pub register_label : ℕ → List ℕ
register_label n = if nat_lt n 10 then 82 ∷ (n + 48) ∷ 32 ∷ 32 ∷ [] else 82 ∷ 49 ∷ (n + 38) ∷ 32 ∷ []

abbrev pub register_value_text : State → ℕ → List ℕ
register_value_text s n = hex_word (register_of s n)

-- four registers from the n-th on
unfoldable pub row_text : State → ℕ → List ℕ
row_text s n =
    register_label n ++ (register_value_text s n ++ (codes " " ++
    (register_label (n + 1) ++ (register_value_text s (n + 1) ++ (codes " " ++
    (register_label (n + 2) ++ (register_value_text s (n + 2) ++ (codes " " ++
    (register_label (n + 3) ++ (register_value_text s (n + 3) ++ codes "\n"))))))))))

abbrev pub mode_text : Mode → List ℕ
mode_text User = codes "USR"
mode_text FastInterrupt = codes "FIQ"
mode_text Interrupt = codes "IRQ"
mode_text Supervisor = codes "SVC"

-- a flag's letter, a capital where it is set
abbrev pub flag_letter : Bool → ℕ → ℕ
flag_letter is_set letter = if is_set then letter else letter + 32

abbrev pub flag_letters : Psr → List ℕ
flag_letters p = flag_letter p.negative 78 ∷ flag_letter p.zero 90 ∷ flag_letter p.carry 67
    ∷ flag_letter p.overflow 86
    ∷ flag_letter p.interrupts_off 73 ∷ flag_letter p.fast_interrupts_off 70 ∷ []

-- `nzCvif USR`
unfoldable pub flags_and_mode_text : Psr → List ℕ
flags_and_mode_text p = flag_letters p ++ (codes " " ++ mode_text p.mode)

-- `PSR nzCvif USR`
abbrev pub status_text : Psr → List ℕ
status_text p = codes "PSR " ++ flags_and_mode_text p

abbrev pub cpu_registers_text : State → List ℕ
cpu_registers_text s = row_text s 0 ++ (row_text s 4 ++ (row_text s 8
    ++ (row_text s 12 ++ (status_text s.psr ++ codes "\n"))))
