-- What a step leaves in the core, as words: each register that differs, the program counter where the
-- step doesn't go on where it was expected to, each flag that differs, and the mode.
use Rattle.std.specs.Prelude.{ℕ, Bool, false, not, ◌&&◌, nat_le, nat_lt, List, [], ◌∷◌, ◌++◌, codes, Option, Some, None, if◌then◌else◌}
use Rattle.std.specs.Fmt.{decimal}
use Rattle.std.specs.List.{flat_map}
use Rattle.profile.specs.Digits.{hex_word}
use Rattle.arm_core.specs.declared.psr.Mode.{Mode}
use Rattle.arm_core.specs.declared.psr.Mode.TheVariants.{User, FastInterrupt, Interrupt, Supervisor}
use Rattle.arm_core.specs.declared.psr.Psr.{Psr}
use Rattle.arm_core.specs.State.{State}
use Rattle.trace_store_text.specs.Registers.{mode_text}
use Rattle.trace_store_text.specs.views.Banks.{banked_name}
use Rattle.trace_effects.specs.declared.changes.registers.RegisterChange.{RegisterChange}
use Rattle.trace_effects.specs.declared.changes.status.Flag.{Flag}
use Rattle.trace_effects.specs.declared.changes.status.Flag.TheVariants.{Negative, Zero, Carry, Overflow, InterruptsOff, FastInterruptsOff}
use Rattle.trace_effects.specs.changes.Registers.{changes_of, home_of}
use Rattle.trace_effects.specs.changes.Status.{flag_change, jump, mode_change}

-- whether a mode has a register of its own in place of the shared one of this number
abbrev pub hides : Mode → ℕ → Bool
hides User number = false
hides FastInterrupt number = nat_le 8 number
hides _ number = nat_le 13 number

-- `R0`, and of a bank that the mode doesn't share `R13_svc`
abbrev pub banked_register_name : Mode → ℕ → List ℕ
banked_register_name mode place =
    if nat_lt place 15 && not (hides mode place) then codes "R" ++ decimal place
    else banked_name (home_of place).0 (home_of place).1

-- ` R0=00000009`
abbrev pub register_word : Mode → RegisterChange → List ℕ
register_word mode change =
    codes " " ++ (banked_register_name mode change.place ++ (codes "=" ++ hex_word change.new))

-- ` PC=00008004`
abbrev pub jump_word : Option ℕ → List ℕ
jump_word None = []
jump_word (Some at) = codes " PC=" ++ hex_word at

-- ` Z=1`
abbrev pub flag_word : ℕ → Option Bool → List ℕ
flag_word letter None = []
flag_word letter (Some is_set) = 32 ∷ letter ∷ 61 ∷ (if is_set then 49 else 48) ∷ []

unfoldable pub sign_flag_words : Psr → Psr → List ℕ
sign_flag_words p q = flag_word 78 (flag_change Negative p q) ++ flag_word 90 (flag_change Zero p q)

unfoldable pub carry_flag_words : Psr → Psr → List ℕ
carry_flag_words p q = flag_word 67 (flag_change Carry p q) ++ flag_word 86 (flag_change Overflow p q)

unfoldable pub mask_flag_words : Psr → Psr → List ℕ
mask_flag_words p q =
    flag_word 73 (flag_change InterruptsOff p q) ++ flag_word 70 (flag_change FastInterruptsOff p q)

-- N and Z, C and V, I and F
abbrev pub flag_words : Psr → Psr → List ℕ
flag_words p q = sign_flag_words p q ++ (carry_flag_words p q ++ mask_flag_words p q)

-- ` mode=SVC`
abbrev pub mode_word : Option Mode → List ℕ
mode_word None = []
mode_word (Some mode) = codes " mode=" ++ mode_text mode

unfoldable pub core_words : ℕ → State → State → List ℕ
core_words expected s s' = flat_map (register_word s'.psr.mode) (changes_of s s')
    ++ (jump_word (jump expected s') ++ (flag_words s.psr s'.psr ++ mode_word (mode_change s.psr s'.psr)))
