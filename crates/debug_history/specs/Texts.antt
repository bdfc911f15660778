-- The texts of what lines are answered that have to do with the past.
use Rattle.std.specs.Prelude.{ℕ, ◌-◌, ◌++◌, nat_lt, length, take, drop, List, [], codes, Option, Some, None, Bool, true, false, if◌then◌else◌}
use Rattle.std.specs.Fmt.{decimal}
use Rattle.arm_core.specs.declared.psr.Mode.{Mode}
use Rattle.arm_core.specs.declared.psr.Mode.TheVariants.{User, FastInterrupt, Interrupt, Supervisor}
use Rattle.profile.specs.Digits.{hex_word}
use Rattle.command_shell_lines.specs.debug_words.PastTexts.{address_text}
use Rattle.debug_history.specs.declared.search.PastFound.{PastFound}
use Rattle.debug_history.specs.declared.search.Sought.{Sought}
use Rattle.debug_history.specs.declared.search.Sought.TheVariants as sought

abbrev pub not_there_text : List ℕ
not_there_text = codes "refused NotThere\n"

-- where it never was so
abbrev pub never_text : Sought → List ℕ
never_text (sought.Claimed address) = codes "no claim since step 0\n"
never_text (sought.Freed address) = codes "no free since step 0\n"
never_text x = codes "no change since step 0\n"

-- a value: a byte by two digits, `--------` or `--` where no memory is mapped, and `none` where no block is
abbrev pub value_text : Sought → Option ℕ → List ℕ
value_text (sought.Byte address) (Some value) = drop 6 (hex_word value)
value_text (sought.Byte address) None = codes "--"
value_text (sought.Block address) None = codes "none"
value_text (sought.Claimed address) None = codes "none"
value_text (sought.Freed address) None = codes "none"
value_text x (Some value) = hex_word value
value_text x None = codes "--------"

-- what stands behind the names of the registers of a bank
abbrev pub bank_text : Mode → List ℕ
bank_text User = codes "_usr="
bank_text FastInterrupt = codes "_fiq="
bank_text Interrupt = codes "_irq="
bank_text Supervisor = codes "_svc="

-- `[00009020]=`, `R0=`, `R13_svc=`, `block `
abbrev pub looked_text : Sought → List ℕ
looked_text (sought.Word address) = address_text address
looked_text (sought.Byte address) = address_text address
looked_text (sought.Register mode number) = codes "R" ++ (decimal number ++ codes "=")
looked_text (sought.Banked mode number) = codes "R" ++ (decimal number ++ bank_text mode)
looked_text sought.Status = codes "FLAGS="
looked_text (sought.Stood address) = codes "PC="
looked_text (sought.Block address) = codes "block "
looked_text (sought.Claimed address) = codes "block "
looked_text (sought.Freed address) = codes "block "

-- `step 34, 5 back`, or of a change from outside `line 38 at step 40, 0 back`
abbrev pub when_found_text : Bool → ℕ → PastFound → List ℕ
when_found_text true steps f =
    codes "step " ++ (decimal f.step ++ (codes ", " ++ (decimal (steps - f.step) ++ codes " back")))
when_found_text false steps f = codes "line " ++ (decimal f.line ++ (codes " at step "
    ++ (decimal f.step ++ (codes ", " ++ (decimal (steps - f.step) ++ codes " back")))))

-- `00000008 was 00009100`
abbrev pub values_text : Sought → PastFound → List ℕ
values_text x f = value_text x f.after ++ (codes " was " ++ (value_text x f.before ++ codes "\n"))

-- `step 34, 5 back: [00009020]=00000008 was 00009100`
abbrev pub found_text : Sought → ℕ → PastFound → List ℕ
found_text x steps f =
    when_found_text f.is_step steps f ++ (codes ": " ++ (looked_text x ++ values_text x f))

abbrev pub last_seen_text : Sought → ℕ → Option PastFound → List ℕ
last_seen_text x steps (Some f) = found_text x steps f
last_seen_text x steps None = never_text x
