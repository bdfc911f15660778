-- The fields of a record that say what differs in the core: registers of all banks by their names, flags,
-- the mode, and where the core goes on (ARM2 data sheet, "Registers").
use Rattle.std.specs.Prelude.{◌≡◌, ℕ, ◌==◌, Bool, true, false, List, [], ◌∷◌, ◌++◌, codes, map, Option, Some, None, if◌then◌else◌}
use Rattle.std.specs.Fmt.{decimal}
use Rattle.arm_core.specs.State.{State}
use Rattle.arm_core.specs.declared.psr.Mode.{Mode}
use Rattle.arm_core.specs.declared.psr.Mode.TheVariants.{User, FastInterrupt, Interrupt, Supervisor}
use Rattle.arm_core.specs.declared.psr.Psr.{Psr}
use Rattle.trace_effects.specs.changes.Laws.{CoreChanges, registers_after}
use Rattle.trace_effects.specs.changes.Status.{flag_change, jump, mode_change}
use Rattle.trace_effects.specs.declared.changes.registers.RegisterChange.{RegisterChange}
use Rattle.trace_effects.specs.declared.changes.status.Flag.{Flag}
use Rattle.trace_effects.specs.declared.changes.status.Flag.TheVariants.{Negative, Zero, Carry, Overflow, InterruptsOff, FastInterruptsOff}
use Rattle.trace_effects.specs.declared.record_text.text.RecordText.{RecordText}
use Rattle.trace_effects.specs.record_text.Spelling.{string_text}
use Rattle.trace_moments.specs.Fields.{HasMore, field_text, object_text, unless_empty}

-- by its place in the file of all banks: R0 to R14 of USR, R8 to R14 of FIQ, R13 and R14 of IRQ and SVC
abbrev pub register_name : ℕ → List ℕ
register_name place =
    if place == 0 then codes "R0" else (
    if place == 1 then codes "R1" else (
    if place == 2 then codes "R2" else (
    if place == 3 then codes "R3" else (
    if place == 4 then codes "R4" else (
    if place == 5 then codes "R5" else (
    if place == 6 then codes "R6" else (
    if place == 7 then codes "R7" else (
    if place == 8 then codes "R8_usr" else (
    if place == 9 then codes "R9_usr" else (
    if place == 10 then codes "R10_usr" else (
    if place == 11 then codes "R11_usr" else (
    if place == 12 then codes "R12_usr" else (
    if place == 13 then codes "R13_usr" else (
    if place == 14 then codes "R14_usr" else (
    if place == 15 then codes "R8_fiq" else (
    if place == 16 then codes "R9_fiq" else (
    if place == 17 then codes "R10_fiq" else (
    if place == 18 then codes "R11_fiq" else (
    if place == 19 then codes "R12_fiq" else (
    if place == 20 then codes "R13_fiq" else (
    if place == 21 then codes "R14_fiq" else (
    if place == 22 then codes "R13_irq" else (
    if place == 23 then codes "R14_irq" else (
    if place == 24 then codes "R13_svc" else
    codes "R14_svc"))))))))))))))))))))))))

abbrev pub flag_name : Flag → List ℕ
flag_name Negative = codes "N"
flag_name Zero = codes "Z"
flag_name Carry = codes "C"
flag_name Overflow = codes "V"
flag_name InterruptsOff = codes "I"
flag_name FastInterruptsOff = codes "F"

abbrev pub mode_name : Mode → List ℕ
mode_name User = codes "USR"
mode_name FastInterrupt = codes "FIQ"
mode_name Interrupt = codes "IRQ"
mode_name Supervisor = codes "SVC"

-- `"R0":3`
abbrev pub register_field : RegisterChange → List ℕ
register_field c = field_text (register_name c.place) (decimal c.new)

-- `"regs":{"R0":3,"R14_svc":32780}`
abbrev pub register_fields : List RegisterChange → List (List ℕ)
register_fields cs = unless_empty (map register_field cs)
    (field_text (codes "regs") (object_text (map register_field cs)))

-- `"C":1`
abbrev pub flag_field : Flag → Option Bool → List (List ℕ)
flag_field flag None = []
flag_field flag (Some set) = field_text (flag_name flag) (decimal (if set then 1 else 0)) ∷ []

abbrev pub flags_that_differ : (Flag → Option Bool) → List (List ℕ)
flags_that_differ flags = flag_field Negative (flags Negative)
    ++ (flag_field Zero (flags Zero)
    ++ (flag_field Carry (flags Carry)
    ++ (flag_field Overflow (flags Overflow)
    ++ (flag_field InterruptsOff (flags InterruptsOff)
    ++ flag_field FastInterruptsOff (flags FastInterruptsOff)))))

-- `"flags":{"N":0,"C":1}`
abbrev pub flag_fields : (Flag → Option Bool) → List (List ℕ)
flag_fields flags = unless_empty (flags_that_differ flags)
    (field_text (codes "flags") (object_text (flags_that_differ flags)))

-- `"mode":"SVC"`
abbrev pub mode_fields : Option Mode → List (List ℕ)
mode_fields None = []
mode_fields (Some mode) = field_text (codes "mode") (string_text (mode_name mode)) ∷ []

-- `"next":32776`
abbrev pub jump_fields : List ℕ → Option ℕ → List (List ℕ)
jump_fields name None = []
jump_fields name (Some at) = field_text name (decimal at) ∷ []

abbrev pub core_fields : List ℕ → CoreChanges → List (List ℕ)
core_fields name c = register_fields c.registers
    ++ (flag_fields c.flags ++ (mode_fields c.mode ++ jump_fields name c.goes_to))

-- What differs between two cores, the second of which was expected to go on at an address: whoever has
-- the first, and gives each register that is listed its new value, has the registers of the second.
pub record AreCoreChanges (expected : ℕ) (s s' : State) (c : CoreChanges) : Type 0 where
  pub registers : registers_after s.file c.registers ≡ s'.file
  pub flags : (flag : Flag) → c.flags flag ≡ flag_change flag s.psr s'.psr
  pub mode : c.mode ≡ mode_change s.psr s'.psr
  pub goes_to : c.goes_to ≡ jump expected s'

-- Such changes were written.
pub record ShowsCore (name : List ℕ) (expected : ℕ) (s s' : State) (old new : RecordText) : Type 0 where
  pub changes : CoreChanges
  pub are : AreCoreChanges expected s s' changes
  pub written : HasMore old new (core_fields name changes)
