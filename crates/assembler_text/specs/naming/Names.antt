-- The names of registers, conditions, operations, shifts and block modes, in letters of either case
-- (ARM2 data sheet, "Assembler syntax"). A name is looked up among the texts that the disassembler
-- prints.
use Rattle.std.specs.Prelude.{ℕ, Bool, true, false, ◌-◌, ◌==◌, ◌&&◌, ◌||◌, List, [], ◌∷◌, codes, Option, Some, None, find, if◌then◌else◌}
use Rattle.std.specs.Char.{to_ascii_lowercase}
use Rattle.std.specs.Int.{is_in_range}
use Rattle.arm_decode.specs.Names.{conditions, operations, shifts, block_modes}
use Rattle.arm_decode.specs.declared.address.BlockMode.{BlockMode}
use Rattle.arm_decode.specs.declared.address.BlockMode.TheVariants.{DecrementAfter, IncrementAfter, DecrementBefore, IncrementBefore}
use Rattle.arm_decode.specs.declared.condition.Condition.{Condition}
use Rattle.arm_decode.specs.declared.condition.Condition.TheVariants.{Always}
use Rattle.arm_decode.specs.declared.operation.Operation.{Operation}
use Rattle.arm_decode.specs.declared.shift.Shift.{Shift}
use Rattle.assembler_text.specs.Names.{condition_text, operation_text, shift_text, block_mode_text}
use Rattle.assembler_text.specs.naming.Words.{is_same_name, word, after_word, ◌>>=◌}

-- `R0` to `R9`, `R10` to `R15`: 114 is `r`, 49 the digit 1
abbrev pub numbered_register : List ℕ → Option ℕ
numbered_register (letter ∷ digit ∷ []) =
    if to_ascii_lowercase letter == 114 && is_in_range 48 57 digit then Some (digit - 48) else None
numbered_register (letter ∷ one ∷ digit ∷ []) =
    if to_ascii_lowercase letter == 114 && (one == 49 && is_in_range 48 53 digit) then Some (digit - 38)
    else None
numbered_register _ = None

-- SP is R13, LR is R14, PC is R15
unfoldable pub register_named : List ℕ → Option ℕ
register_named name =
    if is_same_name name (codes "SP") then Some 13 else (
    if is_same_name name (codes "LR") then Some 14 else (
    if is_same_name name (codes "PC") then Some 15 else numbered_register name))

-- a register at the front of a text
unfoldable pub register : List ℕ → Option (ℕ × List ℕ)
register text = do
  n ← register_named (word text)
  Some (n, after_word text)

abbrev pub names_condition : List ℕ → Condition → Bool
names_condition name c = is_same_name name (condition_text c)

-- the condition that is printed so; Always is printed as nothing
unfoldable pub printed_condition : List ℕ → Option Condition
printed_condition name = find (names_condition name) conditions

-- AL may be written or not
abbrev pub condition_named : List ℕ → Option Condition
condition_named name = if is_same_name name (codes "AL") then Some Always else printed_condition name

abbrev pub names_operation : List ℕ → Operation → Bool
names_operation name o = is_same_name name (operation_text o)

unfoldable pub operation_named : List ℕ → Option Operation
operation_named name = find (names_operation name) operations

abbrev pub names_shift : List ℕ → Shift → Bool
names_shift name s = is_same_name name (shift_text s)

unfoldable pub shift_named : List ℕ → Option Shift
shift_named name = find (names_shift name) shifts

-- The names of a stack: F for full or E for empty, D for descending or A for ascending. What STM
-- pushes, LDM of the same name pulls.
abbrev pub stack_text : Bool → BlockMode → List ℕ
stack_text true IncrementAfter = codes "FD"
stack_text true DecrementAfter = codes "FA"
stack_text true IncrementBefore = codes "ED"
stack_text true DecrementBefore = codes "EA"
stack_text false DecrementBefore = codes "FD"
stack_text false IncrementBefore = codes "FA"
stack_text false DecrementAfter = codes "ED"
stack_text false IncrementAfter = codes "EA"

abbrev pub names_block_mode : Bool → List ℕ → BlockMode → Bool
names_block_mode loads name mode = is_same_name name (block_mode_text mode)
    || is_same_name name (stack_text loads mode)

unfoldable pub block_mode_named : Bool → List ℕ → Option BlockMode
block_mode_named loads name = find (names_block_mode loads name) block_modes
