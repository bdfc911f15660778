-- The register lists of LDM and STM (ARM2 data sheet, "Block data transfer", "Assembler syntax"). A
-- list is the number whose bit n is set where Rn is in it.
use Rattle.std.specs.Prelude.{ℕ, zero, suc, Bool, ◌+◌, ◌-◌, ◌^◌, nat_le, List, length, fold, Option, Some, None, Ok, if◌then◌else◌}
use Rattle.std.specs.List.{range_with_len}
use Rattle.profile.specs.Word.{bit_of}
use Rattle.arm_decode.specs.declared.action.Action.{Action}
use Rattle.arm_decode.specs.declared.action.Action.TheVariants as action
use Rattle.arm_decode.specs.declared.address.BlockMode.{BlockMode}
use Rattle.assembler_text.specs.naming.Names.{register}
use Rattle.assembler_text.specs.naming.Words.{after_mark, byte, comma, is_marked, ◌>>=◌}
use Rattle.assembler_reading.specs.Operands.{ReadOutcome}

-- one more register, which may be there already
unfoldable pub list_with_register : ℕ → ℕ → ℕ
list_with_register list n = if bit_of list n then list else list + 2 ^ n

unfoldable pub with_range : ℕ → ℕ → ℕ → ℕ
with_range list first last = fold list_with_register list (range_with_len first (last + 1 - first))

-- the last register of a range that begins with a register: after a minus one that is no lower,
-- else the first itself
abbrev pub last_register : ℕ → List ℕ → Option (List ℕ) → Option (ℕ × List ℕ)
last_register first text None = Some (first, text)
last_register first text (Some after) = do
  last ← register after
  if nat_le first last.0 then Some (last.0, last.1) else None

-- `R0` or `R0-R3`, as its first and its last register
abbrev pub register_range : List ℕ → Option ((ℕ × ℕ) × List ℕ)
register_range text = do
  first ← register text
  last ← last_register first.0 first.1 (byte 45 first.1)
  Some ((first.0, last.0), last.1)

-- after a comma more registers, else the closing brace (125)
abbrev pub next_registers : (ℕ → List ℕ → Option (ℕ × List ℕ)) → ℕ → List ℕ → Option (List ℕ) →
    Option (ℕ × List ℕ)
next_registers others list text (Some after) = others list after
next_registers others list text None = do
  rest ← byte 125 text
  Some (list, rest)

-- the registers and ranges of a list, as many as there are; the count, which is never used up, is
-- the length of a text that holds them
unfoldable pub more_registers : ℕ → ℕ → List ℕ → Option (ℕ × List ℕ)
more_registers zero list text = None
more_registers (suc n) list text = do
  range ← register_range text
  next_registers (more_registers n) (with_range list range.0.0 range.0.1) range.1 (comma range.1)

-- `{R0,R4-R6}`, not empty
abbrev pub register_list : List ℕ → Option (ℕ × List ℕ)
register_list text = do
  rest ← byte 123 text
  more_registers (length rest) 0 rest

abbrev pub block_transfer_action : Bool → BlockMode → ℕ → Bool → ℕ → Bool → Action
block_transfer_action loading way base back registers psr = action.BlockTransfer (record {
  loads = loading;
  mode = way;
  psr_or_user = psr;
  writes_back = back;
  rn = base;
  list = registers;
})

-- `Rn!,{R0,R1}^`: 33 is `!`, 94 is `^`
unfoldable pub block_transfer_text_at : Bool → BlockMode → List ℕ → Option (ReadOutcome Action × List ℕ)
block_transfer_text_at loading way text = do
  rn ← register text
  rest ← comma (after_mark 33 rn.1)
  registers ← register_list rest
  Some (
    Ok (block_transfer_action loading way rn.0 (is_marked 33 rn.1) registers.0
        (is_marked 94 registers.1)),
    after_mark 94 registers.1,
  )
