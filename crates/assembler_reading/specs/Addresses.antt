-- The addresses of LDR and STR (ARM2 data sheet, "Single data transfer", "Assembler syntax").
use Rattle.std.specs.Prelude.{ℕ, Bool, true, false, ◌+◌, ◌-◌, ◌&&◌, nat_le, nat_lt, List, Option, Some, None, Ok, Err, if◌then◌else◌}
use Rattle.arm_decode.specs.declared.action.Action.{Action}
use Rattle.arm_decode.specs.declared.action.Action.TheVariants as action
use Rattle.arm_decode.specs.declared.address.Address.{Address}
use Rattle.arm_decode.specs.declared.address.Direction.{Direction}
use Rattle.arm_decode.specs.declared.address.Direction.TheVariants.{Down, Up}
use Rattle.arm_decode.specs.declared.address.Indexing.{Indexing}
use Rattle.arm_decode.specs.declared.address.Indexing.TheVariants.{Post, Pre}
use Rattle.arm_decode.specs.declared.address.Offset.{Offset}
use Rattle.arm_decode.specs.declared.address.Offset.TheVariants as offset
use Rattle.arm_decode.specs.declared.operand.Operand.{Operand}
use Rattle.arm_decode.specs.declared.operand.Operand.TheVariants as operand
use Rattle.assembler_text.specs.naming.Expressions.{Lookup, Value, expression}
use Rattle.assembler_text.specs.naming.Names.{register}
use Rattle.assembler_text.specs.naming.Words.{byte, comma, is_marked, after_mark, ◌>>=◌}
use Rattle.assembler_text.specs.declared.naming.reason.Reason.TheVariants.{UnknownLabel, BadImmediate, OutOfReach}
use Rattle.assembler_reading.specs.Operands.{ReadOutcome, shifted_operand}

abbrev pub address_with_offset : Indexing → Direction → ℕ → Offset → Address
address_with_offset way to base by = record { indexing = way; direction = to; rn = base; offset = by }

-- an offset and its sign, with a base
abbrev pub address_of_offset : Indexing → ℕ → ReadOutcome (Direction × Offset) → ReadOutcome Address
address_of_offset way base (Ok by) = Ok (address_with_offset way by.0 base by.1)
address_of_offset way base (Err reason) = Err reason

-- a number of 12 bits
abbrev pub offset_of_value : Direction → Value → ReadOutcome (Direction × Offset)
offset_of_value to None = Err UnknownLabel
offset_of_value to (Some n) = if nat_lt n 4096 then Ok (to, offset.Immediate n) else Err BadImmediate

abbrev pub number_offset : Lookup → Direction → List ℕ → Option (ReadOutcome (Direction × Offset) × List ℕ)
number_offset labels to text = do
  n ← expression labels text
  Some (offset_of_value to n.0, n.1)

-- a register shifted by a number; an offset can't be shifted by a register
abbrev pub operand_offset : Direction → Operand → Option (ReadOutcome (Direction × Offset))
operand_offset to (operand.Shifted s) = Some (Ok (to, offset.Shifted s))
operand_offset to _ = None

abbrev pub as_offset : Direction → ReadOutcome Operand → Option (ReadOutcome (Direction × Offset))
as_offset to (Ok second) = operand_offset to second
as_offset to (Err reason) = Some (Err reason)

abbrev pub shifted_offset : Lookup → Direction → List ℕ → Option (ReadOutcome (Direction × Offset) × List ℕ)
shifted_offset labels to text = do
  second ← shifted_operand labels text
  by ← as_offset to second.0
  Some (by, second.1)

-- down where a minus (45) stands
abbrev pub signed_direction : Bool → Direction
signed_direction true = Down
signed_direction false = Up

-- `#n`, `#-n`, or a register with its shift, with a minus or without. All that follows the minus is
-- subtracted: `#-1+2` is 3 down, and `#-0` is 0 down.
abbrev pub offset_at : Lookup → List ℕ → Option (List ℕ) → Option (ReadOutcome (Direction × Offset) × List ℕ)
offset_at labels text (Some after) = number_offset labels (signed_direction (is_marked 45 after))
    (after_mark 45 after)
offset_at labels text None = shifted_offset labels (signed_direction (is_marked 45 text)) (after_mark 45 text)

unfoldable pub offset_in : Lookup → List ℕ → Option (ReadOutcome (Direction × Offset) × List ℕ)
offset_in labels text = offset_at labels text (byte 35 text)

-- after `[Rn]`: a comma and the offset, or nothing, which T forbids
abbrev pub address_after_base : Lookup → Bool → ℕ → List ℕ → Option (List ℕ) →
    Option (ReadOutcome Address × List ℕ)
address_after_base labels translates base text (Some after) = do
  by ← offset_in labels after
  Some (address_of_offset (Post translates) base by.0, by.1)
address_after_base labels false base text None = Some (
  Ok
      (address_with_offset (Pre false) Up base (offset.Immediate 0)),
  text,
)
address_after_base labels true base text None = None

-- after `[Rn`: a comma, the offset, `]` (93), and `!` (33) where the address is written back
abbrev pub before_bracket : Lookup → ℕ → List ℕ → Option (ReadOutcome Address × List ℕ)
before_bracket labels base text = do
  rest ← comma text
  by ← offset_in labels rest
  after ← byte 93 by.1
  Some (address_of_offset (Pre (is_marked 33 after)) base by.0, after_mark 33 after)

abbrev pub unless_translated : {A : Type 0} → Bool → Option A → Option A
unless_translated false read = read
unless_translated true read = None

-- after `[Rn`
abbrev pub address_in_brackets : Lookup → Bool → ℕ → List ℕ → Option (List ℕ) →
    Option (ReadOutcome Address × List ℕ)
address_in_brackets labels translates base text (Some after) =
    address_after_base labels translates base after (comma after)
address_in_brackets labels translates base text None = unless_translated translates
    (before_bracket labels base text)

-- after `[`
unfoldable pub address_after_bracket : Lookup → Bool → List ℕ → Option (ReadOutcome Address × List ℕ)
address_after_bracket labels translates text = do
  rn ← register text
  address_in_brackets labels translates rn.0 rn.1 (byte 93 rn.1)

-- an address as an offset from the PC, which is 8 past the instruction
abbrev pub address_from_pc : ℕ → ℕ → ReadOutcome Address
address_from_pc pc target =
    if nat_le pc target && nat_le target (pc + 4095) then
    Ok (address_with_offset (Pre false) Up 15 (offset.Immediate (target - pc))) else (
    if nat_lt target pc && nat_le pc (target + 4095) then
    Ok (address_with_offset (Pre false) Down 15 (offset.Immediate (pc - target)))
    else Err OutOfReach)

abbrev pub reached_from : ℕ → Value → ReadOutcome Address
reached_from address None = Err UnknownLabel
reached_from address (Some target) = address_from_pc (address + 8) target

abbrev pub address_at_label : Lookup → ℕ → List ℕ → Option (ReadOutcome Address × List ℕ)
address_at_label labels address text = do
  target ← expression labels text
  Some (reached_from address target.0, target.1)

-- an address in brackets, or a label or any other expression, which T forbids
abbrev pub address_at : Lookup → ℕ → Bool → List ℕ → Option (List ℕ) → Option (ReadOutcome Address × List ℕ)
address_at labels address translates text (Some after) = address_after_bracket labels translates after
address_at labels address translates text None = unless_translated translates
    (address_at_label labels address text)

abbrev pub transfer_action : Bool → Bool → ℕ → ReadOutcome Address → ReadOutcome Action
transfer_action loading of_byte d (Ok place) =
    Ok (action.Transfer (record { loads = loading; is_byte = of_byte; rd = d; address = place }))
transfer_action loading of_byte d (Err reason) = Err reason

-- `Rd,` and the address, where 91 is `[`
unfoldable pub transfer_text_at : Lookup → ℕ → Bool → Bool → Bool → List ℕ →
    Option (ReadOutcome Action × List ℕ)
transfer_text_at labels address loading of_byte translates text = do
  rd ← register text
  rest ← comma rd.1
  place ← address_at labels address translates rest (byte 91 rest)
  Some (transfer_action loading of_byte rd.0 place.0, place.1)
