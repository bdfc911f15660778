-- The operands of data processing and of multiplication (ARM2 data sheet, "Data processing",
-- "Multiply and multiply-accumulate", "Assembler syntax").
use Rattle.std.specs.Prelude.{ℕ, Bool, true, false, List, Option, Some, Ok, Err, if◌then◌else◌}
use Rattle.arm_decode.specs.Refusals.{is_test, is_move}
use Rattle.arm_decode.specs.declared.action.Action.{Action}
use Rattle.arm_decode.specs.declared.action.Action.TheVariants as action
use Rattle.arm_decode.specs.declared.action.Operate.{Operate}
use Rattle.arm_decode.specs.declared.operand.Operand.{Operand}
use Rattle.arm_decode.specs.declared.operation.Operation.{Operation}
use Rattle.assembler_text.specs.naming.Expressions.{Lookup}
use Rattle.assembler_text.specs.naming.Names.{register}
use Rattle.assembler_text.specs.naming.Words.{comma, ◌>>=◌}
use Rattle.assembler_reading.specs.Operands.{ReadOutcome, second_operand}

-- the operation, whether it sets the flags, Rn and Rd
abbrev pub operating : Operation → Bool → ℕ → ℕ → Operand → Operate
operating what sets n d second = record {
  operation = what;
  sets_flags = sets;
  rn = n;
  rd = d;
  operand = second;
}

abbrev pub operate_action : Operation → Bool → ℕ → ℕ → ReadOutcome Operand → ReadOutcome Action
operate_action what sets n d (Ok second) = Ok (action.Operate (operating what sets n d second))
operate_action what sets n d (Err reason) = Err reason

-- the second operand, after the registers
abbrev pub operate_with : Lookup → Operation → Bool → ℕ → ℕ → List ℕ → Option (ReadOutcome Action × List ℕ)
operate_with labels what sets n d text = do
  second ← second_operand labels text
  Some (operate_action what sets n d second.0, second.1)

-- `Rn,` and the second operand, after `Rd,`
abbrev pub operate_on : Lookup → Operation → Bool → ℕ → List ℕ → Option (ReadOutcome Action × List ℕ)
operate_on labels what sets d text = do
  rn ← register text
  rest ← comma rn.1
  operate_with labels what sets rn.0 d rest

-- After the first register: of a test that is Rn, and P means an Rd field of 15; of a move it is
-- Rd, and there is no Rn.
abbrev pub operate_behind : Lookup → Operation → Bool → ℕ → List ℕ → Option (ReadOutcome Action × List ℕ)
operate_behind labels what flag first text =
    if is_test what then operate_with labels what true first (if flag then 15 else 0) text else (
    if is_move what then operate_with labels what flag 0 first text
    else operate_on labels what flag first text)

-- `Rd,Rn,op2`; of a test `Rn,op2`; of a move `Rd,op2`
unfoldable pub operate_at : Lookup → Operation → Bool → List ℕ → Option (ReadOutcome Action × List ℕ)
operate_at labels what flag text = do
  first ← register text
  rest ← comma first.1
  operate_behind labels what flag first.0 rest

-- `,Rn` of MLA; MUL has no Rn
abbrev pub added_register : Bool → List ℕ → Option (ℕ × List ℕ)
added_register false text = Some (0, text)
added_register true text = do
  rest ← comma text
  register rest

abbrev pub multiply_action : Bool → Bool → ℕ → ℕ → ℕ → ℕ → Action
multiply_action adds sets d n s m =
    action.Multiply (record { accumulates = adds; sets_flags = sets; rd = d; rn = n; rs = s; rm = m })

-- `Rd,Rm,Rs`, and of MLA `,Rn`
unfoldable pub multiply_at : Bool → Bool → List ℕ → Option (ReadOutcome Action × List ℕ)
multiply_at adds sets text = do
  rd ← register text
  behind_rd ← comma rd.1
  rm ← register behind_rd
  behind_rm ← comma rm.1
  rs ← register behind_rm
  rn ← added_register adds rs.1
  Some (Ok (multiply_action adds sets rd.0 rn.0 rs.0 rm.0), rn.1)
