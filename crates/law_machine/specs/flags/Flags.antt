-- What an operation that adds or subtracts leaves, by the exact number that it stands for (ARM2
-- data sheet, "Data processing", "Condition codes").
use Rattle.std.specs.Prelude.{ℕ, ℤ, pos, negsuc, ◌≡◌, ◌↔◌, ◌⊎◌, ◌<◌, ◌-◌, ◌^◌, ◌≤ℤ◌, ◌<ℤ◌, ◌+ℤ◌, ◌-ℤ◌, true, false, IsTrue, Option, Some, None}
use Rattle.std.specs.Int.{from_bool}
use Rattle.arm_decode.specs.Sums.{signed_value_of}
use Rattle.arm_decode.specs.Ranges.{FitsOperand}
use Rattle.arm_decode.specs.Refusals.{is_test}
use Rattle.arm_decode.specs.declared.action.Operate.{Operate}
use Rattle.arm_decode.specs.declared.operation.Operation.{Operation}
use Rattle.arm_decode.specs.declared.operation.Operation.TheVariants as operation
use Rattle.arm_core.specs.declared.psr.Psr.{Psr}
use Rattle.arm_core.specs.Effect.{plain_operand}
use Rattle.arm_core.specs.Operand.{operand_of, words_ahead}
use Rattle.arm_core.specs.Operate.{state_after_operate}
use Rattle.arm_core.specs.State.{State, IsCore, register_of}

-- What an operation makes of two numbers x and y, and of C, which counts 1 where it is set: exactly,
-- whatever a word can hold. The logical operations make no number.
abbrev pub exact_result : Operation → ℤ → ℤ → ℤ → Option ℤ
exact_result operation.Add x y c = Some (x +ℤ y)
exact_result operation.CompareNegated x y c = Some (x +ℤ y)
exact_result operation.AddWithCarry x y c = Some (x +ℤ y +ℤ c)
exact_result operation.Subtract x y c = Some (x -ℤ y)
exact_result operation.Compare x y c = Some (x -ℤ y)
exact_result operation.SubtractWithCarry x y c = Some (x -ℤ y -ℤ pos 1 +ℤ c)
exact_result operation.ReverseSubtract x y c = Some (y -ℤ x)
exact_result operation.ReverseSubtractWithCarry x y c = Some (y -ℤ x -ℤ pos 1 +ℤ c)
exact_result other x y c = None

-- From which number on C is set: a sum carries from 2^32 on, a difference has borrowed nothing from
-- 0 on.
abbrev pub carry_begins : Operation → ℤ
carry_begins operation.Add = pos (2 ^ 32)
carry_begins operation.CompareNegated = pos (2 ^ 32)
carry_begins operation.AddWithCarry = pos (2 ^ 32)
carry_begins other = pos 0

-- a word is the number modulo 2^32, which is less than 2^32 away from it
abbrev pub IsWordOfNumber : ℤ → ℕ → Type 0
IsWordOfNumber z r = (z ≡ pos r) ⊎ ((z ≡ pos r +ℤ pos (2 ^ 32)) ⊎ (z ≡ pos r -ℤ pos (2 ^ 32)))

-- The result r and the flags p of an operation: `plain` is its exact number where the operands count
-- as they are, and `signed` where they count in two's complement.
pub record AreExactFlags (o : Operation) (plain signed : ℤ) (r : ℕ) (p : Psr) : Type 0 where
  pub word : r < 2 ^ 32
  pub result : IsWordOfNumber plain r
  pub negative : IsTrue p.negative ↔ (signed_value_of r <ℤ pos 0)
  pub zero : IsTrue p.zero ↔ (r ≡ 0)
  pub carry : IsTrue p.carry ↔ (carry_begins o ≤ℤ plain)
  pub overflow : IsTrue p.overflow ↔ ((signed <ℤ negsuc (2 ^ 31 - 1)) ⊎ (pos (2 ^ 31 - 1) <ℤ signed))

-- An operation that sets flags, and is neither a test of the form P nor one that changes the program
-- counter.
pub record SetsFlags (s : State) (o : Operate) : Type 0 where
  pub core : IsCore s
  pub operand : FitsOperand o.operand
  pub register : o.rd < 15
  pub flags : o.sets_flags ≡ true

-- It leaves the flags of its result, and in its register the result, unless it is a test.
pub record LeavesResult (s : State) (o : Operate) (plain signed : ℤ) : Type 0 where
  pub result : ℕ
  pub flags : AreExactFlags o.operation plain signed result (state_after_operate s o).psr
  pub register : is_test o.operation ≡ false → register_of (state_after_operate s o) o.rd ≡ result

abbrev pub FlagsAreExact : Type 0
FlagsAreExact = (s : State) (o : Operate) (plain signed : ℤ) → SetsFlags s o
    → (let x : ℕ = plain_operand s o.rn (words_ahead o.operand) in
    let y : ℕ = (operand_of s o.operand).value in
    let c : ℤ = pos (from_bool s.psr.carry) in
    exact_result o.operation (pos x) (pos y) c ≡ Some plain
    → exact_result o.operation (signed_value_of x) (signed_value_of y) c ≡ Some signed →
    LeavesResult s o plain signed)
