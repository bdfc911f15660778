-- What the definitions of this crate must satisfy beside being the table: laws that go another way than the table does.
use Rattle.std.specs.Prelude.{◌≡◌, ◌↔◌, ◌≤◌, ◌<◌, ◌≤ℤ◌, ◌<ℤ◌, ◌+◌, ◌-◌, ◌*◌, ◌^◌, ◌==◌, ℕ, zero, suc, Bool, true, false, not, IsTrue}
use Rattle.std.specs.Int.{bit_not, w32}
use Rattle.arm_decode.specs.Sums.{signed_value_of}
use Rattle.arm_decode.specs.declared.shifted.Shifted.{Shifted}
use Rattle.arm_decode.specs.Names.{condition_of}
use Rattle.arm_decode.specs.Ranges.{FitsOperand}
use Rattle.arm_decode.specs.declared.action.Operate.{Operate}
use Rattle.arm_decode.specs.declared.condition.Condition.TheVariants as condition
use Rattle.arm_decode.specs.declared.operation.Operation.TheVariants as operation
use Rattle.arm_decode.specs.declared.shift.Shift.TheVariants as shift
use Rattle.arm_core.specs.declared.psr.Psr.{Psr}
use Rattle.arm_core.specs.Conditions.{condition_holds}
use Rattle.arm_core.specs.Effect.{plain_operand}
use Rattle.arm_core.specs.Operand.{operand_of, shifted_value, shifted_by_number, words_ahead, unshifted_value}
use Rattle.arm_core.specs.Operate.{sum_of_operation, state_after_operate}
use Rattle.arm_core.specs.State.{State, IsCore}

-- Of the conditions 2k and 2k + 1 exactly one holds.
abbrev pub PairsDiffer : Type 0
PairsDiffer = (k : ℕ) (p : Psr) → k < 8 → condition_holds (condition_of (2 * k)) p
    ≡ not (condition_holds (condition_of (2 * k + 1)) p)

-- What the conditions say of two words that were compared, first as numbers, then as signed numbers.
pub record ShowsOrder (p : Psr) (x y : ℕ) : Type 0 where
  pub equal : IsTrue (condition_holds condition.Equal p) ↔ (x ≡ y)
  pub at_least : IsTrue (condition_holds condition.CarrySet p) ↔ (y ≤ x)
  pub below : IsTrue (condition_holds condition.CarryClear p) ↔ (x < y)
  pub above : IsTrue (condition_holds condition.Higher p) ↔ (y < x)
  pub at_most : IsTrue (condition_holds condition.LowerOrSame p) ↔ (x ≤ y)
  pub signed_at_least : IsTrue (condition_holds condition.GreaterOrEqual p) ↔
      (signed_value_of y ≤ℤ signed_value_of x)
  pub signed_below : IsTrue (condition_holds condition.LessThan p) ↔ (signed_value_of x <ℤ signed_value_of y)
  pub signed_above : IsTrue (condition_holds condition.GreaterThan p) ↔
      (signed_value_of y <ℤ signed_value_of x)
  pub signed_at_most : IsTrue (condition_holds condition.LessOrEqual p) ↔
      (signed_value_of x ≤ℤ signed_value_of y)

-- After CMP that is not of the form P the conditions show the order of its two operands.
abbrev pub CompareShows : Type 0
CompareShows = (s : State) (o : Operate) → IsCore s → FitsOperand o.operand →
    o.operation ≡ operation.Compare → o.rd == 15 ≡ false →
    ShowsOrder (state_after_operate s o).psr (plain_operand s o.rn (words_ahead o.operand))
    (operand_of s o.operand).value

-- SUB is ADC with the second operand complemented and C set, SBC with C as it is: results and flags.
abbrev pub complement_of_shifted : Shifted → Shifted
complement_of_shifted y = record { value = bit_not w32 y.value; carry = y.carry }

abbrev pub SubtractsByAdding : Type 0
SubtractsByAdding = (x : ℕ) (y : Shifted) (p : Psr) → x < 2 ^ 32 → y.value < 2 ^ 32 →
    sum_of_operation operation.Subtract x y p ≡ sum_of_operation operation.AddWithCarry x
    (complement_of_shifted y) (record p { carry = true })

abbrev pub SubtractsCarryByAdding : Type 0
SubtractsCarryByAdding = (x : ℕ) (y : Shifted) (p : Psr) → x < 2 ^ 32 → y.value < 2 ^ 32 →
    sum_of_operation operation.SubtractWithCarry x y p ≡ sum_of_operation operation.AddWithCarry x
    (complement_of_shifted y) p

-- ROR by 1 to 31 is LSR by as much plus LSL by the rest of 32.
abbrev pub RotatesByShifting : Type 0
RotatesByShifting = (x n : ℕ) → x < 2 ^ 32 → 1 ≤ n → n < 32 →
    (shifted_value shift.RotateRight x n).value
    ≡ (shifted_value shift.LogicalRight x n).value + (shifted_value shift.LogicalLeft x (32 - n)).value

-- RRX moves 33 bits round, so 33 turns give value and C back.
unfoldable pub turned_times : ℕ → Shifted → Shifted
turned_times zero s = s
turned_times (suc n) s = turned_times n (shifted_by_number shift.RotateRight s.value 0 s.carry)

abbrev pub TurnsRound : Type 0
TurnsRound = (v : ℕ) (c : Bool) → v < 2 ^ 32 → turned_times 33 (unshifted_value v c) ≡ unshifted_value v c
