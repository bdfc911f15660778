-- What a predecoded word does, shown by the parts that are kept of it alone: registers, value and
-- shift. Of the word itself only the number of a SWI is read. A position counts the words of the
-- address space, and all but its lowest 24 bits are left out.
use Rattle.std.specs.Prelude.{◌≡◌, ◌+◌, ◌*◌, ◌/◌, ◌%◌, ◌^◌, if◌then◌else◌, ℕ, Bool, true, false, length, map, Result, Ok, Err}
use Rattle.arm_core.specs.Outcome.{bind}
use Rattle.arm_core.specs.Word.{bit_of, field}
use Rattle.arm_step.specs.Shifted.{Shifted}
use Rattle.arm_step.specs.Bytes.{Bytes}
use Rattle.arm_core.specs.Indexing.{Indexing}
use Rattle.arm_core.specs.Condition.{Condition}
use Rattle.arm_core.specs.Operation.{Operation}
use Rattle.arm_core.specs.Shift.TheVariants as shift
use Rattle.arm_core.specs.Conditions.{condition_holds}
use Rattle.arm_core.specs.Effect.{with_status}
use Rattle.arm_core.specs.Listed.{registers_of_list}
use Rattle.arm_core.specs.Operand.{shifted_by_number, shifted_value, unshifted_value}
use Rattle.arm_core.specs.Psr.{psr_bits}
use Rattle.arm_core.specs.State.{IsCore, State, register_in, with_register}
use Rattle.arm_core.specs.declared.turn.StepEnd.{StepEnd}
use Rattle.arm_core.specs.declared.turn.StepEnd.TheVariants as turn
use Rattle.arm_step.specs.Blocks.{with_loaded}
use Rattle.arm_step.specs.Step.{or_fault, result_of_word}
use Rattle.arm_step.specs.Transfers.{value_loaded, value_stored}
use Rattle.arm_step.specs.Words.{words_loaded, words_stored}
use Rattle.arm_predecode.specs.OpValue.{OpValue}
use Rattle.arm_run.specs.Blocked.{block_first, with_block_base_after}
use Rattle.arm_run.specs.Moved.{address_reached, with_moved_base}
use Rattle.arm_run.specs.Operated.{product_of, state_after_operation}
use Rattle.arm_run.specs.Standing.{core_at}

-- what a step leaves, by the core, its position and memory
abbrev pub StepEffect : Type 0
StepEffect = (ℕ → Bool) → State → ℕ → Bytes → Result (State × Bytes) StepEnd

-- The word does this wherever it stands, whatever memory there is: the table of instructions, by
-- the fields of the word, leaves the same.
abbrev pub HasEffect : OpValue → StepEffect → Type 0
HasEffect r effect = (owned : ℕ → Bool) (s : State) (at : ℕ) (b : Bytes) → IsCore s →
    result_of_word owned (core_at s at) b r.word ≡ effect owned s at b

-- the core is changed so, and goes on at the next word
abbrev pub effect_on_core : (State → State) → StepEffect
effect_on_core change owned s at b = Ok (core_at (change s) (at + 1), b)

-- R0 to R14 of the present mode
abbrev pub register_read : State → ℕ → ℕ
register_read s n = register_in s.psr.mode s n

-- second operands
abbrev pub immediate_second : OpValue → State → Shifted
immediate_second r s = record {
  value = r.value;
  carry = if r.is_rotated then bit_of r.value 31 else s.psr.carry;
}

abbrev pub register_second : OpValue → State → Shifted
register_second r s = unshifted_value (register_read s r.rm) s.psr.carry

abbrev pub shifted_second : OpValue → State → Shifted
shifted_second r s = shifted_value r.shift (register_read s r.rm) r.value

abbrev pub operation_effect : Operation → Bool → OpValue → (State → Shifted) → StepEffect
operation_effect op sets r second = effect_on_core (λ s. state_after_operation s op sets r (second s))

-- MUL, or MLA. Of these two words rn is the register of the product, as their bits are laid out.
abbrev pub product_effect : Bool → OpValue → StepEffect
product_effect adds r = effect_on_core (λ s. with_register s r.rn
    (product_of adds (register_read s r.rm) (register_read s r.rs) (register_read s r.rd)))

abbrev pub branch_effect : Condition → OpValue → StepEffect
branch_effect c r owned s at b = Ok (core_at s (if condition_holds c s.psr then at + r.value else at + 1), b)

-- R14 takes the status and the address of the next word
abbrev pub link_effect : OpValue → StepEffect
link_effect r owned s at b =
    Ok (core_at (with_register s 14 (psr_bits s.psr + (at + 1) % 2 ^ 24 * 4)) (at + r.value), b)

-- MOV to R15, with the status or without
abbrev pub jump_effect : Bool → OpValue → StepEffect
jump_effect sets r owned s at b = Ok (
  core_at (if sets then with_status s (register_read s r.rm) else s) (register_read s r.rm / 4),
  b,
)

abbrev pub swi_effect : OpValue → StepEffect
swi_effect r owned s at b = Err (turn.Swi (field r.word 0 24))

-- A transfer is a fault, or done; the base is written before the register that is loaded.
abbrev pub load_effect : Bool → Indexing → (State → ℕ) → OpValue → StepEffect
load_effect is_byte way added r owned s at b =
    or_fault (bind (value_loaded b is_byte (address_reached way s r (added s)))
    (λ v. Ok (core_at (with_register (with_moved_base way s r (added s)) r.rd v) (at + 1), b)))

abbrev pub store_effect : Bool → Indexing → (State → ℕ) → OpValue → StepEffect
store_effect is_byte way added r owned s at b =
    or_fault (bind (value_stored owned b is_byte (address_reached way s r (added s)) (register_read s r.rd))
    (λ c. Ok (core_at (with_moved_base way s r (added s)) (at + 1), c)))

-- whichever it is
abbrev pub transfer_effect : Bool → Bool → Indexing → (State → ℕ) → OpValue → StepEffect
transfer_effect true is_byte way added r = load_effect is_byte way added r
transfer_effect false is_byte way added r = store_effect is_byte way added r

-- offsets
abbrev pub number_added : OpValue → State → ℕ
number_added r s = r.value

abbrev pub register_added : OpValue → State → ℕ
register_added r s = (shifted_by_number shift.LogicalLeft (register_read s r.rm) r.value s.psr.carry).value

-- LDR from beside R15, which is two words ahead
abbrev pub beside_effect : OpValue → StepEffect
beside_effect r owned s at b =
    or_fault (bind (value_loaded b false (((at + 2) % 2 ^ 24 * 4 + r.value) % 2 ^ 32))
    (λ v. Ok (core_at (with_register s r.rd v) (at + 1), b)))

-- LDM or STM up or down, with the base written back or not. R15, where it is loaded, is set once
-- the core stands at the next word.
abbrev pub block_load_effect : Bool → Bool → OpValue → StepEffect
block_load_effect is_up writes r owned s at b =
    or_fault (bind (words_loaded b (block_first is_up s r) (length (registers_of_list r.value)))
    (λ ws. Ok (
      with_loaded s.psr.mode (core_at (with_block_base_after is_up writes s r) (at + 1))
          (registers_of_list r.value) ws,
      b,
    )))

abbrev pub block_store_effect : Bool → Bool → OpValue → StepEffect
block_store_effect is_up writes r owned s at b =
    or_fault (bind (words_stored owned b (block_first is_up s r)
    (map (register_read s) (registers_of_list r.value)))
    (λ c. Ok (core_at (with_block_base_after is_up writes s r) (at + 1), c)))
