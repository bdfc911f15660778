-- Where the words of LDM and STM lie, in the words of the table (ARM2 data sheet, "Block data transfer"): beside the base, and in the order of
-- their registers.
use Rattle.std.specs.Prelude.{ℕ, Bool, true, false, ◌≡◌, ◌≤◌, ◌<◌, ◌+◌, ◌-◌, ◌*◌, ◌%◌, ◌^◌, length, map, Ok}
use Rattle.arm_core.specs.Word.{bit_of}
use Rattle.address_map.specs.Bytes.{Bytes, word_at}
use Rattle.arm_decode.specs.declared.action.Action.TheVariants as action
use Rattle.arm_decode.specs.declared.action.BlockTransfer.{BlockTransfer}
use Rattle.arm_decode.specs.declared.address.BlockMode.{BlockMode}
use Rattle.arm_decode.specs.declared.address.BlockMode.TheVariants.{DecrementAfter, IncrementAfter, DecrementBefore, IncrementBefore}
use Rattle.arm_core.specs.Listed.{listed_below, registers_of_list}
use Rattle.arm_step.specs.Blocks.{lowest, transferred_count, block_start, bank_of, block_value}
use Rattle.arm_core.specs.State.{State, IsCore, register_in}
use Rattle.arm_step.specs.Step.{result_of_action}
use Rattle.arm_step.specs.Words.{memory_words_at}

-- the address of the last of n words
abbrev pub highest : BlockMode → ℕ → ℕ → ℕ
highest mode base n = lowest mode base n + 4 * (n - 1)

-- IA begins at the base, IB 4 above it; DA ends at the base, DB 4 below it.
pub record LiesByBase (base n : ℕ) : Type 0 where
  pub increment_after : lowest IncrementAfter base n ≡ base
  pub increment_before : lowest IncrementBefore base n ≡ (base + 4) % 2 ^ 32
  pub decrement_after : highest DecrementAfter base n % 2 ^ 32 ≡ base
  pub decrement_before : (highest DecrementBefore base n + 4) % 2 ^ 32 ≡ base

abbrev pub BlocksLieByBase : Type 0
BlocksLieByBase = (base n : ℕ) → base < 2 ^ 32 → 1 ≤ n → n ≤ 16 → LiesByBase base n

-- where the word of a listed register lies: above one word for each lower register of the list
abbrev pub word_place_of : State → BlockTransfer → ℕ → ℕ
word_place_of s t r = block_start s t + 4 * length (listed_below r t.list)

abbrev pub LoadsInOrder : Type 0
LoadsInOrder = (owned : ℕ → Bool) (t : BlockTransfer) (s end : State) (b c : Bytes) → IsCore s →
    t.loads ≡ true →
    result_of_action owned s b (action.BlockTransfer t) ≡ Ok (end, c) →
    (r : ℕ) → r < 15 → bit_of t.list r ≡ true → register_in (bank_of s t) end r
    ≡ word_at b.at (word_place_of s t r)

abbrev pub StoresInOrder : Type 0
StoresInOrder = (owned : ℕ → Bool) (t : BlockTransfer) (s end : State) (b c : Bytes) → IsCore s →
    t.loads ≡ false →
    result_of_action owned s b (action.BlockTransfer t) ≡ Ok (end, c) →
    memory_words_at c (block_start s t) (transferred_count t)
    ≡ map (block_value s t) (registers_of_list t.list)
