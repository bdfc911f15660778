-- LDM and STM (ARM2 data sheet, "Block data transfer"). Which base is stored, and that a fault moves nothing, are this project's choice.
use Rattle.std.specs.Prelude.{ℕ, Bool, not, ◌&&◌, ◌+◌, ◌-◌, ◌*◌, ◌%◌, ◌^◌, ◌==◌, if◌then◌else◌, List, [], ◌∷◌, length, map, slice_get, Option, Some, None, Result, Ok}
use Rattle.address_map.specs.Outcome.{bind}
use Rattle.arm_core.specs.Word.{bit_of}
use Rattle.arm_core.specs.Fault.{Fault}
use Rattle.address_map.specs.Bytes.{Bytes, word_start}
use Rattle.arm_decode.specs.declared.action.BlockTransfer.{BlockTransfer}
use Rattle.arm_decode.specs.declared.address.BlockMode.{BlockMode}
use Rattle.arm_decode.specs.declared.address.BlockMode.TheVariants.{DecrementAfter, IncrementAfter, DecrementBefore, IncrementBefore}
use Rattle.arm_core.specs.declared.psr.Mode.{Mode}
use Rattle.arm_core.specs.declared.psr.Mode.TheVariants.{User}
use Rattle.arm_core.specs.Listed.{registers_of_list}
use Rattle.arm_core.specs.State.{State}
use Rattle.arm_core.specs.Effect.{with_next_pc, plain_operand, status_operand, with_result, with_result_in, with_status}
use Rattle.arm_step.specs.Words.{words_loaded, words_stored}

-- The lowest address, with the base and the number of registers; its bits 1 and 0 are ignored.
abbrev pub lowest : BlockMode → ℕ → ℕ → ℕ
lowest IncrementAfter base n = base
lowest IncrementBefore base n = (base + 4) % 2 ^ 32
lowest DecrementAfter base n = (2 ^ 32 + base + 4 - 4 * n) % 2 ^ 32
lowest DecrementBefore base n = (2 ^ 32 + base - 4 * n) % 2 ^ 32

-- The base that is written back.
abbrev pub stepped_base : BlockMode → ℕ → ℕ → ℕ
stepped_base IncrementAfter base n = (base + 4 * n) % 2 ^ 32
stepped_base IncrementBefore base n = (base + 4 * n) % 2 ^ 32
stepped_base DecrementAfter base n = (2 ^ 32 + base - 4 * n) % 2 ^ 32
stepped_base DecrementBefore base n = (2 ^ 32 + base - 4 * n) % 2 ^ 32

abbrev pub transferred_count : BlockTransfer → ℕ
transferred_count t = length (registers_of_list t.list)

abbrev pub block_start : State → BlockTransfer → ℕ
block_start s t = word_start (lowest t.mode (plain_operand s t.rn 2) (transferred_count t))

abbrev pub block_base : State → BlockTransfer → ℕ
block_base s t = stepped_base t.mode (plain_operand s t.rn 2) (transferred_count t)

-- S in LDM with R15 loads the status; else it means the registers of the user bank.
abbrev pub loads_status : BlockTransfer → Bool
loads_status t = t.psr_or_user && (t.loads && bit_of t.list 15)

abbrev pub bank_of : State → BlockTransfer → Mode
bank_of s t = if t.psr_or_user && not (loads_status t) then User else s.psr.mode

abbrev pub with_block_base : State → BlockTransfer → ℕ → State
with_block_base s t base = if t.writes_back then with_result s t.rn base else s

-- The words of a load placed in the registers of a list, one by one.
unfoldable pub with_loaded : Mode → State → List ℕ → List ℕ → State
with_loaded m s [] ws = s
with_loaded m s (r ∷ rs) [] = s
with_loaded m s (r ∷ rs) (w ∷ ws) = with_loaded m (with_result_in m s r w) rs ws

-- R15 is the last of the list, so its word is the last.
abbrev pub with_status_if : State → Option ℕ → State
with_status_if s None = s
with_status_if s (Some w) = with_status s w

abbrev pub with_block_status : State → BlockTransfer → List ℕ → State
with_block_status s t ws = if loads_status t then with_status_if s (slice_get ws (length ws - 1)) else s

-- The base is written first, so a loaded base wins.
abbrev pub block_loaded : State → Bytes → BlockTransfer → Result (State × Bytes) Fault
block_loaded s b t =
    bind (words_loaded b (block_start s t) (transferred_count t))
    (λ ws. Ok (
      with_block_status (with_loaded (bank_of s t)
          (with_block_base (with_next_pc s) t (block_base s t)) (registers_of_list t.list) ws) t ws,
      b,
    ))

-- A base that is written back is stored as it was where no lower register is listed, and else as it will be.
abbrev pub stores_new_base : BlockTransfer → Bool
stores_new_base t = t.writes_back && not (t.list % 2 ^ t.rn == 0)

-- R15 is stored three words ahead with the status.
abbrev pub block_value : State → BlockTransfer → ℕ → ℕ
block_value s t r = if stores_new_base t && r == t.rn then block_base s t
    else status_operand (bank_of s t) s r 3

abbrev pub block_values : State → BlockTransfer → List ℕ
block_values s t = map (block_value s t) (registers_of_list t.list)

abbrev pub block_stored : (ℕ → Bool) → State → Bytes → BlockTransfer → Result (State × Bytes) Fault
block_stored owned s b t =
    bind (words_stored owned b (block_start s t) (block_values s t))
    (λ c. Ok (with_block_base (with_next_pc s) t (block_base s t), c))

unfoldable pub result_of_block_transfer : (ℕ → Bool) → State → Bytes → BlockTransfer →
    Result (State × Bytes) Fault
result_of_block_transfer owned s b t = if t.loads then block_loaded s b t else block_stored owned s b t
