-- What LDM and STM leave, but for the position of the core, of registers of the present mode.
use Rattle.std.specs.Prelude.{◌≡◌, ◌<◌, ◌+◌, ◌-◌, ◌%◌, ◌^◌, ℕ, Bool, true, false, List, length, map, None, Ok}
use Rattle.arm_step.specs.Bytes.{Bytes, word_start}
use Rattle.arm_core.specs.Listed.{registers_of_list}
use Rattle.arm_core.specs.State.{State, register_in}
use Rattle.arm_predecode.specs.OpValue.{OpValue}
use Rattle.arm_run.specs.Moved.{with_base_if}
use Rattle.arm_run.specs.Standing.{core_at}
use Rattle.arm_step.specs.Blocks.{with_loaded}
use Rattle.arm_step.specs.Words.{with_words, words_loaded, words_store_fault}

-- the base after a block of so many bytes
abbrev pub block_base_after : Bool → ℕ → ℕ → ℕ
block_base_after true base size = (base + size) % 2 ^ 32
block_base_after false base size = (2 ^ 32 + base - size) % 2 ^ 32

-- the lower of the base and the base after it
abbrev pub lower_base : Bool → ℕ → ℕ → ℕ
lower_base true base size = base
lower_base false base size = block_base_after false base size

-- the address of the first word
abbrev pub first_word : Bool → ℕ → ℕ → ℕ → ℕ
first_word is_up base size gap = word_start ((lower_base is_up base size + gap) % 2 ^ 32)

abbrev pub block_first : Bool → State → OpValue → ℕ
block_first is_up s r = first_word is_up (register_in s.psr.mode s r.rn) r.rs r.rm

abbrev pub with_block_base_after : Bool → Bool → State → OpValue → State
with_block_base_after is_up writes s r = with_base_if writes s r.rn
    (block_base_after is_up (register_in s.psr.mode s r.rn) r.rs)

-- LDM is done, and leads to a position. Registers are set once the core stands at the next word.
pub record IsBlockLoaded (b : Bytes) (s : State) (at : ℕ) (is_up writes : Bool) (r : OpValue) (s' : State)
    (next : ℕ) : Type 0 where
  pub small : register_in s.psr.mode s r.rn < 2 ^ 32
  pub words : List ℕ
  pub there : words_loaded b (block_first is_up s r) (length (registers_of_list r.value)) ≡ Ok words
  pub core : core_at s' next ≡ with_loaded s.psr.mode (core_at (with_block_base_after is_up writes s r)
      (at + 1))
      (registers_of_list r.value) words

-- STM is done
pub record IsBlockStored (owned : ℕ → Bool) (b : Bytes) (s : State) (is_up writes : Bool) (r : OpValue)
    (s' : State) (b' : Bytes) : Type 0 where
  pub small : register_in s.psr.mode s r.rn < 2 ^ 32
  pub free : words_store_fault owned b (block_first is_up s r) (length (registers_of_list r.value)) ≡ None
  pub bytes : b' ≡ with_words b (block_first is_up s r)
      (map (register_in s.psr.mode s) (registers_of_list r.value))
  pub core : s' ≡ with_block_base_after is_up writes s r
