-- What STM puts away LDM brings back: STM with write-back and without S, then LDM by the opposite way of counting with the same list and
-- base, whatever the listed registers became in between.
use Rattle.std.specs.Prelude.{◌≡◌, ◌<◌, ◌⊎◌, ℕ, Bool, true, false, Ok}
use Rattle.arm_core.specs.Word.{bit_of}
use Rattle.address_map.specs.Bytes.{Bytes}
use Rattle.arm_decode.specs.declared.action.Action.TheVariants as action
use Rattle.arm_decode.specs.declared.action.BlockTransfer.{BlockTransfer}
use Rattle.arm_decode.specs.declared.address.BlockMode.{BlockMode}
use Rattle.arm_decode.specs.declared.address.BlockMode.TheVariants.{DecrementAfter, IncrementAfter, DecrementBefore, IncrementBefore}
use Rattle.arm_core.specs.State.{State, IsCore, register_in}
use Rattle.arm_step.specs.Step.{result_of_action}

-- STM with `!` and without S, whose list has neither its base nor R15.
pub record PutsAway (t : BlockTransfer) : Type 0 where
  pub stores : t.loads ≡ false
  pub moves_base : t.writes_back ≡ true
  pub plain : t.psr_or_user ≡ false
  pub base : t.rn < 15
  pub apart : bit_of t.list t.rn ≡ false
  pub without_pc : bit_of t.list 15 ≡ false

abbrev pub opposite : BlockMode → BlockMode
opposite IncrementAfter = DecrementBefore
opposite IncrementBefore = DecrementAfter
opposite DecrementAfter = IncrementBefore
opposite DecrementBefore = IncrementAfter

abbrev pub brought_back : BlockTransfer → BlockTransfer
brought_back t = record t { loads = true; mode = opposite t.mode }

abbrev pub ComesBack : Type 0
ComesBack = (owned : ℕ → Bool) (t : BlockTransfer) (s out back end : State) (b c d : Bytes) → PutsAway t →
    IsCore s → IsCore back →
    result_of_action owned s b (action.BlockTransfer t) ≡ Ok (out, c) →
    back.psr.mode ≡ s.psr.mode → register_in s.psr.mode back t.rn ≡ register_in s.psr.mode out t.rn →
    result_of_action owned back c (action.BlockTransfer (brought_back t)) ≡ Ok (end, d) →
    (n : ℕ) → n < 15 → (n ≡ t.rn) ⊎ (bit_of t.list n ≡ true) →
    register_in s.psr.mode end n ≡ register_in s.psr.mode s n
