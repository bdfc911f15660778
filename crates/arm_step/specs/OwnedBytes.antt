-- No instruction writes to the bytes that the store calls keep their records in.
use Rattle.std.specs.Prelude.{◌≡◌, ◌<◌, ◌+◌, ◌%◌, ℕ, Bool, true, Ok}
use Rattle.address_map.specs.Bytes.{Bytes}
use Rattle.arm_core.specs.State.{State}
use Rattle.arm_step.specs.Step.{result_of_step}

-- The four bytes of a word are owned together.
abbrev pub IsByWords : (ℕ → Bool) → Type 0
IsByWords owned = (a k : ℕ) → a % 4 ≡ 0 → k < 4 → owned (a + k) ≡ owned a

pub record KeepsOwnedBytes (owned : ℕ → Bool) (old new : Bytes) : Type 0 where
  pub mapped : new.mapped ≡ old.mapped
  pub bytes : (a : ℕ) → owned a ≡ true → new.at a ≡ old.at a

abbrev pub StepKeeps : (ℕ → Bool) → State → Bytes → Type 0
StepKeeps owned s b = IsByWords owned → (t : State) (c : Bytes) → result_of_step owned s b ≡ Ok (t, c) →
    KeepsOwnedBytes owned b c
