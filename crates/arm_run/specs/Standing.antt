-- The core while a run keeps its position beside it: a number of words, of which all but the lowest 24 bits are left out.
use Rattle.std.specs.Prelude.{◌≡◌, ◌≢◌, ◌+◌, ◌*◌, ◌%◌, ◌^◌, ℕ, Bool, Option, Some, None, Ok}
use Rattle.arm_step.specs.Bytes.{Bytes}
use Rattle.arm_core.specs.State.{State}
use Rattle.arm_core.specs.declared.turn.StepEnd.{StepEnd}
use Rattle.arm_core.specs.declared.turn.StepEnd.TheVariants.{Done}
use Rattle.arm_step.specs.Step.{result_of_word, result_of_step}
use Rattle.arm_step.specs.Turns.{Turns}

-- the core at a position
abbrev pub core_at : State → ℕ → State
core_at s at = record s { pc = at % 2 ^ 24 * 4 }

-- A word at a position leads the core so to the next: whatever memory there is, it changes none of it.
abbrev pub LeadsTo : State → ℕ → ℕ → State → ℕ → Type 0
LeadsTo s at w s' next = (owned : ℕ → Bool) (b : Bytes) →
    result_of_word owned (core_at s at) b w ≡ Ok (core_at s' next, b)

-- A word leads the core so to the next word, wherever it stands.
abbrev pub LeadsOn : State → ℕ → State → Type 0
LeadsOn s w s' = (at : ℕ) → LeadsTo s at w s' (at + 1)

-- the word at a position is this one
abbrev pub IsFetched : Bytes → ℕ → ℕ → Type 0
IsFetched b at w = (owned : ℕ → Bool) (s : State) →
    result_of_step owned (core_at s at) b ≡ result_of_word owned (core_at s at) b w

-- another turn than that of an instruction that is done comes next
pub record Refuses (owned : ℕ → Bool) (s : State) (b : Bytes) : Type 0 where
  pub turn : StepEnd
  pub other : turn ≢ Done
  pub comes : Turns (s, b) (result_of_step owned s b) turn (s, b)

-- A step is done and leads on, or else another turn comes, and nothing is changed.
abbrev pub Acts : (ℕ → Bool) → State → ℕ → Bytes → Option ℕ → State → Bytes → Type 0
Acts owned s at b (Some next) s' b' =
    Turns (core_at s at, b) (result_of_step owned (core_at s at) b) Done (core_at s' next, b')
Acts owned s at b None s' b' = (core_at s' at ≡ core_at s at) × (b' ≡ b) × Refuses owned (core_at s at) b
