-- Steps one after another, each an instruction that is done, none of which begins on a break but the first.
use Rattle.std.specs.Prelude.{◌≡◌, ◌<◌, ◌⊎◌, ℕ, zero, suc, Bool, true, false, List, Result, Ok, Err}
use Rattle.arm_core.specs.Stop.{Stop}
use Rattle.arm_core.specs.Stop.TheVariants as stop
use Rattle.arm_core.specs.declared.turn.StepEnd.{StepEnd}
use Rattle.arm_step.specs.Bytes.{Bytes}
use Rattle.arm_core.specs.State.{State}
use Rattle.arm_core.specs.declared.turn.StepEnd.TheVariants.{Done}
use Rattle.arm_step.specs.Step.{result_of_step}
use Rattle.arm_step.specs.Turns.{Turns}
use Rattle.arm_core.specs.breaks.Breaks.{is_among}

-- `n` steps and one more, from where they led
pub record IsOneMore (owned : ℕ → Bool) (breaks : List ℕ) (n : ℕ) (middle new : State × Bytes) : Type 0 where
  pub unbroken : (n ≡ 0) ⊎ (is_among breaks middle.0.pc ≡ false)
  pub step : Turns middle (result_of_step owned middle.0 middle.1) Done new

unfoldable pub AreDone : (ℕ → Bool) → List ℕ → ℕ → State × Bytes → State × Bytes → Type 0
AreDone owned breaks zero old new = new ≡ old
AreDone owned breaks (suc n) old new =
    (middle : State × Bytes) × (AreDone owned breaks n old middle × IsOneMore owned breaks n middle new)

-- Why so many steps ended at a program counter: it is a break, or else it is none, unless there was no step.
abbrev pub StopsBy : List ℕ → ℕ → ℕ → Result StepEnd Stop → Type 0
StopsBy breaks n pc (Ok turn) = (n ≡ 0) ⊎ (is_among breaks pc ≡ false)
StopsBy breaks n pc (Err stop.Budget) = (n ≡ 0) ⊎ (is_among breaks pc ≡ false)
StopsBy breaks n pc (Err (stop.Break at)) = (0 < n) × (at ≡ pc) × (is_among breaks pc ≡ true)
StopsBy breaks n pc (Err other) = ⊥
