-- Positions as program counters, and the steps that are taken there by the way that is right for every word.
use Rattle.std.proofs.Common.{◌≡◌, ◌≢◌, ◌<◌, ◌+◌, ◌*◌, ◌/◌, ◌%◌, ◌^◌, ℕ, Bool, Result, Ok, Err, sym, ◌∙◌, ap, subst, arith}
use Rattle.arm_step.specs.Bytes.{Bytes}
use Rattle.arm_core.specs.State.{State, with_pc}
use Rattle.arm_core.specs.Effect.{with_next_pc}
use Rattle.arm_core.specs.declared.turn.StepEnd.{StepEnd}
use Rattle.arm_core.specs.declared.turn.StepEnd.TheVariants as turn
use Rattle.arm_step.specs.Step.{result_of_step}
use Rattle.arm_step.specs.Turns.{Turns}
use Rattle.arm_run.specs.Standing.{core_at, Refuses}

pub with_counter : (s : State) (p q : ℕ) → p ≡ q → (let t : State = record s { pc = p } in let u : State = record s { pc = q } in t ≡ u)
with_counter s p q e = ap (λ (x : ℕ). let t : State = record s { pc = x } in t) e

pub stands : (s : State) (at : ℕ) → with_pc s (at % 2 ^ 24 * 4) ≡ core_at s at
stands s at = with_counter s _ _ (omega arith)

pub stands_there : (s : State) (pc : ℕ) → pc ≡ s.pc → pc < 2 ^ 26 → pc % 4 ≡ 0 → core_at s (pc / 4) ≡ s
stands_there s pc e below aligned = let same : pc / 4 % 2 ^ 24 * 4 ≡ s.pc = omega arith in with_counter s _ _ same

pub next_position : (s : State) (at : ℕ) → with_next_pc (core_at s at) ≡ core_at s (at + 1)
next_position s at = with_counter s _ _ (omega arith)

pub done_slowly : (owned : ℕ → Bool) (s t s' : State) (at next : ℕ) (b b' : Bytes) (u : StepEnd) → t ≡ core_at s at → u ≡ turn.Done → core_at s' next ≡ s'
    → Turns (t, b) (result_of_step owned t b) u (s', b') → (let d : StepEnd = turn.Done in Turns (core_at s at, b) (result_of_step owned (core_at s at) b) d (core_at s' next, b'))
done_slowly owned s t s' at next b b' u stood is there h =
    subst (λ (x : State). Turns (core_at s at, b) (result_of_step owned (core_at s at) b) turn.Done (x, b')) (sym there)
    (subst (λ (x : StepEnd). Turns (core_at s at, b) (result_of_step owned (core_at s at) b) x (s', b')) is
    (subst (λ (x : State). Turns (x, b) (result_of_step owned x b) u (s', b')) stood h))

stays_by : (r : Result (State × Bytes) StepEnd) (old new : State × Bytes) (u : StepEnd) → u ≢ turn.Done → Turns old r u new → new ≡ old
stays_by (Ok v) old new u other h = absurd (other h.0)
stays_by (Err e) old new u other h = h.1

pub other_slowly : (owned : ℕ → Bool) (s t s' : State) (at : ℕ) (b b' : Bytes) (u : StepEnd) → t ≡ core_at s at → u ≢ turn.Done
    → Turns (t, b) (result_of_step owned t b) u (s', b') → (core_at s' at ≡ core_at s at) × (b' ≡ b) × Refuses owned (core_at s at) b
other_slowly owned s t s' at b b' u stood other h =
    let same : (s', b') ≡ (t, b) = stays_by (result_of_step owned t b) (t, b) (s', b') u other h in
    let core : s' ≡ core_at s at = ap (λ (w : State × Bytes). w.0) same ∙ stood in (
      ap (λ (x : State). core_at x at) core,
      ap (λ (w : State × Bytes). w.1) same,
      record {
        turn = u;
        other = other;
        comes = subst (λ (x : State). Turns (x, b) (result_of_step owned x b) u (x, b)) stood
            (subst (λ (w : State × Bytes). Turns (t, b) (result_of_step owned t b) u w) same h);
      },
    )
