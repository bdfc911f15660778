-- What is fetched at a position.
use Rattle.std.proofs.Common.{◌≡◌, ◌≢◌, ◌<◌, ◌*◌, ◌%◌, ◌^◌, ℕ, Bool, false, nat_eq, Result, Ok, Err, refl, sym, ◌∙◌, ap, arith, if◌then◌else◌}
use Rattle.std.proofs.lemmas.Bool.Decides.{nat_tests}
use Rattle.arm_core.specs.Fault.{Fault}
use Rattle.arm_step.specs.Bytes.{Bytes, word_loaded}
use Rattle.arm_core.specs.State.{State}
use Rattle.arm_core.specs.declared.turn.StepEnd.{StepEnd}
use Rattle.arm_core.specs.declared.turn.StepEnd.TheVariants as turn
use Rattle.arm_step.specs.Step.{executed_if_fetched, result_of_step}
use Rattle.arm_run.specs.Standing.{core_at, IsFetched}

counter : (at : ℕ) → at < 2 ^ 24 → at % 2 ^ 24 * 4 ≡ at * 4
counter at h = omega arith

no_gate : (at : ℕ) → at < 2 ^ 24 → at * 4 ≢ 0x03800000 → nat_eq (at % 2 ^ 24 * 4) 0x03800000 ≡ false
no_gate at h e = grind (arith, nat_tests)

abbrev at_gate : (ℕ → Bool) → State → Bytes → Bool → Result (State × Bytes) StepEnd
at_gate owned t b gate = if gate then Err turn.Gate else executed_if_fetched owned t b (word_loaded b t.pc)

loaded_there : (b : Bytes) (at : ℕ) (r : Result ℕ Fault) → at < 2 ^ 24 → r ≡ word_loaded b (at * 4) → word_loaded b (at % 2 ^ 24 * 4) ≡ r
loaded_there b at r h e = ap (word_loaded b) (counter at h) ∙ sym e

pub fetches : (at w : ℕ) (b : Bytes) (r : Result ℕ Fault) → at < 2 ^ 24 → at * 4 ≢ 0x03800000 → r ≡ word_loaded b (at * 4) → r ≡ Ok w → IsFetched b at w
unfolding result_of_step
fetches at w b r h other e is owned s =
    ap (at_gate owned (core_at s at) b) (no_gate at h other) ∙ ap (executed_if_fetched owned (core_at s at) b) (loaded_there b at r h e ∙ is)

pub fetched_by : (b : Bytes) (at w : ℕ) → at < 2 ^ 24 → word_loaded b (at * 4) ≡ Ok w → at * 4 ≢ 0x03800000 → IsFetched b at w
fetched_by b at w h e other = fetches at w b (word_loaded b (at * 4)) h other refl e
