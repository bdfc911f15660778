-- What a word does whose instruction is known, and where branches lead.
use Rattle.std.proofs.Common.{◌≡◌, ◌≢◌, ◌+◌, ◌*◌, ◌/◌, ◌%◌, ◌^◌, ℕ, Bool, true, false, Result, Ok, Err, refl, sym, ◌∙◌, ap, subst, arith, if◌then◌else◌}
use Rattle.arm_core.specs.Word.{field}
use Rattle.arm_core.specs.Fault.{Fault}
use Rattle.arm_step.specs.Bytes.{Bytes}
use Rattle.arm_core.specs.Decoded.{instruction_of_word}
use Rattle.arm_core.specs.Fields.{condition_in}
use Rattle.arm_core.specs.Action.{Action}
use Rattle.arm_core.specs.Action.TheVariants as action
use Rattle.arm_core.specs.Condition.{Condition}
use Rattle.arm_core.specs.Condition.TheVariants as condition
use Rattle.arm_core.specs.Conditions.{condition_holds}
use Rattle.arm_core.specs.State.{State, with_register}
use Rattle.arm_core.specs.Effect.{with_next_pc}
use Rattle.arm_core.specs.Psr.{psr_bits}
use Rattle.arm_core.specs.declared.turn.StepEnd.{StepEnd}
use Rattle.arm_core.specs.declared.turn.StepEnd.TheVariants as turn
use Rattle.arm_step.specs.Step.{acted_if_decoded, result_of_action, result_of_word, result_of_step}
use Rattle.arm_step.specs.Turns.{Turns}
use Rattle.arm_predecode.specs.Kinds.{Does, Branches}
use Rattle.arm_predecode.specs.OpValue.{OpValue}
use Rattle.arm_run.specs.Standing.{core_at, LeadsTo, LeadsOn, IsFetched, Refuses}
use Rattle.arm_run.proofs.Positions.{with_counter, next_position}

abbrev if_carried : (ℕ → Bool) → State → Bytes → Result (Condition × Action) Fault → Bool → Result (State × Bytes) StepEnd
if_carried owned t b i holds = if holds then acted_if_decoded owned t b i else Ok (with_next_pc t, b)

pub carried : (owned : ℕ → Bool) (t : State) (b : Bytes) (c : Condition) (a : Action) (r : OpValue) → Does c a r → condition_holds c t.psr ≡ true
    → result_of_word owned t b r.word ≡ result_of_action owned t b a
carried owned t b c a r d holds =
    ap (if_carried owned t b (instruction_of_word r.word)) (ap (λ (x : Condition). condition_holds x t.psr) d.condition ∙ holds)
    ∙ ap (acted_if_decoded owned t b) d.instruction

pub passed : (owned : ℕ → Bool) (t : State) (b : Bytes) (w : ℕ) → condition_holds (condition_in w) t.psr ≡ false → result_of_word owned t b w ≡ Ok (with_next_pc t, b)
passed owned t b w fails = ap (if_carried owned t b (instruction_of_word w)) fails

pub passes_on : (s : State) (w : ℕ) → condition_holds (condition_in w) s.psr ≡ false → LeadsOn s w s
passes_on s w fails at owned b = passed owned (core_at s at) b w fails ∙ ap (λ (x : State). let r : Result (State × Bytes) StepEnd = Ok (x, b) in r) (next_position s at)

pub passes_to : (s : State) (at : ℕ) (c : Condition) (l : Bool) (r : OpValue) → Branches c l r → condition_holds c s.psr ≡ false → LeadsTo s at r.word s (at + 1)
passes_to s at c l r d fails = passes_on s r.word (ap (λ (x : Condition). condition_holds x s.psr) d.does.condition ∙ fails) at

target_of : (at d v next : ℕ) → v ≡ (d + 2) % 2 ^ 24 → next ≡ (at + v) % 2 ^ 24 → (at % 2 ^ 24 * 4 + 8 + 4 * d) / 4 % 2 ^ 24 * 4 ≡ next % 2 ^ 24 * 4
target_of at d v next e f = omega arith

pub branches_to : (s : State) (at next : ℕ) (c : Condition) (r : OpValue) → Branches c false r → next ≡ (at + r.value) % 2 ^ 24 → condition_holds c s.psr ≡ true
    → LeadsTo s at r.word s next
unfolding result_of_action
branches_to s at next c r d there holds owned b =
    carried owned (core_at s at) b c (action.Branch false (field r.word 0 24)) r d.does holds
    ∙ ap (λ (x : State). let o : Result (State × Bytes) StepEnd = Ok (x, b) in o) (with_counter s _ _ (target_of at (field r.word 0 24) r.value next d.value there))

pub branches_always : (s : State) (at next : ℕ) (r : OpValue) → Branches condition.Always false r → next ≡ (at + r.value) % 2 ^ 24 → LeadsTo s at r.word s next
branches_always s at next r d there = branches_to s at next condition.Always r d there refl

ahead_one : (at next : ℕ) → next ≡ (at + 1) % 2 ^ 24 → (at % 2 ^ 24 * 4 + 4 * 1) % 2 ^ 26 ≡ next * 4
ahead_one at next e = omega arith

pub links_to : (s s' : State) (at next after : ℕ) (r : OpValue) → Branches condition.Always true r → after ≡ (at + 1) % 2 ^ 24 → s' ≡ with_register s 14 (psr_bits s.psr + after * 4)
    → next ≡ (at + r.value) % 2 ^ 24 → LeadsTo s at r.word s' next
unfolding result_of_action
links_to s s' at next after r d one set there owned b =
    carried owned (core_at s at) b condition.Always (action.Branch true (field r.word 0 24)) r d.does refl
    ∙ ap (λ (x : State). let o : Result (State × Bytes) StepEnd = Ok (x, b) in o)
    (with_counter (with_register s 14 (psr_bits s.psr + (at % 2 ^ 24 * 4 + 4 * 1) % 2 ^ 26)) _ _ (target_of at (field r.word 0 24) r.value next d.value there)
    ∙ ap (λ (x : ℕ). core_at (with_register s 14 (psr_bits s.psr + x)) next) (ahead_one at after one)
    ∙ ap (λ (x : State). core_at x next) (sym set))

-- a word that was fetched and leads on is a step that is done
pub turns_by : (r : Result (State × Bytes) StepEnd) (old new : State × Bytes) → r ≡ Ok new → Turns old r turn.Done new
turns_by r old new e = subst (λ (x : Result (State × Bytes) StepEnd). Turns old x turn.Done new) (sym e) (refl, refl)

pub leads_acts : (owned : ℕ → Bool) (s s' : State) (at next w : ℕ) (b : Bytes) → IsFetched b at w → LeadsTo s at w s' next
    → Turns (core_at s at, b) (result_of_step owned (core_at s at) b) turn.Done (core_at s' next, b)
leads_acts owned s s' at next w b fetched leads =
    turns_by (result_of_step owned (core_at s at) b) (core_at s at, b) (core_at s' next, b) (fetched owned s ∙ leads owned b)

pub leads_on_acts : (owned : ℕ → Bool) (s s' : State) (at w : ℕ) (b : Bytes) → IsFetched b at w → LeadsOn s w s'
    → Turns (core_at s at, b) (result_of_step owned (core_at s at) b) turn.Done (core_at s' (at + 1), b)
leads_on_acts owned s s' at w b fetched leads = leads_acts owned s s' at (at + 1) w b fetched (leads at)

pub refuses_by : (r : Result (State × Bytes) StepEnd) (old : State × Bytes) (u : StepEnd) → r ≡ Err u → Turns old r u old
refuses_by r old u e = subst (λ (x : Result (State × Bytes) StepEnd). Turns old x u old) (sym e) (refl, refl)

pub no_swi_done : (n : ℕ) → turn.Swi n ≢ turn.Done
no_swi_done n e = cc

pub interrupts : (owned : ℕ → Bool) (s : State) (at : ℕ) (b : Bytes) (r : OpValue) → IsFetched b at r.word → Does condition.Always (action.SoftwareInterrupt (field r.word 0 24)) r
    → Refuses owned (core_at s at) b
unfolding result_of_action
interrupts owned s at b r fetched d = record {
  turn = turn.Swi (field r.word 0 24);
  other = no_swi_done _;
  comes = refuses_by (result_of_step owned (core_at s at) b) (core_at s at, b) _
      (fetched owned s ∙ carried owned (core_at s at) b condition.Always (action.SoftwareInterrupt (field r.word 0 24)) r d refl);
}

-- the turn of a SWI that was fetched
pub interrupt_comes : (at w n : ℕ) (b : Bytes) (r : OpValue) → IsFetched b at w → r.word ≡ w → n ≡ w % 2 ^ 24 → Does condition.Always (action.SoftwareInterrupt (field r.word 0 24)) r
    → (owned : ℕ → Bool) (s : State) → result_of_step owned (core_at s at) b ≡ Err (turn.Swi n)
unfolding result_of_action
interrupt_comes at w n b r fetched same is d owned s =
    let there : IsFetched b at r.word = subst (λ (x : ℕ). IsFetched b at x) (sym same) fetched in
    let number : field r.word 0 24 ≡ n = omega (arith, same, is) in
    there owned s ∙ carried owned (core_at s at) b condition.Always (action.SoftwareInterrupt (field r.word 0 24)) r d refl
    ∙ ap (λ (k : ℕ). let e : Result (State × Bytes) StepEnd = Err (turn.Swi k) in e) number

pub turns_swi : (owned : ℕ → Bool) (s t : State) (at n : ℕ) (b : Bytes) → t ≡ core_at s at → ((o : ℕ → Bool) (x : State) → result_of_step o (core_at x at) b ≡ Err (turn.Swi n))
    → Turns (t, b) (result_of_step owned t b) (turn.Swi n) (t, b)
turns_swi owned s t at n b stood comes =
    refuses_by (result_of_step owned t b) (t, b) (turn.Swi n) (ap (λ (x : State). result_of_step owned x b) stood ∙ comes owned s)

pub ruleset swis = (no_swi_done, turns_swi)
