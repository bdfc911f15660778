-- Steps one after another, one more at a time.
use Rattle.std.proofs.Common.{◌≡◌, ◌⊎◌, ◌+◌, ℕ, Bool, false, List, [], sym, ◌∙◌, ap, subst, add-one}
use Rattle.arm_step.specs.Bytes.{Bytes}
use Rattle.arm_core.specs.State.{State}
use Rattle.arm_core.specs.declared.turn.StepEnd.{StepEnd}
use Rattle.arm_core.specs.declared.turn.StepEnd.TheVariants as turn
use Rattle.arm_step.specs.Step.{result_of_step}
use Rattle.arm_step.specs.Turns.{Turns}
use Rattle.arm_core.specs.breaks.Breaks.{is_among}
use Rattle.arm_run.specs.Runs.{AreDone}
use Rattle.arm_run.specs.Standing.{Refuses}

pub none_done : (owned : ℕ → Bool) (breaks : List ℕ) (n : ℕ) (old new : State × Bytes) → n ≡ 0 → new ≡ old → AreDone owned breaks n old new
unfolding AreDone
none_done owned breaks n old new none same = subst (λ (k : ℕ). AreDone owned breaks k old new) (sym none) same

pub one_more_done : (owned : ℕ → Bool) (breaks : List ℕ) (n m : ℕ) (old middle new : State × Bytes) → m ≡ n + 1 → AreDone owned breaks n old middle
    → (n ≡ 0) ⊎ (is_among breaks middle.0.pc ≡ false) → Turns middle (result_of_step owned middle.0 middle.1) turn.Done new → AreDone owned breaks m old new
unfolding AreDone
one_more_done owned breaks n m old middle new more so_far unbroken step =
    subst (λ (k : ℕ). AreDone owned breaks k old new) (sym (more ∙ add-one n)) (middle, (so_far, record { unbroken = unbroken; step = step }))

pub same_count : (owned : ℕ → Bool) (breaks : List ℕ) (n m : ℕ) (old new new' : State × Bytes) → m ≡ n → new' ≡ new → AreDone owned breaks n old new → AreDone owned breaks m old new'
same_count owned breaks n m old new new' e f h =
    subst (λ (x : State × Bytes). AreDone owned breaks m old x) (sym f) (subst (λ (k : ℕ). AreDone owned breaks k old new) (sym e) h)

pub same_pair : (s t : State) (b c : Bytes) → s ≡ t → b ≡ c → (let w : State × Bytes = (s, b) in let v : State × Bytes = (t, c) in w ≡ v)
same_pair s t b c e f = λ i. (e i, f i)

pub turns_so : (owned owned' : ℕ → Bool) (w v : State × Bytes) (u : StepEnd) → owned ≡ owned' → Turns w (result_of_step owned w.0 w.1) u v → Turns w (result_of_step owned' w.0 w.1) u v
turns_so owned owned' w v u e h = subst (λ (o : ℕ → Bool). Turns w (result_of_step o w.0 w.1) u v) e h

pub refuses_so : (owned owned' : ℕ → Bool) (s s' : State) (b b' : Bytes) → owned' ≡ owned → s' ≡ s → b' ≡ b → Refuses owned s b → Refuses owned' s' b'
refuses_so owned owned' s s' b b' e f g h =
    subst (λ (x : Bytes). Refuses owned' s' x) (sym g) (subst (λ (x : State). Refuses owned' x b) (sym f) (subst (λ (o : ℕ → Bool). Refuses o s b) (sym e) h))

pub none_among : (breaks : List ℕ) (a : ℕ) → breaks ≡ [] → is_among breaks a ≡ false
unfolding is_among
none_among breaks a none = ap (λ (bs : List ℕ). is_among bs a) none
