-- Steps that the core takes one after another are a run of the machine that prints nothing.
use Rattle.std.proofs.Common.{◌≡◌, ◌⊎◌, ℕ, zero, suc, Bool, true, false, List, Option, None, Result, Ok, Err, inl, inr, refl, sym, ◌∙◌, ap, subst, arith, IfOk, add-one}
use Rattle.profile.specs.declared.stop.Stop.{Stop}
use Rattle.profile.specs.declared.stop.Stop.TheVariants as stop
use Rattle.os_heap.specs.AddressMap.{AddressMap}
use Rattle.os_heap.specs.Bytes.{Bytes}
use Rattle.os_heap.specs.Memory.{bytes_of, is_owned, layout, class_of}
use Rattle.arm_run.specs.StepEnd.{StepEnd}
use Rattle.arm_run.specs.StepEnd.TheVariants as turn
use Rattle.arm_run.specs.State.{State}
use Rattle.arm_run.specs.Runs.{AreDone, StopsBy}
use Rattle.arm_run.specs.OwnedBytes.{IsByWords, KeepsOwnedBytes}
use Rattle.arm_run.specs.Step.{result_of_step}
use Rattle.arm_run.specs.Turns.{Turns}
use Rattle.arm_run.proofs.Framing.{step_keeps}
use Rattle.os_heap.specs.Store.{store_of, owned_in, IsSound}
use Rattle.os_heap.proofs.Owned.{owned_marks}
use Rattle.swi_dispatch_plans.specs.Entries.{Entry}
use Rattle.swi_dispatch_guest.specs.declared.halt.Halt.{Halt}
use Rattle.swi_dispatch_guest.specs.MachineState.{MachineState, Tables}
use Rattle.swi_dispatch_guest.specs.Step.{Turned, moved_on}
use Rattle.swi_dispatch_guest.specs.GuestState.{AreCoreSteps, GuestState, IsWellFormed, TakesTurn, state_of}
use Rattle.swi_dispatch_guest.specs.Run.{is_among, ran, silent_run, silent_stop}
use Rattle.swi_dispatch_guest.proofs.Kept.{IsStored, by_words, flex_after, keeps_stored, kept_memory, same_pool, well_kept, with_core, over}
use Rattle.swi_dispatch_guest.proofs.Silent.{silent_start, silent_more, ends_by}

-- the machine with another core and other bytes
abbrev pub moved : MachineState → State × Bytes → MachineState
moved s w = (moved_on s w).now

taken_by : (s : MachineState) (r : Result (State × Bytes) StepEnd) (t : StepEnd) (middle new : State × Bytes) → Turns middle r t new → Turned (moved s middle) r t (moved s new)
taken_by s (Ok v) t middle new h = (h.0, ap (moved s) h.1)
taken_by s (Err e) t middle new h = (h.0, ap (moved s) h.1)

pub turn_taken : (s : MachineState) (t : StepEnd) (middle new : State × Bytes) → Turns middle (result_of_step (owned_in s.store) middle.0 middle.1) t new → TakesTurn (moved s middle) t (moved s new)
unfolding owned_in
turn_taken s t middle new h = taken_by s (result_of_step (owned_in s.store) middle.0 middle.1) t middle new h

taken : (s : MachineState) (middle new : State × Bytes) → Turns middle (result_of_step (owned_in s.store) middle.0 middle.1) turn.Done new → TakesTurn (moved s middle) turn.Done (moved s new)
taken s middle new h = turn_taken s turn.Done middle new h

pub next_by : (r : Result StepEnd Stop) (p q : StepEnd → Type 0) → ((t : StepEnd) → p t → q t) → IfOk r p → IfOk r q
next_by (Ok t) p q f h = f t h
next_by (Err e) p q f h = tt

-- none of them ended on a break
silent_so_far : (images : List Entry) (breaks : List ℕ) (s : MachineState) (n : ℕ) (old new : State × Bytes) → s.halt ≡ None → AreDone (owned_in s.store) breaks n old new
    → (n ≡ 0) ⊎ (is_among breaks new.0.pc ≡ false) → ran images breaks n (moved s old) ≡ silent_run (moved s new) n stop.Budget
unfolding AreDone
silent_so_far images breaks s zero old new unhalted h clear =
    silent_start images breaks (moved s old) unhalted ∙ ap (λ (w : State × Bytes). silent_run (moved s w) 0 stop.Budget) (sym h)
silent_so_far images breaks s (suc n) old new unhalted h (inl none) = absurd (cc)
silent_so_far images breaks s (suc n) old new unhalted h (inr clear) =
    let so_far : ran images breaks n (moved s old) ≡ silent_run (moved s h.0) n stop.Budget = silent_so_far images breaks s n old h.0 unhalted h.1.0 h.1.1.unbroken in
    subst (λ (k : ℕ). ran images breaks k (moved s old) ≡ silent_run (moved s new) k stop.Budget) (add-one n)
    (silent_more images breaks (moved s old) (moved s h.0) (moved s new) n turn.Done stop.Budget refl so_far unhalted (ends_by breaks (moved s new) false clear) (taken s h.0 new h.1.1.step))

-- and where the last of them led to a break
pub silent_to_break : (images : List Entry) (breaks : List ℕ) (s : MachineState) (n : ℕ) (old new : State × Bytes) → s.halt ≡ None → AreDone (owned_in s.store) breaks (suc n) old new
    → is_among breaks new.0.pc ≡ true → ran images breaks (suc n) (moved s old) ≡ silent_run (moved s new) (suc n) (stop.Break new.0.pc)
unfolding AreDone
silent_to_break images breaks s n old new unhalted h broken =
    let so_far : ran images breaks n (moved s old) ≡ silent_run (moved s h.0) n stop.Budget = silent_so_far images breaks s n old h.0 unhalted h.1.0 h.1.1.unbroken in
    subst (λ (k : ℕ). ran images breaks k (moved s old) ≡ silent_run (moved s new) k (stop.Break new.0.pc)) (add-one n)
    (silent_more images breaks (moved s old) (moved s h.0) (moved s new) n turn.Done (stop.Break new.0.pc) refl so_far unhalted (ends_by breaks (moved s new) true broken) (taken s h.0 new h.1.1.step))

-- all of them leave owned bytes as they were
same_bytes : (owned : ℕ → Bool) (b : Bytes) → KeepsOwnedBytes owned b b
same_bytes owned b = record { mapped = refl; bytes = λ a h. refl }

then_bytes : (owned : ℕ → Bool) (b c d : Bytes) → KeepsOwnedBytes owned b c → KeepsOwnedBytes owned c d → KeepsOwnedBytes owned b d
then_bytes owned b c d h g = record { mapped = g.mapped ∙ h.mapped; bytes = λ a o. g.bytes a o ∙ h.bytes a o }

kept_by : (owned : ℕ → Bool) (r : Result (State × Bytes) StepEnd) (middle new : State × Bytes) → IsByWords owned → result_of_step owned middle.0 middle.1 ≡ r → Turns middle r turn.Done new
    → KeepsOwnedBytes owned middle.1 new.1
kept_by owned (Ok v) middle new words e h =
    subst (λ (w : State × Bytes). KeepsOwnedBytes owned middle.1 w.1) (sym h.1) (step_keeps owned middle.0 middle.1 words v.0 v.1 e)
kept_by owned (Err f) middle new words e h = subst (λ (w : State × Bytes). KeepsOwnedBytes owned middle.1 w.1) (sym h.1) (same_bytes owned middle.1)

pub steps_keep : (owned : ℕ → Bool) (breaks : List ℕ) (n : ℕ) (old new : State × Bytes) → IsByWords owned → AreDone owned breaks n old new → KeepsOwnedBytes owned old.1 new.1
unfolding AreDone
steps_keep owned breaks zero old new words h = subst (λ (w : State × Bytes). KeepsOwnedBytes owned old.1 w.1) (sym h) (same_bytes owned old.1)
steps_keep owned breaks (suc n) old new words h =
    then_bytes owned old.1 h.0.1 new.1 (steps_keep owned breaks n old h.0 words h.1.0) (kept_by owned (result_of_step owned h.0.0 h.0.1) h.0 new words refl h.1.1.step)

-- the machine after steps that kept owned bytes
pub settled : (m n : AddressMap) (cpu cpu' : State) (tables : Tables) (halt : Option Halt) → layout n ≡ layout m → class_of n ≡ class_of m → IsSound (store_of m)
    → KeepsOwnedBytes (owned_in (store_of m)) (bytes_of m) (bytes_of n) → IsStored m n × (over n cpu' tables halt ≡ moved (over m cpu tables halt) (cpu', bytes_of n))
settled m n cpu cpu' tables halt same marks sound keeps =
    let kept : IsStored m n = keeps_stored m n (bytes_of n) same marks sound refl keeps in
    let store = kept_memory m n (bytes_of n) kept.kept refl in
    let pool = same_pool m n same in
    (kept, λ i. with_core cpu' (pool i) tables halt (store i))

-- the run of all of them, by why they ended
pub ran_by : (images : List Entry) (breaks : List ℕ) (s : MachineState) (n : ℕ) (old new : State × Bytes) (r : Result StepEnd Stop) → s.halt ≡ None → AreDone (owned_in s.store) breaks n old new
    → StopsBy breaks n new.0.pc r → ran images breaks n (moved s old) ≡ silent_run (moved s new) n (silent_stop r)
ran_by images breaks s n old new (Ok t) unhalted h ends = silent_so_far images breaks s n old new unhalted h ends
ran_by images breaks s n old new (Err stop.Budget) unhalted h ends = silent_so_far images breaks s n old new unhalted h ends
ran_by images breaks s zero old new (Err (stop.Break at)) unhalted h ends = absurd (omega (arith, ends.0))
ran_by images breaks s (suc n) old new (Err (stop.Break at)) unhalted h ends =
    silent_to_break images breaks s n old new unhalted h ends.2 ∙ ap (λ (x : ℕ). silent_run (moved s new) (suc n) (stop.Break x)) (sym ends.1)
ran_by images breaks s n old new (Err stop.Exit) unhalted h ends = absurd ends
ran_by images breaks s n old new (Err (stop.Fault f)) unhalted h ends = absurd ends

-- and each of them is a step of the machine that the core does by itself
one_more : (n : ℕ) (s m s' : MachineState) → AreCoreSteps n s m → TakesTurn m turn.Done s' → AreCoreSteps (suc n) s s'
unfolding AreCoreSteps
one_more zero s m s' same h = (s', (subst (λ (x : MachineState). TakesTurn x turn.Done s') same h, refl))
one_more (suc n) s m s' steps h = (steps.0, (steps.1.0, one_more n steps.0 m s' steps.1.1 h))

none_yet : (s s' : MachineState) → s' ≡ s → AreCoreSteps 0 s s'
unfolding AreCoreSteps
none_yet s s' same = same

pub core_steps : (breaks : List ℕ) (s : MachineState) (n : ℕ) (old new : State × Bytes) → AreDone (owned_in s.store) breaks n old new
    → AreCoreSteps n (moved s old) (moved s new)
unfolding AreDone
core_steps breaks s zero old new h = none_yet (moved s old) (moved s new) (ap (moved s) h)
core_steps breaks s (suc n) old new h =
    one_more n (moved s old) (moved s h.0) (moved s new) (core_steps breaks s n old h.0 h.1.0) (taken s h.0 new h.1.1.step)

-- So many steps that the core takes of a guest, and why they end: they are a run that prints
-- nothing, and the guest is well-formed after them.
pub record IsStretch (breaks : List ℕ) (k : ℕ) (r : Result StepEnd Stop) (p q : GuestState) : Type 0 where
  pub runs : (images : List Entry) → ran images breaks k (state_of p) ≡ silent_run (state_of q) k (silent_stop r)
  pub steps : AreCoreSteps k (state_of p) (state_of q)
  pub next : IfOk r (λ (turn : StepEnd). TakesTurn (state_of q) turn (state_of q))
  pub well : IsWellFormed q

pub stretch : (p : GuestState) (n : AddressMap) (cpu' : State) (breaks : List ℕ) (k : ℕ) (r : Result StepEnd Stop) → IsWellFormed p → p.halt ≡ None
    → AreDone (is_owned p.map) breaks k (p.cpu, bytes_of p.map) (cpu', bytes_of n) → StopsBy breaks k cpu'.pc r
    → IfOk r (λ (turn : StepEnd). Turns (cpu', bytes_of n) (result_of_step (is_owned p.map) cpu' (bytes_of n)) turn (cpu', bytes_of n))
    → layout n ≡ layout p.map → class_of n ≡ class_of p.map → IsStretch breaks k r p (record p { cpu = cpu'; map = n })
stretch p n cpu' breaks k r well unhalted done ends next same marks =
    let m = p.map in
    let marked = owned_marks m well.classes in
    let steps = subst (λ (owned : ℕ → Bool). AreDone owned breaks k (p.cpu, bytes_of m) (cpu', bytes_of n)) marked done in
    let kept = settled m n p.cpu cpu' p.tables p.halt same marks well.areas.ground.sound (steps_keep _ _ _ _ _ (by_words (store_of m)) steps) in
    let start = settled m m p.cpu p.cpu p.tables p.halt refl refl well.areas.ground.sound (record { mapped = refl; bytes = λ a o. refl }) in
    let s = over m p.cpu p.tables p.halt in
    record {
      runs = λ images. ap (λ (x : MachineState). ran images breaks k x) start.1
          ∙ ran_by images breaks s k (p.cpu, bytes_of m) (cpu', bytes_of n) r unhalted steps ends
          ∙ ap (λ (x : MachineState). silent_run x k (silent_stop r)) (sym kept.1);
      steps = subst (λ (x : MachineState). AreCoreSteps k s x) (sym kept.1)
          (subst (λ (x : MachineState). AreCoreSteps k x (moved s (cpu', bytes_of n))) (sym start.1)
          (core_steps breaks s k (p.cpu, bytes_of m) (cpu', bytes_of n) steps));
      next = next_by r _ _ (λ t h. subst (λ (x : MachineState). TakesTurn x t x) (sym kept.1)
          (turn_taken s t (cpu', bytes_of n) (cpu', bytes_of n)
          (subst (λ (owned : ℕ → Bool). Turns (cpu', bytes_of n) (result_of_step owned cpu' (bytes_of n)) t (cpu', bytes_of n)) marked h)))
          next;
      well = well_kept p (record p { cpu = cpu'; map = n }) well kept.0.kept same marks refl (flex_after _ _ _ well.flex same marks kept.0) refl;
    }
