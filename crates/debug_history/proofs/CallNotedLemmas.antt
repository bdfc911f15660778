-- What is kept of calls from outside is what was done.
use Rattle.std.proofs.Common.{◌≡◌, ◌≢◌, ◌<◌, ◌≤◌, ℕ, Bool, true, false, zero, suc, ◌+◌, ◌-◌, ◌&&◌, ◌==◌, Option, Some, None, Result, Ok, Err, List, [], ◌∷◌, length, refl, sym, ◌∙◌, ap, subst, arith, if◌then◌else◌}
use Rattle.std.specs.Prelude.{nat_lt}
use Rattle.std.proofs.lemmas.Bool.Decides.{nat_tests}
use Rattle.profile.specs.images.Entries.{Entry}
use Rattle.command_shell_lines.specs.declared.debug_words.stubs.Stub.{Stub}
use Rattle.profile.specs.declared.stop.Stop.{Stop}
use Rattle.profile.specs.declared.stop.Stop.TheVariants as stop
use Rattle.debug_labels.specs.Halt.{Halt}
use Rattle.debug_labels.specs.Halt.TheVariants as halt
use Rattle.debug_tables.specs.MachineState.{MachineState, StepOutcome, stop_of}
use Rattle.debug_tables.specs.Run.{count_after, halt_step_count}
use Rattle.debug_tables.specs.Step.{machine_step}
use Rattle.debug_tables.specs.Calls.{answer_after_steps, call_done, call_end, call_made, end_answer, finished_by, step_made, step_then, stop_before_step, stop_before_step_by, stop_answer}
use Rattle.debug_tables.specs.Memory.{script_with_last}
use Rattle.debug_tables.specs.State.{ScriptState}
use Rattle.debug_tables.specs.CallEnd.{CallEnd}
use Rattle.debug_tables.specs.CallEnd.TheVariants as end
use Rattle.debug_tables.proofs.CallLemmas.{call_allowed, call_refused, finished_ends, goes_left, halted_ends}
use Rattle.debug_tables.specs.Stubs.{stubbed_step}
use Rattle.debug_history.specs.Acts.{PastMoment, changed_moment, moment_after_deed, moment_of_script}
use Rattle.debug_history.specs.Laws.{IsPastOf}
use Rattle.debug_history.specs.Noted.{is_faulted, past_with_call, past_with_deed, past_with_stubbed}
use Rattle.debug_history.specs.Past.{PastState}
use Rattle.debug_history.specs.Steps.{steps_after}
use Rattle.debug_history.specs.declared.act.PastDeed.{PastDeed}
use Rattle.debug_tables.proofs.CallLemmas.{can_step}
use Rattle.debug_history.proofs.NotedLemmas.{LedTo, deed_noted, fault_halts, led_by, led_more, led_nowhere, led_on, nothing_noted, steps_noted}

-- what the rest of a call leaves
pub record IsCalled (stubs : List Stub) (s final : ScriptState) : Type 0 where
  pub images : final.images ≡ s.images
  pub sizes : final.sizes ≡ s.sizes
  pub fresh : final.is_fresh ≡ s.is_fresh
  pub less : final.left ≤ s.left
  pub led : LedTo stubs s.images s.machine (s.left - final.left) final.machine

-- it ends here
pub none_taken : (n : ℕ) → 0 ≡ n - n
none_taken n = omega arith

pub called_end : (stubs : List Stub) (s : ScriptState) (e : CallEnd) → IsCalled stubs s (end_answer s e).state
called_end stubs s end.Returned = record {
  images = refl;
  sizes = refl;
  fresh = refl;
  less = omega arith;
  led = led_more stubs s.images s.machine s.machine 0 (s.left - s.left) (none_taken s.left) (led_nowhere stubs s.images s.machine);
}
called_end stubs s (end.Stopped x) = record {
  images = refl;
  sizes = refl;
  fresh = refl;
  less = omega arith;
  led = led_more stubs s.images s.machine s.machine 0 (s.left - s.left) (none_taken s.left) (led_nowhere stubs s.images s.machine);
}

called_same : (stubs : List Stub) (s final t : ScriptState) → final ≡ t → IsCalled stubs s t → IsCalled stubs s final
called_same stubs s final t e is = subst (λ (x : ScriptState). IsCalled stubs s x) (sym e) is

-- a step more
step_count : (o : Option Halt) → count_after o ≤ 1
step_count None = omega arith
step_count (Some halt.Exit) = omega arith
step_count (Some (halt.Fault f)) = omega arith

pub called_on : (stubs : List Stub) (s final : ScriptState) (o : Option Halt) → s.is_fresh ≡ false → 0 < s.left
    → (stubbed_step stubs s.images s.machine).now.halt ≡ o → IsCalled stubs (step_made s (stubbed_step stubs s.images s.machine)) final
    → ((h : Halt) → o ≡ Some h → final ≡ script_with_last (step_made s (stubbed_step stubs s.images s.machine)) (stop_of h))
    → IsCalled stubs s final
called_on stubs s final None old some is more ends =
    let t : ScriptState = step_made s (stubbed_step stubs s.images s.machine) in
    let count : t.left ≡ s.left - 1 = ap (λ (o : Option Halt). s.left - count_after o) is in
    let less = more.less in
    let all : suc (t.left - final.left) ≡ s.left - final.left = omega (arith, count, less, some) in
    record {
      images = more.images;
      sizes = more.sizes;
      fresh = more.fresh ∙ sym old;
      less = omega (arith, less, count);
      led = led_more stubs s.images s.machine final.machine (suc (t.left - final.left)) (s.left - final.left) all
          (led_on stubs s.images s.machine t.machine final.machine (t.left - final.left) refl more.led);
    }
called_on stubs s final (Some h) old some is more ends =
    let a : StepOutcome = stubbed_step stubs s.images s.machine in
    let t : ScriptState = script_with_last (step_made s a) (stop_of h) in
    let few = step_count (Some h) in
    let count : t.left ≡ s.left - halt_step_count h = ap (λ (o : Option Halt). s.left - count_after o) is in
    let all : halt_step_count h ≡ s.left - t.left = omega (arith, count, few, some) in
    called_same stubs s final t (ends h refl) (record {
      images = refl;
      sizes = refl;
      fresh = sym old;
      less = omega (arith, count);
      led = led_more stubs s.images s.machine a.now (halt_step_count h) (s.left - t.left) all
          (led_by stubs s.images s.machine a.now (Some h) is refl);
    })

finished_on : (frames n : ℕ) (s : ScriptState) → call_end s frames ≡ None
    → answer_after_steps frames (suc n) s
    ≡ step_then s (machine_step s.images s.machine) (answer_after_steps frames n)
unfolding answer_after_steps
finished_on frames n s h =
    ap (λ (o : Option CallEnd). finished_by s o (step_then s (machine_step s.images s.machine) (answer_after_steps frames n))) h

halted_final : (frames n : ℕ) (s : ScriptState) (h : Halt) → s.machine.halt ≡ Some h
    → (answer_after_steps frames n s).state ≡ script_with_last s (stop_of h)
halted_final frames n s h e =
    ap (λ t. t.state) (finished_ends frames n s (end.Stopped (stop_of h)) (halted_ends s frames h e))

called_by : (frames n : ℕ) (s : ScriptState) (o : Option CallEnd) → call_end s frames ≡ o → s.is_fresh ≡ false
    → ((t : ScriptState) → t.is_fresh ≡ false → IsCalled [] t (answer_after_steps frames n t).state)
    → IsCalled [] s (answer_after_steps frames (suc n) s).state
called_by frames n s (Some e) is old more =
    called_same [] s (answer_after_steps frames (suc n) s).state (end_answer s e).state
    (ap (λ t. t.state) (finished_ends frames (suc n) s e is)) (called_end [] s e)
called_by frames n s None is old more =
    let a : StepOutcome = machine_step s.images s.machine in
    let t : ScriptState = step_made s a in
    called_same [] s (answer_after_steps frames (suc n) s).state (answer_after_steps frames n t).state
    (ap (λ t. t.state) (finished_on frames n s is))
    (called_on [] s (answer_after_steps frames n t).state a.now.halt old (goes_left s frames is) refl (more t refl)
    (λ h e. halted_final frames n t h e))

zero_by : (frames : ℕ) (s : ScriptState) (o : Option CallEnd) → IsCalled [] s (finished_by s o (stop_answer s stop.Budget)).state
zero_by frames s (Some e) = called_end [] s e
zero_by frames s None = called_end [] s (end.Stopped stop.Budget)

after_called : (frames n : ℕ) (s : ScriptState) → s.is_fresh ≡ false → IsCalled [] s (answer_after_steps frames n s).state
unfolding answer_after_steps
after_called frames zero s old = zero_by frames s (call_end s frames)
after_called frames (suc n) s old = called_by frames n s (call_end s frames) refl old (λ t e. after_called frames n t e)

-- WHAT A CALL DID

old_by : (b : Bool) (o : Option Halt) (h : Halt) → (b ≡ true → o ≡ None) → o ≡ Some h → b ≡ false
old_by false o h up is = refl
old_by true o h up is = absurd (cc (up refl))

pub record IsCallOf (s : ScriptState) (a : StepOutcome) (call : Bool → PastDeed) : Type 0 where
  pub deed : (b : Bool) → moment_after_deed s.images s.sizes (call b) (moment_of_script s) ≡ changed_moment a.now
  pub halted : (h : Halt) → s.machine.halt ≡ Some h → a.now ≡ s.machine

-- no step could be taken
pub refused_by : (stubs : List Stub) (s : ScriptState) (p : PastState) (line : ℕ) (a : StepOutcome) (call : Bool → PastDeed) (x : Stop) (b : Bool)
    → is_faulted s.machine.halt ≡ b → (s.is_fresh ≡ true → s.machine.halt ≡ None) → IsPastOf s p → IsCallOf s a call
    → IsPastOf (script_with_last s x) (past_with_call p line (call false) stubs 0 b)
refused_by stubs s p line a call x false is up was made = nothing_noted s (script_with_last s x) p refl refl refl was
refused_by stubs s p line a call x true is up was made =
    let f = fault_halts s.machine.halt is in
    let old = old_by s.is_fresh s.machine.halt f.0 up f.1 in
    let same = made.halted f.0 f.1 in
    deed_noted s (script_with_last s x) p line (call false) refl refl was
    ((λ i. record { machine = sym same i; is_fresh = old i }) ∙ sym (made.deed false))

-- its first step ended in a fault
faulted_call : (s final : ScriptState) (p : PastState) (line : ℕ) (a : StepOutcome) (call : Bool → PastDeed) (x : Stop)
    → final ≡ script_with_last (step_made s a) x → IsPastOf s p → IsCallOf s a call
    → IsPastOf final (past_with_deed p line (call false))
faulted_call s final p line a call x e was made =
    deed_noted s final p line (call false) (ap (λ (t : ScriptState). t.images) e) (ap (λ (t : ScriptState). t.sizes) e) was
    (ap moment_of_script e ∙ sym (made.deed false))

-- its first step was counted
counted_call : (stubs : List Stub) (s final : ScriptState) (p : PastState) (line : ℕ) (a : StepOutcome) (call : Bool → PastDeed) → IsPastOf s p
    → IsCallOf s a call → IsCalled stubs (step_made s a) final
    → IsPastOf final (past_with_stubbed (past_with_deed p line (call true)) line stubs ((step_made s a).left - final.left)
    (is_faulted final.machine.halt))
counted_call stubs s final p line a call was made is =
    let t : ScriptState = step_made s a in
    let fresh : final.is_fresh ≡ false = is.fresh in
    steps_noted t final (past_with_deed p line (call true)) line stubs (t.left - final.left) is.images is.sizes
    (deed_noted s t p line (call true) refl refl was (sym (made.deed true))) is.led (λ e. fresh) (λ e. fresh)

-- a call of which some steps were counted
some_more : (k : ℕ) → true ≡ nat_lt 0 (suc k)
some_more k = grind (arith, nat_tests)

counted_noted : (stubs : List Stub) (final : ScriptState) (p : PastState) (line k : ℕ) (call : Bool → PastDeed) (b : Bool)
    → IsPastOf final (past_with_stubbed (past_with_deed p line (call true)) line stubs k b)
    → IsPastOf final (past_with_call p line (call (nat_lt 0 (suc k))) stubs (suc k) b)
counted_noted stubs final p line k call b is =
    subst (λ (c : Bool). IsPastOf final (past_with_call p line (call c) stubs (suc k) b)) (some_more k) is

pub done_by : (stubs : List Stub) (s final : ScriptState) (p : PastState) (line : ℕ) (a : StepOutcome) (call : Bool → PastDeed) (o : Option Halt) → a.now.halt ≡ o
    → 0 < s.left → IsPastOf s p → IsCallOf s a call → IsCalled stubs (step_made s a) final
    → ((h : Halt) → o ≡ Some h → final ≡ script_with_last (step_made s a) (stop_of h))
    → IsPastOf final (past_with_call p line (call (nat_lt 0 (s.left - final.left))) stubs (s.left - final.left) (is_faulted final.machine.halt))
done_by stubs s final p line a call (Some (halt.Fault f)) is some was made called ends =
    let e = ends (halt.Fault f) refl in
    let left : final.left ≡ s.left - 0 = ap (λ (t : ScriptState). t.left) e ∙ ap (λ (o : Option Halt). s.left - count_after o) is in
    let count : 0 ≡ s.left - final.left = omega (arith, left) in
    let faulted : true ≡ is_faulted final.machine.halt = sym (ap (λ (t : ScriptState). is_faulted t.machine.halt) e ∙ ap is_faulted is) in
    subst (λ (n : ℕ). IsPastOf final (past_with_call p line (call (nat_lt 0 n)) stubs n (is_faulted final.machine.halt))) count
    (subst (λ (b : Bool). IsPastOf final (past_with_call p line (call false) stubs 0 b)) faulted
    (faulted_call s final p line a call (stop_of (halt.Fault f)) e was made))
done_by stubs s final p line a call (Some halt.Exit) is some was made called ends =
    let t : ScriptState = step_made s a in
    let left : t.left ≡ s.left - 1 = ap (λ (o : Option Halt). s.left - count_after o) is in
    let less = called.less in
    let count : suc (t.left - final.left) ≡ s.left - final.left = omega (arith, left, less, some) in
    subst (λ (n : ℕ). IsPastOf final (past_with_call p line (call (nat_lt 0 n)) stubs n (is_faulted final.machine.halt))) count
    (counted_noted stubs final p line (t.left - final.left) call (is_faulted final.machine.halt) (counted_call stubs s final p line a call was made called))
done_by stubs s final p line a call None is some was made called ends =
    let t : ScriptState = step_made s a in
    let left : t.left ≡ s.left - 1 = ap (λ (o : Option Halt). s.left - count_after o) is in
    let less = called.less in
    let count : suc (t.left - final.left) ≡ s.left - final.left = omega (arith, left, less, some) in
    subst (λ (n : ℕ). IsPastOf final (past_with_call p line (call (nat_lt 0 n)) stubs n (is_faulted final.machine.halt))) count
    (counted_noted stubs final p line (t.left - final.left) call (is_faulted final.machine.halt) (counted_call stubs s final p line a call was made called))

made_by : (s : ScriptState) (p : PastState) (line : ℕ) (a : StepOutcome) (call : Bool → PastDeed) (o : Option Stop) → stop_before_step s ≡ o
    → (s.is_fresh ≡ true → s.machine.halt ≡ None) → IsPastOf s p → IsCallOf s a call
    → (let now = (call_made s a).state in
    IsPastOf now (past_with_call p line (call (nat_lt 0 (s.left - now.left))) [] (s.left - now.left) (is_faulted now.machine.halt)))
made_by s p line a call (Some x) is up was made =
    let noted = subst (λ (n : ℕ). IsPastOf (script_with_last s x) (past_with_call p line (call (nat_lt 0 n)) [] n (is_faulted s.machine.halt)))
    (none_taken s.left) (refused_by [] s p line a call x (is_faulted s.machine.halt) refl up was made) in
    subst (λ (t : ScriptState). IsPastOf t (past_with_call p line (call (nat_lt 0 (s.left - t.left))) [] (s.left - t.left) (is_faulted t.machine.halt)))
    (sym (ap (λ t. t.state) (call_refused s a x is))) noted
made_by s p line a call None is up was made =
    let t : ScriptState = step_made s a in
    let frames : ℕ = length s.machine.tables.frames in
    let final : ScriptState = (answer_after_steps frames t.left t).state in
    let noted = done_by [] s final p line a call a.now.halt refl (can_step s.machine.halt s.left is) was made
    (after_called frames t.left t refl) (λ h e. halted_final frames t.left t h e) in
    subst (λ (u : ScriptState). IsPastOf u (past_with_call p line (call (nat_lt 0 (s.left - u.left))) [] (s.left - u.left) (is_faulted u.machine.halt)))
    (sym (ap (λ t. t.state) (call_allowed s a is))) noted

pub call_noted : (s : ScriptState) (p : PastState) (line : ℕ) (a : StepOutcome) (call : Bool → PastDeed)
    → (s.is_fresh ≡ true → s.machine.halt ≡ None) → IsPastOf s p → IsCallOf s a call
    → (let now = (call_made s a).state in
    IsPastOf now (past_with_call p line (call (nat_lt 0 (s.left - now.left))) [] (s.left - now.left) (is_faulted now.machine.halt)))
call_noted s p line a call up was made = made_by s p line a call (stop_before_step s) refl up was made
