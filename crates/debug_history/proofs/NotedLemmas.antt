-- What is kept of lines is what was done.
use Rattle.std.proofs.Common.{◌≡◌, ◌≢◌, ◌<◌, ◌≤◌, ℕ, Bool, true, false, zero, suc, ◌+◌, ◌-◌, ◌^◌, ◌&&◌, ◌==◌, Option, Some, None, Result, Ok, Err, List, [], ◌∷◌, ◌++◌, length, refl, sym, ◌∙◌, ap, subst, arith, if◌then◌else◌}
use Rattle.std.specs.Prelude.{is_some, min, nat_lt}
use Rattle.std.specs.Option.{option_map}
use Rattle.std.proofs.lemmas.Bool.Decides.{nat_tests}
use Rattle.profile.specs.images.Entries.{Entry}
use Rattle.command_shell_lines.specs.declared.debug_words.stubs.Stub.{Stub}
use Rattle.profile.specs.Sizes.{Sizes}
use Rattle.profile.specs.declared.stop.Stop.{Stop}
use Rattle.profile.specs.declared.stop.Stop.TheVariants as stop
use Rattle.debug_labels.specs.Halt.{Halt}
use Rattle.debug_labels.specs.Halt.TheVariants as halt
use Rattle.debug_tables.specs.MachineState.{MachineState, StepOutcome, stop_of}
use Rattle.debug_tables.specs.Run.{Run, count_after, go_on, halt_step_count, is_among, ran, resting, run_after_steps, run_unless_halted}
use Rattle.debug_tables.specs.Step.{machine_step}
use Rattle.debug_tables.specs.State.{ScriptState}
use Rattle.debug_tables.specs.Stepping.{script_after_run, script_run}
use Rattle.debug_history.specs.Acts.{PastMoment, changed_moment, fresh_moment, moment_after_acts, moment_after_deed, moment_after_steps, moment_of_script, steps_of_acts, steps_of_deed}
use Rattle.debug_history.specs.Laws.{IsPastOf}
use Rattle.debug_history.specs.Noted.{is_faulted, past_with_deed, past_with_steps, past_with_stubbed}
use Rattle.debug_history.specs.Past.{PastState, moment_after_past, past_with_act, unknown_past}
use Rattle.debug_history.specs.Steps.{steps_after}
use Rattle.debug_history.specs.declared.act.Act.{Act}
use Rattle.debug_history.specs.declared.act.PastDeed.{PastDeed}
use Rattle.debug_history.specs.declared.act.PastDeed.TheVariants as deed
use Rattle.debug_tables.specs.Stubs.{stubbed_step}
use Rattle.debug_history.proofs.ActLemmas.{acts_joined}
use Rattle.debug_history.proofs.StepLemmas.{fault_is_step, never_none, step_halted, steps_halted}

-- a machine is halted where it has a stop
pub some_stop : (o : Option Halt) → is_some (option_map stop_of o) ≡ is_some o
some_stop None = refl
some_stop (Some h) = refl

-- ONE DEED MORE

one_more : (images : List Entry) (sizes : Sizes) (acts : List Act) (act : Act) (m : PastMoment)
    → moment_after_acts images sizes (acts ++ act ∷ []) m ≡ moment_after_deed images sizes act.deed (moment_after_acts images sizes acts m)
unfolding moment_after_acts
one_more images sizes acts act m = acts_joined images sizes acts (act ∷ []) m

noted_by : (s now : ScriptState) (p : PastState) (act : Act) (b c : Bool) → b ≡ p.is_kept → now.images ≡ s.images → now.sizes ≡ s.sizes
    → IsPastOf s p → moment_of_script now ≡ moment_after_deed s.images s.sizes act.deed (moment_of_script s)
    → IsPastOf now (if b then (if c then record p { acts = p.acts ++ act ∷ []; ahead = [] } else unknown_past) else p)
noted_by s now p act true true e images sizes was moment = λ kept.
    moment ∙ ap (moment_after_deed s.images s.sizes act.deed) (was kept)
    ∙ sym (one_more s.images s.sizes p.acts act (fresh_moment s.sizes))
    ∙ sym (λ i. moment_after_acts (images i) (sizes i) (p.acts ++ act ∷ []) (fresh_moment (sizes i)))
noted_by s now p act true false e images sizes was moment = λ kept. absurd (cc)
noted_by s now p act false c e images sizes was moment = λ kept. absurd (cc)

pub deed_noted : (s now : ScriptState) (p : PastState) (line : ℕ) (done : PastDeed) → now.images ≡ s.images → now.sizes ≡ s.sizes
    → IsPastOf s p → moment_of_script now ≡ moment_after_deed s.images s.sizes done (moment_of_script s)
    → IsPastOf now (past_with_deed p line done)
deed_noted s now p line done images sizes was moment =
    noted_by s now p (record { line = line; deed = done }) p.is_kept
    (nat_lt (steps_of_acts p.acts + steps_of_deed done) (2 ^ 64)) refl images sizes was moment

-- nothing was done
pub nothing_noted : (s now : ScriptState) (p : PastState) → now.images ≡ s.images → now.sizes ≡ s.sizes
    → moment_of_script now ≡ moment_of_script s → IsPastOf s p → IsPastOf now p
nothing_noted s now p images sizes moment was = λ kept.
    moment ∙ was kept ∙ sym (λ i. moment_after_past (images i) (sizes i) p)

-- STEPS

-- so many steps were counted, and then perhaps one that ended in a fault
pub record LedTo (stubs : List Stub) (images : List Entry) (s : MachineState) (taken : ℕ) (now : MachineState) : Type 0 where
  pub steps : is_faulted now.halt ≡ false → now ≡ steps_after stubs images taken s
  pub fault : is_faulted now.halt ≡ true → now ≡ (machine_step images (steps_after stubs images taken s)).now

pub fault_halts : (o : Option Halt) → is_faulted o ≡ true → (h : Halt) × (o ≡ Some h)
fault_halts None e = absurd (cc)
fault_halts (Some h) e = (h, refl)

pub led_nowhere : (stubs : List Stub) (images : List Entry) (s : MachineState) → LedTo stubs images s 0 s
unfolding steps_after
led_nowhere stubs images s = record {
  steps = λ e. refl;
  fault = λ e. let f = fault_halts s.halt e in sym (step_halted images s f.0 f.1);
}

pub led_by : (stubs : List Stub) (images : List Entry) (s now : MachineState) (o : Option Halt) → now.halt ≡ o
    → now ≡ (stubbed_step stubs images s).now → LedTo stubs images s (count_after o) now
unfolding steps_after
led_by stubs images s now None h e = record { steps = λ f. e; fault = λ f. absurd (cc (ap is_faulted h)) }
led_by stubs images s now (Some halt.Exit) h e = record { steps = λ f. e; fault = λ f. absurd (cc (ap is_faulted h)) }
led_by stubs images s now (Some (halt.Fault x)) h e = record {
  steps = λ f. absurd (cc (ap is_faulted h));
  fault = λ f. e ∙ fault_is_step stubs images s (ap (λ (m : MachineState). is_faulted m.halt) (sym e) ∙ f);
}

pub led_on : (stubs : List Stub) (images : List Entry) (s mid now : MachineState) (taken : ℕ)
    → mid ≡ (stubbed_step stubs images s).now → LedTo stubs images mid taken now → LedTo stubs images s (suc taken) now
unfolding steps_after
led_on stubs images s mid now taken e led = record {
  steps = λ f. led.steps f ∙ ap (steps_after stubs images taken) e;
  fault = λ f. led.fault f ∙ ap (λ (m : MachineState). (machine_step images (steps_after stubs images taken m)).now) e;
}

pub led_more : (stubs : List Stub) (images : List Entry) (s now : MachineState) (a b : ℕ) → a ≡ b → LedTo stubs images s a now
    → LedTo stubs images s b now
led_more stubs images s now a b e led = subst (λ (n : ℕ). LedTo stubs images s n now) e led

branch_led : (images : List Entry) (s now : MachineState) (b : Bool) (printed : List ℕ) (r : Run) → now.halt ≡ None
    → now ≡ (machine_step images s).now → LedTo [] images now r.taken r.now
    → (let broken : Run = record { now = now; printed = printed; last = Some printed; taken = 1; stop = stop.Break now.cpu.pc } in
    let after : Run = if b then broken else run_after_steps printed (Some printed) 1 r in LedTo [] images s after.taken after.now)
branch_led images s now true printed r h e led = led_by [] images s now None h e
branch_led images s now false printed r h e led =
    let more : suc r.taken ≡ 1 + r.taken = omega arith in
    led_more [] images s r.now (suc r.taken) (1 + r.taken) more (led_on [] images s now r.now r.taken e led)

go_led : (images : List Entry) (breaks : List ℕ) (s : MachineState) (a : StepOutcome) (o : Option Halt) (rest : MachineState → Run)
    → a.now.halt ≡ o → a.now ≡ (machine_step images s).now → ((x : MachineState) → LedTo [] images x (rest x).taken (rest x).now)
    → LedTo [] images s (go_on breaks a o rest).taken (go_on breaks a o rest).now
go_led images breaks s a (Some h) rest is e more = led_by [] images s a.now (Some h) is e
go_led images breaks s a None rest is e more =
    branch_led images s a.now (is_among breaks a.now.cpu.pc) a.printed (rest a.now) is e (more a.now)

start_led : (images : List Entry) (breaks : List ℕ) (s : MachineState) (o : Option Halt) (rest : MachineState → Run)
    → ((x : MachineState) → LedTo [] images x (rest x).taken (rest x).now)
    → (let r = run_unless_halted s o (go_on breaks (machine_step images s) (machine_step images s).now.halt rest) in
    LedTo [] images s r.taken r.now)
start_led images breaks s (Some h) rest more = led_nowhere [] images s
start_led images breaks s None rest more =
    go_led images breaks s (machine_step images s) (machine_step images s).now.halt rest refl refl more

none_led : (images : List Entry) (s : MachineState) (o : Option Halt)
    → (let r = run_unless_halted s o (resting s stop.Budget) in LedTo [] images s r.taken r.now)
none_led images s (Some h) = led_nowhere [] images s
none_led images s None = led_nowhere [] images s

pub ran_led : (images : List Entry) (breaks : List ℕ) (n : ℕ) (s : MachineState)
    → LedTo [] images s (ran images breaks n s).taken (ran images breaks n s).now
unfolding ran
ran_led images breaks zero s = none_led images s s.halt
ran_led images breaks (suc n) s = start_led images breaks s s.halt (ran images breaks n) (ran_led images breaks n)

-- how many steps a run takes
branch_within : (n : ℕ) (now : MachineState) (b : Bool) (printed : List ℕ) (r : Run) → r.taken ≤ n
    → (let broken : Run = record { now = now; printed = printed; last = Some printed; taken = 1; stop = stop.Break now.cpu.pc } in
    let after : Run = if b then broken else run_after_steps printed (Some printed) 1 r in (0 < after.taken) × (after.taken ≤ suc n))
branch_within n now true printed r h = (omega arith, omega arith)
branch_within n now false printed r h = (omega (arith, h), omega (arith, h))

count_most : (h : Halt) → halt_step_count h ≤ 1
count_most halt.Exit = omega arith
count_most (halt.Fault f) = omega arith

start_within : (breaks : List ℕ) (n : ℕ) (s : MachineState) (o ao : Option Halt) (a : StepOutcome) (rest : MachineState → Run)
    → ((x : MachineState) → (rest x).taken ≤ n) → (run_unless_halted s o (go_on breaks a ao rest)).taken ≤ suc n
start_within breaks n s (Some h) ao a rest more = omega arith
start_within breaks n s None (Some h) a rest more = let e = count_most h in omega (arith, e)
start_within breaks n s None None a rest more =
    (branch_within n a.now (is_among breaks a.now.cpu.pc) a.printed (rest a.now) (more a.now)).1

none_within : (s : MachineState) (o : Option Halt) → (run_unless_halted s o (resting s stop.Budget)).taken ≡ 0
none_within s (Some h) = refl
none_within s None = refl

pub taken_within : (images : List Entry) (breaks : List ℕ) (n : ℕ) (s : MachineState) → (ran images breaks n s).taken ≤ n
unfolding ran
taken_within images breaks zero s = let e = none_within s s.halt in omega (arith, e)
taken_within images breaks (suc n) s =
    start_within breaks n s s.halt (machine_step images s).now.halt (machine_step images s) (ran images breaks n)
    (taken_within images breaks n)

-- a run of some steps of a machine that isn't halted takes some, unless the first ends in a fault
some_by : (images : List Entry) (breaks : List ℕ) (n : ℕ) (s : MachineState) (o ao : Option Halt) (a : StepOutcome) (rest : MachineState → Run)
    → o ≡ None → a.now.halt ≡ ao → ((x : MachineState) → (rest x).taken ≤ n)
    → (let r = run_unless_halted s o (go_on breaks a ao rest) in is_faulted r.now.halt ≡ false → 0 < r.taken)
some_by images breaks n s (Some h) ao a rest up is more e = absurd (cc)
some_by images breaks n s None (Some halt.Exit) a rest up is more e = omega arith
some_by images breaks n s None (Some (halt.Fault f)) a rest up is more e = absurd (cc (ap is_faulted is))
some_by images breaks n s None None a rest up is more e =
    (branch_within n a.now (is_among breaks a.now.cpu.pc) a.printed (rest a.now) (more a.now)).0

some_taken : (images : List Entry) (breaks : List ℕ) (n : ℕ) (s : MachineState) → s.halt ≡ None
    → is_faulted (ran images breaks (suc n) s).now.halt ≡ false → 0 < (ran images breaks (suc n) s).taken
unfolding ran
some_taken images breaks n s up e =
    some_by images breaks n s s.halt (machine_step images s).now.halt (machine_step images s) (ran images breaks n) up refl
    (taken_within images breaks n) e

some_not_none : (n : ℕ) → 0 < n → (n == 0) ≡ false
some_not_none n h = grind (arith, nat_tests, h)

fresh_by : (b : Bool) (most taken : ℕ) → (b ≡ true → (most ≡ 0 → taken ≡ 0) × (0 < most → 0 < taken))
    → (b && (most == 0)) ≡ (b && (taken == 0))
fresh_by false most taken h = refl
fresh_by true zero taken h = let e : taken ≡ 0 = (h refl).0 refl in ap (λ (n : ℕ). n == 0) (sym e)
fresh_by true (suc most) taken h =
    let e : 0 < taken = (h refl).1 (omega arith) in
    never_none most ∙ sym (some_not_none taken e)

none_of : (images : List Entry) (breaks : List ℕ) (s : MachineState) (most : ℕ) → most ≡ 0 → (ran images breaks most s).taken ≡ 0
none_of images breaks s most h = let t = taken_within images breaks most s in omega (arith, t, h)

some_of : (images : List Entry) (breaks : List ℕ) (s : MachineState) (most : ℕ) → s.halt ≡ None
    → is_faulted (ran images breaks most s).now.halt ≡ false → 0 < most → 0 < (ran images breaks most s).taken
some_of images breaks s zero up e h = absurd (omega (arith, h))
some_of images breaks s (suc n) up e h = some_taken images breaks n s up e

fresh_run : (images : List Entry) (breaks : List ℕ) (most : ℕ) (s : MachineState) (is_fresh : Bool) → (is_fresh ≡ true → s.halt ≡ None)
    → is_faulted (ran images breaks most s).now.halt ≡ false
    → (is_fresh && (most == 0)) ≡ (is_fresh && ((ran images breaks most s).taken == 0))
fresh_run images breaks most s is_fresh up e =
    fresh_by is_fresh most (ran images breaks most s).taken
    (λ f. (none_of images breaks s most, some_of images breaks s most (up f) e))

-- what a line leaves that took steps from a script
steps_noted_by : (s now : ScriptState) (p : PastState) (line : ℕ) (stubs : List Stub) (taken : ℕ) (b : Bool) → is_faulted now.machine.halt ≡ b
    → now.images ≡ s.images → now.sizes ≡ s.sizes → IsPastOf s p → LedTo stubs s.images s.machine taken now.machine
    → (is_faulted now.machine.halt ≡ false → now.is_fresh ≡ (s.is_fresh && (taken == 0)))
    → (is_faulted now.machine.halt ≡ true → now.is_fresh ≡ false)
    → IsPastOf now (if b then past_with_deed (past_with_deed p line (deed.Steps stubs taken)) line deed.FaultingStep
    else past_with_deed p line (deed.Steps stubs taken))
steps_noted_by s now p line stubs taken false is images sizes was led fresh old =
    deed_noted s now p line (deed.Steps stubs taken) images sizes was
    (λ i. record { machine = led.steps is i; is_fresh = fresh is i })
steps_noted_by s now p line stubs taken true is images sizes was led fresh old =
    let mid : ScriptState = record s { machine = steps_after stubs s.images taken s.machine; is_fresh = s.is_fresh && (taken == 0) } in
    deed_noted mid now (past_with_deed p line (deed.Steps stubs taken)) line deed.FaultingStep images sizes
    (deed_noted s mid p line (deed.Steps stubs taken) refl refl was refl)
    (λ i. record { machine = led.fault is i; is_fresh = old is i })

pub steps_noted : (s now : ScriptState) (p : PastState) (line : ℕ) (stubs : List Stub) (taken : ℕ) → now.images ≡ s.images → now.sizes ≡ s.sizes → IsPastOf s p
    → LedTo stubs s.images s.machine taken now.machine
    → (is_faulted now.machine.halt ≡ false → now.is_fresh ≡ (s.is_fresh && (taken == 0)))
    → (is_faulted now.machine.halt ≡ true → now.is_fresh ≡ false)
    → IsPastOf now (past_with_stubbed p line stubs taken (is_faulted now.machine.halt))
steps_noted s now p line stubs taken images sizes was led fresh old =
    steps_noted_by s now p line stubs taken (is_faulted now.machine.halt) refl images sizes was led fresh old

-- a run of a machine that isn't fresh any more where it ended in a fault
none_now : (s : MachineState) (o : Option Halt) → (run_unless_halted s o (resting s stop.Budget)).now.halt ≡ s.halt
none_now s (Some h) = refl
none_now s None = refl

fault_old : (images : List Entry) (breaks : List ℕ) (most : ℕ) (s : MachineState) (is_fresh : Bool) → (is_fresh ≡ true → s.halt ≡ None)
    → is_faulted (ran images breaks most s).now.halt ≡ true → (is_fresh && (most == 0)) ≡ false
unfolding ran
fault_old images breaks most s false up e = refl
fault_old images breaks zero s true up e =
    let f : is_faulted (run_unless_halted s s.halt (resting s stop.Budget)).now.halt ≡ false =
    ap is_faulted (none_now s s.halt ∙ up refl) in
    absurd (cc (e, f))
fault_old images breaks (suc n) s true up e = never_none n

pub run_noted : (s : ScriptState) (p : PastState) (line most : ℕ) → most ≤ s.left → (s.is_fresh ≡ true → s.machine.halt ≡ None) → IsPastOf s p
    → (let now = script_after_run s most (script_run s most) in
    IsPastOf now (past_with_steps p line (s.left - now.left) (is_faulted now.machine.halt)))
run_noted s p line most enough up was =
    let r : Run = ran s.images s.breaks most s.machine in
    let now : ScriptState = script_after_run s most r in
    let within : r.taken ≤ most = taken_within s.images s.breaks most s.machine in
    let count : r.taken ≡ s.left - (s.left - r.taken) = omega (arith, within, enough) in
    subst (λ (n : ℕ). IsPastOf now (past_with_steps p line n (is_faulted now.machine.halt))) count
    (steps_noted s now p line [] r.taken refl refl was (ran_led s.images s.breaks most s.machine)
    (fresh_run s.images s.breaks most s.machine s.is_fresh up)
    (fault_old s.images s.breaks most s.machine s.is_fresh up))
