-- How a machine's run ends, step by step: what stands after some steps and one more is what the
-- written run says.
use Rattle.std.proofs.Common.{◌≡◌, ◌≢◌, ◌<◌, ◌≤◌, ℕ, Bool, true, false, zero, suc, ◌+◌, ◌-◌, Option, Some, None, List, [], ◌++◌, refl, sym, ◌∙◌, ap, subst, arith, if◌then◌else◌, ◌&&◌, ◌==◌}
use Rattle.std.proofs.lemmas.Bool.Decides.{nat_tests}
use Rattle.std.proofs.lemmas.List.{append-nil}
use Rattle.profile.proofs.OutputLemmas.{Appends-join}
use Rattle.std.specs.Option.{option_map}
use Rattle.std.specs.Io.KnownBytes.{Appends}
use Rattle.profile.specs.Output.{AddsPart}
use Rattle.profile.specs.declared.stop.Stop.{Stop}
use Rattle.profile.specs.declared.stop.Stop.TheVariants as stop
use Rattle.swi_dispatch_plans.specs.Entries.{Entry}
use Rattle.swi_dispatch_guest.specs.declared.halt.Halt.{Halt}
use Rattle.swi_dispatch_guest.specs.MachineState.{MachineState, StepOutcome, stop_of}
use Rattle.swi_dispatch_guest.specs.Step.{machine_step}
use Rattle.swi_dispatch_guest.specs.Run.{Run, resting, run_after_steps, is_among, go_on, run_unless_halted, ran, then_run, later_text, last_or, silent_run, silent_last, stop_after, count_after}
use Rattle.swi_dispatch_guest.specs.Ending.{Ends, StandsAfter}
use Rattle.swi_dispatch_guest.proofs.RunLoop.{no_further_in, one_count, one_run, one_step, ran-halted, ran-none, steps_more}

last_or-later : (shown : List ℕ) (a b : Option (List ℕ)) → last_or (last_or shown a) b ≡ last_or shown (later_text a b)
last_or-later shown a None = refl
last_or-later shown a (Some x) = refl

pub ends_more : (images : List Entry) (breaks : List ℕ) (s0 s s' : MachineState) (n m : ℕ) (o0 o1 o2 : List ℕ) (c0 c1 c2 : Option (List ℕ)) (k : ℕ) (x : Stop)
    → Ends (ran images breaks n s0) s o0 o1 c0 c1 n stop.Budget → Ends (ran images breaks m s) s' o1 o2 c1 c2 k x
    → Ends (ran images breaks (n + m) s0) s' o0 o2 c0 c2 (n + k) x
ends_more images breaks s0 s s' n m o0 o1 o2 c0 c1 c2 k x done more =
    let first : Run = ran images breaks n s0 in
    let second : Run = ran images breaks m s in
    let e : ran images breaks (n + m) s0 ≡ then_run first second = steps_more images breaks s0 s n m (sym done.stop) done.machine in
    let text : Appends c0 c2 (first.printed ++ second.printed) = Appends-join c0 c1 c2 first.printed second.printed done.text more.text in
    let output : o2 ≡ last_or o0 (later_text first.last second.last) =
    more.shows ∙ ap (λ (o : List ℕ). last_or o second.last) done.shows ∙ last_or-later o0 first.last second.last in
    let count : n + k ≡ first.taken + second.taken = (let p : n ≡ first.taken = done.count in let q : k ≡ second.taken = more.count in cc) in
    let both : Ends (then_run first second) s' o0 o2 c0 c2 (n + k) x =
    record { machine = more.machine; text = text; shows = output; count = count; stop = more.stop } in
    subst (λ (r : Run). Ends r s' o0 o2 c0 c2 (n + k) x) (sym e) both

pub ends_start : (images : List Entry) (breaks : List ℕ) (s : MachineState) (o : List ℕ) (c : Option (List ℕ)) → s.halt ≡ None → Appends c c []
    → Ends (ran images breaks zero s) s o o c c 0 stop.Budget
ends_start images breaks s o c e nothing =
    let rests : Ends (resting s stop.Budget) s o o c c 0 stop.Budget = record { machine = refl; text = nothing; shows = refl; count = refl; stop = refl } in
    subst (λ (r : Run). Ends r s o o c c 0 stop.Budget) (sym (ran-none images breaks s e)) rests

pub ends_halted : (images : List Entry) (breaks : List ℕ) (budget : ℕ) (s : MachineState) (h : Halt) (x : Stop) (o : List ℕ) (c : Option (List ℕ))
    → s.halt ≡ Some h → x ≡ stop_of h → Appends c c [] → Ends (ran images breaks budget s) s o o c c 0 x
ends_halted images breaks budget s h x o c e end nothing =
    let rests : Ends (resting s (stop_of h)) s o o c c 0 x = record { machine = refl; text = nothing; shows = refl; count = refl; stop = end } in
    subst (λ (r : Run). Ends r s o o c c 0 x) (sym (ran-halted images breaks budget s h e)) rests

pub ends_early : (images : List Entry) (breaks : List ℕ) (n budget : ℕ) (s0 s : MachineState) (o0 o1 : List ℕ) (c0 c1 : Option (List ℕ)) (k : ℕ) (x : Stop)
    → n ≤ budget → x ≢ stop.Budget → Ends (ran images breaks n s0) s o0 o1 c0 c1 k x → Ends (ran images breaks budget s0) s o0 o1 c0 c1 k x
ends_early images breaks n budget s0 s o0 o1 c0 c1 k x le other ends =
    let e : ran images breaks budget s0 ≡ ran images breaks n s0 = no_further_in images breaks n budget s0 le (λ b. other (ends.stop ∙ b)) in
    subst (λ (r : Run). Ends r s o0 o1 c0 c1 k x) (sym e) ends

pub stands_more : (images : List Entry) (breaks : List ℕ) (s0 s s' : MachineState) (n budget : ℕ) (o0 o1 o2 : List ℕ) (c0 c1 c2 : Option (List ℕ)) → n < budget
    → Ends (ran images breaks n s0) s o0 o1 c0 c1 n stop.Budget → s' ≡ (ran images breaks 1 s).now → Some o2 ≡ (ran images breaks 1 s).last
    → AddsPart c1 c2 o2 → StandsAfter images breaks budget s0 s' o2 c0 c2
stands_more images breaks s0 s s' n budget o0 o1 o2 c0 c1 c2 lt done one last part =
    let e = steps_more images breaks s0 s n 1 (sym done.stop) done.machine in
    let later_one : Some o2 ≡ later_text (ran images breaks n s0).last (ran images breaks 1 s).last =
    ap (later_text (ran images breaks n s0).last) last in
    record {
      taken = n;
      within = lt;
      goes_on = sym done.stop;
      machine = one ∙ ap (λ (r : Run). r.now) (sym e);
      shows = later_one ∙ ap (λ (r : Run). r.last) (sym e);
      between = c1;
      written = done.text;
      part = part;
    }

-- one step of a machine that isn't halted, and what it printed written
pub ends_one : (images : List Entry) (breaks : List ℕ) (s : MachineState) (a : StepOutcome) (o : List ℕ) (c0 c1 : Option (List ℕ)) (k : ℕ) (x : Stop)
    → s.halt ≡ None → a ≡ machine_step images s → Appends c0 c1 a.printed
    → k ≡ count_after a.now.halt → x ≡ stop_after breaks a.now a.now.halt → Ends (ran images breaks 1 s) a.now o a.printed c0 c1 k x
ends_one images breaks s a o c0 c1 k x unhalted after text count end =
    let e : ran images breaks 1 s ≡ one_step breaks a a.now.halt = one_run images breaks s unhalted ∙ ap (λ (b : StepOutcome). one_step breaks b b.now.halt) (sym after) in
    let one : Ends (one_step breaks a a.now.halt) a.now o a.printed c0 c1 k x = record { machine = refl; text = text; shows = refl; count = count; stop = end } in
    subst (λ (r : Run). Ends r a.now o a.printed c0 c1 k x) (sym e) one

pub stands_one : (images : List Entry) (breaks : List ℕ) (s : MachineState) (a : StepOutcome) → s.halt ≡ None → a ≡ machine_step images s
    → (a.now ≡ (ran images breaks 1 s).now) × (Some a.printed ≡ (ran images breaks 1 s).last)
stands_one images breaks s a unhalted after =
    let e : one_step breaks a a.now.halt ≡ ran images breaks 1 s = ap (λ (b : StepOutcome). one_step breaks b b.now.halt) after ∙ sym (one_run images breaks s unhalted) in
    (ap (λ (r : Run). r.now) e, ap (λ (r : Run). r.last) e)

pub ends_stopped : (images : List Entry) (breaks : List ℕ) (budget : ℕ) (s : MachineState) (h : Option Halt) (x : Stop) (o : List ℕ) (c : Option (List ℕ))
    → s.halt ≡ h → Some x ≡ option_map stop_of h → Appends c c [] → Ends (ran images breaks budget s) s o o c c 0 x
ends_stopped images breaks budget s (Some h) x o c e stopped nothing = let k : x ≡ stop_of h = cc in ends_halted images breaks budget s h x o c e k nothing
ends_stopped images breaks budget s None x o c e stopped nothing = cc

-- a step that ends with the budget counts
pub one_taken : (images : List Entry) (breaks : List ℕ) (s s' : MachineState) (o0 o1 : List ℕ) (c0 c1 : Option (List ℕ)) (k : ℕ) (x : Stop) → s.halt ≡ None
    → Ends (ran images breaks 1 s) s' o0 o1 c0 c1 k x → x ≡ stop.Budget → k ≡ 1
one_taken images breaks s s' o0 o1 c0 c1 k x unhalted ends budget =
    let e : ran images breaks 1 s ≡ one_step breaks (machine_step images s) (machine_step images s).now.halt = one_run images breaks s unhalted in
    let b : stop_after breaks (machine_step images s).now (machine_step images s).now.halt ≡ stop.Budget = ap (λ (r : Run). r.stop) (sym e) ∙ sym ends.stop ∙ budget in
    ends.count ∙ ap (λ (r : Run). r.taken) e ∙ one_count breaks (machine_step images s).now (machine_step images s).now.halt b

-- one step more, of which the run goes on
pub ends_on : (images : List Entry) (breaks : List ℕ) (s0 s s' : MachineState) (n : ℕ) (o0 o1 o2 : List ℕ) (c0 c1 c2 : Option (List ℕ)) (k : ℕ) (x : Stop) → s.halt ≡ None
    → Ends (ran images breaks n s0) s o0 o1 c0 c1 n stop.Budget → Ends (ran images breaks 1 s) s' o1 o2 c1 c2 k x → x ≡ stop.Budget
    → Ends (ran images breaks (n + k) s0) s' o0 o2 c0 c2 (n + k) stop.Budget
ends_on images breaks s0 s s' n o0 o1 o2 c0 c1 c2 k x unhalted done one budget =
    let count : k ≡ 1 = one_taken images breaks s s' o1 o2 c1 c2 k x unhalted one budget in
    let all : Ends (ran images breaks (n + 1) s0) s' o0 o2 c0 c2 (n + k) x = ends_more images breaks s0 s s' n 1 o0 o1 o2 c0 c1 c2 k x done one in
    subst (λ (y : Stop). Ends (ran images breaks (n + k) s0) s' o0 o2 c0 c2 (n + k) y) budget
    (subst (λ (j : ℕ). Ends (ran images breaks (n + j) s0) s' o0 o2 c0 c2 (n + k) x) (sym count) all)

-- steps that the core does by itself
silent_ends : (s : MachineState) (k : ℕ) (x : Stop) (o1 o2 : List ℕ) (c : Option (List ℕ)) → Appends c c [] → o2 ≡ last_or o1 (silent_last k)
    → Ends (silent_run s k x) s o1 o2 c c k x
silent_ends s zero x o1 o2 c nothing e = record { machine = refl; text = nothing; shows = e; count = refl; stop = refl }
silent_ends s (suc m) x o1 o2 c nothing e = record { machine = refl; text = nothing; shows = e; count = refl; stop = refl }

pub ends_silent : (images : List Entry) (breaks : List ℕ) (s0 s s' : MachineState) (n k : ℕ) (x : Stop) (o0 o1 o2 : List ℕ) (c0 c1 : Option (List ℕ)) → Appends c1 c1 []
    → Ends (ran images breaks n s0) s o0 o1 c0 c1 n stop.Budget → ran images breaks k s ≡ silent_run s' k x → o2 ≡ last_or o1 (silent_last k)
    → Ends (ran images breaks (n + k) s0) s' o0 o2 c0 c1 (n + k) x
ends_silent images breaks s0 s s' n k x o0 o1 o2 c0 c1 nothing done silent output =
    ends_more images breaks s0 s s' n k o0 o1 o2 c0 c1 c1 k x done
    (subst (λ (r : Run). Ends r s' o1 o2 c1 c1 k x) (sym silent) (silent_ends s' k x o1 o2 c1 nothing output))

-- A run that ended for another reason than its budget, or has used it up, is the whole run.
pub ends_all : (images : List Entry) (breaks : List ℕ) (s0 s : MachineState) (n budget : ℕ) (x : Stop) (o0 o1 : List ℕ) (c0 c1 : Option (List ℕ)) → n ≤ budget
    → (x ≡ stop.Budget → n ≡ budget) → Ends (ran images breaks n s0) s o0 o1 c0 c1 n x → Ends (ran images breaks budget s0) s o0 o1 c0 c1 n x
ends_all images breaks s0 s n budget stop.Budget o0 o1 c0 c1 within all done =
    subst (λ (k : ℕ). Ends (ran images breaks k s0) s o0 o1 c0 c1 n stop.Budget) (all refl) done
ends_all images breaks s0 s n budget stop.Exit o0 o1 c0 c1 within all done =
    let other : stop.Exit ≢ stop.Budget = λ e. cc in ends_early _ _ _ _ _ _ _ _ _ _ _ _ within other done
ends_all images breaks s0 s n budget (stop.Break a) o0 o1 c0 c1 within all done =
    let other : stop.Break a ≢ stop.Budget = λ e. cc in ends_early _ _ _ _ _ _ _ _ _ _ _ _ within other done
ends_all images breaks s0 s n budget (stop.Fault f) o0 o1 c0 c1 within all done =
    let other : stop.Fault f ≢ stop.Budget = λ e. cc in ends_early _ _ _ _ _ _ _ _ _ _ _ _ within other done
