-- Steps that are taken in slices come to what they come to at once.
use Rattle.std.proofs.Common.{◌≡◌, ◌≤◌, ◌<◌, ◌+◌, ◌-◌, ℕ, zero, suc, Bool, true, false, ◌&&◌, ◌==◌, List, ◌++◌, refl, ap, sym, ◌∙◌, arith, subst}
use Rattle.std.specs.Prelude.{Option, Some, None, OnOk, Result, Ok, Err, min, nat_le, if◌then◌else◌}
use Rattle.std.specs.Io.KnownBytes.{Appends}
use Rattle.std.proofs.lemmas.Bool.Decides.{nat_tests}
use Rattle.profile.proofs.OutputLemmas.{Appends-join}
use Rattle.debug_tables.specs.Answers.{stepped_text, stop_text}
use Rattle.debug_tables.specs.State.{IsAnswered, ScriptState}
use Rattle.debug_tables.specs.Stepping.{IsAfterRun, run_answer, script_after_run, script_run, step_answer}
use Rattle.profile.specs.images.Entries.{Entry}
use Rattle.profile.specs.declared.stop.Stop.{Stop}
use Rattle.profile.specs.declared.stop.Stop.TheVariants as stop
use Rattle.debug_tables.specs.Halt.{Halt}
use Rattle.debug_tables.specs.MachineState.{MachineState, StepOutcome}
use Rattle.debug_tables.specs.Run.{Run, go_on, is_among, ran, resting, run_after_steps, run_unless_halted, then_run}
use Rattle.debug_tables.specs.Step.{machine_step}
use Rattle.debug_tables.proofs.Runs.{halt-no_budget, runs_on}

branch_counts : (b : Bool) (a : StepOutcome) (n : ℕ) (r : Run) → (r.stop ≡ stop.Budget → r.taken ≡ n)
    → (let broken : Run = record { now = a.now; printed = a.printed; last = Some a.printed; taken = 1; stop = stop.Break a.now.cpu.pc } in
    (if b then broken else run_after_steps a.printed (Some a.printed) 1 r).stop ≡ stop.Budget
    → (if b then broken else run_after_steps a.printed (Some a.printed) 1 r).taken ≡ suc n)
branch_counts true a n r counts e = absurd (cc)
branch_counts false a n r counts e = let k = counts e in omega (arith, k)

step_counts : (breaks : List ℕ) (s : MachineState) (o : Option Halt) (a : StepOutcome) (ao : Option Halt) (n : ℕ) (rest : MachineState → Run)
    → ((x : MachineState) → (rest x).stop ≡ stop.Budget → (rest x).taken ≡ n)
    → (run_unless_halted s o (go_on breaks a ao rest)).stop ≡ stop.Budget
    → (run_unless_halted s o (go_on breaks a ao rest)).taken ≡ suc n
step_counts breaks s (Some h) a ao n rest counts e = absurd (halt-no_budget h e)
step_counts breaks s None a (Some h) n rest counts e = absurd (halt-no_budget h e)
step_counts breaks s None a None n rest counts e = branch_counts (is_among breaks a.now.cpu.pc) a n (rest a.now) (counts a.now) e

start_counts : (s : MachineState) (o : Option Halt) → (run_unless_halted s o (resting s stop.Budget)).stop ≡ stop.Budget
    → (run_unless_halted s o (resting s stop.Budget)).taken ≡ 0
start_counts s (Some h) e = absurd (halt-no_budget h e)
start_counts s None e = refl

-- where the budget is used up, each step counts
pub all_count : (images : List Entry) (breaks : List ℕ) (n : ℕ) (s : MachineState) → (ran images breaks n s).stop ≡ stop.Budget
    → (ran images breaks n s).taken ≡ n
unfolding ran
all_count images breaks zero s e = start_counts s s.halt e
all_count images breaks (suc n) s e =
    step_counts breaks s s.halt (machine_step images s) (machine_step images s).now.halt n (ran images breaks n)
    (λ x h. all_count images breaks n x h) e

-- what a slice of a run leaves to do
pub record IsSlice (s : ScriptState) (most : ℕ) (now : ScriptState) (left : ℕ) (before mid : Option (List ℕ)) : Type 0 where
  pub enough : left ≤ now.left
  pub rest : (end : ScriptState) (after : Option (List ℕ)) (x : Stop)
      → IsAfterRun now left end mid after (script_run now left).taken x
      → IsAfterRun s most end before after (script_run s most).taken x

-- A SLICE THAT ENDS OTHERWISE THAN BY THE BUDGET IS THE WHOLE RUN

branch_ends : (b : Bool) (a : StepOutcome) (r r' : Run) → ((r.stop ≡ stop.Budget → ⊥) → r' ≡ r)
    → (let broken : Run = record { now = a.now; printed = a.printed; last = Some a.printed; taken = 1; stop = stop.Break a.now.cpu.pc } in
    ((if b then broken else run_after_steps a.printed (Some a.printed) 1 r).stop ≡ stop.Budget → ⊥)
    → (if b then broken else run_after_steps a.printed (Some a.printed) 1 r')
    ≡ (if b then broken else run_after_steps a.printed (Some a.printed) 1 r))
branch_ends true a r r' same e = refl
branch_ends false a r r' same e = ap (λ (x : Run). run_after_steps a.printed (Some a.printed) 1 x) (same e)

step_ends : (breaks : List ℕ) (s : MachineState) (o : Option Halt) (a : StepOutcome) (ao : Option Halt) (rest rest' : MachineState → Run)
    → ((x : MachineState) → ((rest x).stop ≡ stop.Budget → ⊥) → rest' x ≡ rest x)
    → ((run_unless_halted s o (go_on breaks a ao rest)).stop ≡ stop.Budget → ⊥)
    → run_unless_halted s o (go_on breaks a ao rest') ≡ run_unless_halted s o (go_on breaks a ao rest)
step_ends breaks s (Some h) a ao rest rest' same e = refl
step_ends breaks s None a (Some h) rest rest' same e = refl
step_ends breaks s None a None rest rest' same e =
    branch_ends (is_among breaks a.now.cpu.pc) a (rest a.now) (rest' a.now) (same a.now) e

start_ends : (images : List Entry) (breaks : List ℕ) (m : ℕ) (s : MachineState) (o : Option Halt) → s.halt ≡ o
    → ((run_unless_halted s o (resting s stop.Budget)).stop ≡ stop.Budget → ⊥)
    → ran images breaks m s ≡ run_unless_halted s o (resting s stop.Budget)
unfolding ran
start_ends images breaks zero s (Some h) is e = rw is refl
start_ends images breaks (suc m) s (Some h) is e = rw is refl
start_ends images breaks m s None is e = absurd (e refl)

ended : (images : List Entry) (breaks : List ℕ) (n m : ℕ) (s : MachineState) → ((ran images breaks n s).stop ≡ stop.Budget → ⊥)
    → ran images breaks (n + m) s ≡ ran images breaks n s
unfolding ran
ended images breaks zero m s e = let k : 0 + m ≡ m = omega arith in
    ap (λ (x : ℕ). ran images breaks x s) k ∙ start_ends images breaks m s s.halt refl e
ended images breaks (suc n) m s e = let k : suc n + m ≡ suc (n + m) = omega arith in
    ap (λ (x : ℕ). ran images breaks x s) k
    ∙ step_ends breaks s s.halt (machine_step images s) (machine_step images s).now.halt (ran images breaks n) (ran images breaks (n + m))
    (λ x h. ended images breaks n m x h) e

-- SLICES

fresh_in_both : (b : Bool) (n m : ℕ) → (b && (n == 0)) && (m == 0) ≡ b && ((n + m) == 0)
fresh_in_both b n m = grind (arith, nat_tests)

after_both : (s : ScriptState) (n m : ℕ) (r q : Run)
    → script_after_run (script_after_run s n r) m q ≡ script_after_run s (n + m) (then_run r q)
after_both s n m r q =
    let fresh = fresh_in_both s.is_fresh n m in
    let left : s.left - r.taken - q.taken ≡ s.left - (r.taken + q.taken) = omega arith in
    λ i. record s { machine = q.now; is_fresh = fresh i; left = left i; last = Some q.stop }

more_from : (s end : ScriptState) (n m : ℕ) (before mid after : Option (List ℕ)) (x : Stop)
    → (script_run s n).stop ≡ stop.Budget → Appends before mid (script_run s n).printed
    → (let now = script_after_run s n (script_run s n) in IsAfterRun now m end mid after (script_run now m).taken x
    → IsAfterRun s (n + m) end before after (script_run s (n + m)).taken x)
more_from s end n m before mid after x budget text more =
    let first : Run = ran s.images s.breaks n s.machine in
    let second : Run = ran s.images s.breaks m first.now in
    let e : ran s.images s.breaks (n + m) s.machine ≡ then_run first second = runs_on s.images s.breaks n m s.machine budget in
    record {
      state = more.state ∙ after_both s n m first second ∙ ap (λ (r : Run). script_after_run s (n + m) r) (sym e);
      text = subst (λ (r : Run). Appends before after r.printed) (sym e)
          (Appends-join before mid after first.printed second.printed text more.text);
      count = refl;
      stop = more.stop ∙ ap (λ (r : Run). r.stop) (sym e);
    }

more : (s now end : ScriptState) (n m k : ℕ) (before mid after : Option (List ℕ)) (x : Stop)
    → IsAfterRun s n now before mid k stop.Budget → IsAfterRun now m end mid after (script_run now m).taken x
    → IsAfterRun s (n + m) end before after (script_run s (n + m)).taken x
more s now end n m k before mid after x done rest =
    more_from s end n m before mid after x (sym done.stop) done.text
    (subst (λ (t : ScriptState). IsAfterRun t m end mid after (script_run t m).taken x) done.state rest)

pub whole_slice : (s : ScriptState) (most : ℕ) (before : Option (List ℕ)) → most ≤ s.left → IsSlice s most s most before before
whole_slice s most before enough = record { enough = enough; rest = λ end after x is. is }

left_after : (s now : ScriptState) (n k : ℕ) (before mid : Option (List ℕ)) → IsAfterRun s n now before mid k stop.Budget
    → now.left ≡ s.left - n
left_after s now n k before mid done =
    ap (λ (t : ScriptState). t.left) done.state
    ∙ ap (λ (taken : ℕ). s.left - taken) (all_count s.images s.breaks n s.machine (sym done.stop))

pub next_slice : (s now next : ScriptState) (most left n k : ℕ) (before mid after : Option (List ℕ)) (x : Stop)
    → IsSlice s most now left before mid → n < left → IsAfterRun now (min n now.left) next mid after k x → x ≡ stop.Budget
    → IsSlice s most next (left - n) before after
next_slice s now next most left n k before mid after x slice few ran_so budget =
    let whole : min n now.left ≡ n = let enough = slice.enough in omega (arith, few, enough) in
    let done : IsAfterRun now n next mid after k stop.Budget =
    subst (λ (y : Stop). IsAfterRun now n next mid after k y) budget
    (subst (λ (m : ℕ). IsAfterRun now m next mid after k x) whole ran_so) in
    let less = left_after now next n k mid after done in
    let both : n + (left - n) ≡ left = omega (arith, few) in
    record {
      enough = let enough = slice.enough in omega (arith, less, enough);
      rest = λ end last y is. slice.rest end last y
          (subst (λ (m : ℕ). IsAfterRun now m end mid last (script_run now m).taken y) both
          (more now next end n (left - n) k mid after last y done is));
    }

fresh_in_more : (b : Bool) (n m : ℕ) → 0 < n → (b && (n == 0)) ≡ b && ((n + m) == 0)
fresh_in_more b n m some = grind (arith, nat_tests, some)

same_end : (s : ScriptState) (n m : ℕ) (r q : Run) → 0 < n → q ≡ r → script_after_run s n r ≡ script_after_run s (n + m) q
same_end s n m r q some same = (let fresh = fresh_in_more s.is_fresh n m some in
    λ i. record s { machine = r.now; is_fresh = fresh i; left = s.left - r.taken; last = Some r.stop })
    ∙ ap (λ (x : Run). script_after_run s (n + m) x) (sym same)

ended_early : (s end : ScriptState) (n m k : ℕ) (before after : Option (List ℕ)) (x : Stop) → 0 < n → (x ≡ stop.Budget → ⊥)
    → IsAfterRun s n end before after k x → IsAfterRun s (n + m) end before after (script_run s (n + m)).taken x
ended_early s end n m k before after x some other done =
    let same : script_run s (n + m) ≡ script_run s n = ended s.images s.breaks n m s.machine (λ e. other (done.stop ∙ e)) in
    record {
      state = done.state ∙ same_end s n m (script_run s n) (script_run s (n + m)) some same;
      text = subst (λ (r : Run). Appends before after r.printed) (sym same) done.text;
      count = refl;
      stop = done.stop ∙ ap (λ (r : Run). r.stop) (sym same);
    }

-- the run ends in this slice
pub last_slice : (s now end : ScriptState) (most left n k : ℕ) (before mid after : Option (List ℕ)) (x : Stop)
    → IsSlice s most now left before mid → 0 < n → n < left → (x ≡ stop.Budget → ⊥)
    → IsAfterRun now (min n now.left) end mid after k x → IsAfterRun s most end before after (script_run s most).taken x
last_slice s now end most left n k before mid after x slice some few other ran_so =
    let whole : min n now.left ≡ n = let enough = slice.enough in omega (arith, few, enough) in
    let both : n + (left - n) ≡ left = omega (arith, few) in
    slice.rest end after x
    (subst (λ (m : ℕ). IsAfterRun now m end mid after (script_run now m).taken x) both
    (ended_early now end n (left - n) k mid after x some other
    (subst (λ (m : ℕ). IsAfterRun now m end mid after k x) whole ran_so)))

-- nothing is left behind this slice
pub rest_slice : (s now end : ScriptState) (most left k : ℕ) (before mid after : Option (List ℕ)) (x : Stop)
    → IsSlice s most now left before mid → IsAfterRun now (min left now.left) end mid after k x
    → IsAfterRun s most end before after (script_run s most).taken x
rest_slice s now end most left k before mid after x slice ran_so =
    let whole : min left now.left ≡ left = let enough = slice.enough in omega (arith, enough) in
    let all = subst (λ (m : ℕ). IsAfterRun now m end mid after k x) whole ran_so in
    slice.rest end after x (record { state = all.state; text = all.text; count = refl; stop = all.stop })

-- WHAT IS Shown OF THEM

-- what a stop is shown as, behind what the steps printed
shown_by : (s now : ScriptState) (n k pc : ℕ) (before mid after : Option (List ℕ)) (x : Stop) (ending : Stop → ℕ → List ℕ)
    → IsAfterRun s n now before mid k x → pc ≡ now.machine.cpu.pc → Appends mid after (ending x pc)
    → (let r = script_run s n in Appends before after (r.printed ++ ending r.stop r.now.cpu.pc))
shown_by s now n k pc before mid after x ending done place reported =
    let r : Run = script_run s n in
    Appends-join before mid after r.printed (ending r.stop r.now.cpu.pc) done.text
    (subst (λ (y : Stop). Appends mid after (ending y r.now.cpu.pc)) done.stop
    (subst (λ (at : ℕ). Appends mid after (ending x at)) (place ∙ ap (λ (t : ScriptState). t.machine.cpu.pc) done.state) reported))

pub run_answered : {A E : Type 0} (result : Result A E) (s now : ScriptState) (left k pc : ℕ) (before mid after : Option (List ℕ))
    (x : Stop) → left ≡ s.left → IsAfterRun s (min left s.left) now before mid k x → pc ≡ now.machine.cpu.pc
    → OnOk result (Appends mid after (stop_text x pc)) → OnOk result (IsAnswered before after now (run_answer s))
run_answered (Err e) s now left k pc before mid after x all done place reported = tt
run_answered (Ok v) s now left k pc before mid after x all done place reported =
    let whole : min left s.left ≡ s.left = omega (arith, all) in
    let ran_so = subst (λ (n : ℕ). IsAfterRun s n now before mid k x) whole done in
    record { text = shown_by s now s.left k pc before mid after x stop_text ran_so place reported; state = ran_so.state }

pub step_answered : {A E : Type 0} (result : Result A E) (s now : ScriptState) (count k pc : ℕ) (could_all : Bool)
    (before mid after : Option (List ℕ)) (x : Stop) → could_all ≡ nat_le count s.left
    → IsAfterRun s (min count s.left) now before mid k x → pc ≡ now.machine.cpu.pc
    → OnOk result (Appends mid after (stepped_text could_all x pc)) → OnOk result (IsAnswered before after now (step_answer s count))
step_answered (Err e) s now count k pc could_all before mid after x all done place reported = tt
step_answered (Ok v) s now count k pc could_all before mid after x all done place reported = record {
  text = shown_by s now (min count s.left) k pc before mid after x (stepped_text (nat_le count s.left)) done place
      (subst (λ (b : Bool). Appends mid after (stepped_text b x pc)) all reported);
  state = done.state;
}
