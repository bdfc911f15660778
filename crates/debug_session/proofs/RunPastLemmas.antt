-- What runs of a debugger did to the machine: runs with watches and stubs, to a goal, or of a routine, and where no
-- step was taken.
use Rattle.std.proofs.Common.{◌≡◌, ◌<◌, ◌≤◌, ℕ, zero, suc, ◌-◌, ◌==◌, ◌&&◌, Bool, true, false, List, Option, Some, None, refl, sym, ◌∙◌, ap, subst, arith}
use Rattle.std.specs.Prelude.{is_some, not, ◌||◌}
use Rattle.std.proofs.Math.Bool.{and-false}
use Rattle.std.proofs.lemmas.Bool.Decides.{nat_tests}
use Rattle.profile.specs.declared.stop.Stop.{Stop}
use Rattle.profile.specs.declared.stop.Stop.TheVariants as stop
use Rattle.debug_modules.specs.Labels.{ImageLabels}
use Rattle.debug_tables.specs.Halt.{Halt}
use Rattle.debug_tables.specs.Halt.TheVariants as halt
use Rattle.debug_tables.specs.MachineState.{StepOutcome, stop_of}
use Rattle.debug_tables.specs.Run.{count_after}
use Rattle.debug_tables.specs.Calls.{step_made, stop_before_step_by}
use Rattle.debug_tables.specs.Memory.{script_with_last}
use Rattle.debug_tables.specs.CallEnd.TheVariants as cend
use Rattle.debug_tables.proofs.CallLemmas.{can_step}
use Rattle.debug_tables.specs.State.{ScriptState}
use Rattle.debug_tables.specs.declared.modes.StepModes.{StepModes}
use Rattle.command_shell_lines.specs.declared.debug_words.stubs.Stub.{Stub}
use Rattle.debug_modules.specs.Endings.{line_end_answer, line_stop_answer}
use Rattle.debug_modules.specs.Lines.{answer_unless}
use Rattle.debug_modules.specs.Runs.{SteppingRun, end_after, next_step, run_behind, run_end_by, run_ended, run_unless, steps_run, text_of_next}
use Rattle.debug_modules.specs.TraceWriter.{one_answer}
use Rattle.debug_modules.specs.EndKind.{EndKind}
use Rattle.debug_modules.specs.EndKind.TheVariants as kind
use Rattle.debug_modules.specs.RunEnd.{RunEnd}
use Rattle.debug_modules.specs.RunEnd.TheVariants as end
use Rattle.debug_modules.specs.RunGoal.{RunGoal}
use Rattle.debug_modules.specs.DebugHistoryLaws.{IsPastOf}
use Rattle.debug_modules.specs.Noted.{is_faulted, past_with_stubbed}
use Rattle.debug_modules.specs.Past.{PastState}
use Rattle.debug_modules.proofs.CallNotedLemmas.{IsCalled, called_end, called_on, none_taken}
use Rattle.debug_modules.proofs.NotedLemmas.{led_more, led_nowhere, steps_noted}
use Rattle.debug_session.specs.History.{IsUnhaltedWhereFresh}

-- RUNS

-- the state that a run leaves, as a call leaves it
abbrev pub left_by : SteppingRun → ScriptState
left_by r = (line_end_answer kind.Call r.now r.ended).state

ended_called : (stubs : List Stub) (s : ScriptState) (e : RunEnd) → IsCalled stubs s (left_by (run_ended s e))
ended_called stubs s end.Reached = called_end stubs s cend.Returned
ended_called stubs s (end.Watched hit) = called_end stubs s (cend.Stopped (stop.Break s.machine.cpu.pc))
ended_called stubs s (end.Stopped x) = called_end stubs s (cend.Stopped x)

pub unless_called : (stubs : List Stub) (after : ScriptState) (e : Option RunEnd) (rest : SteppingRun) (text printed : List ℕ)
    → (e ≡ None → IsCalled stubs after (left_by rest)) → IsCalled stubs after (left_by (run_behind text printed (run_unless after e rest)))
unless_called stubs after (Some e) rest text printed more = ended_called stubs after e
unless_called stubs after None rest text printed more = more refl

pub halted_end : (watches : List ℕ) (g : RunGoal) (s after : ScriptState) (rest : SteppingRun) (text printed : List ℕ) (h : Halt)
    → after.machine.halt ≡ Some h
    → left_by (run_behind text printed (run_unless after (end_after watches g s after) rest)) ≡ script_with_last after (stop_of h)
unfolding end_after
halted_end watches g s after rest text printed h is =
    ap (λ (o : Option Halt). left_by (run_behind text printed (run_unless after (run_end_by watches g s after o) rest))) is

goes_by : (watches : List ℕ) (g : RunGoal) (s after : ScriptState) (o : Option Halt) → run_end_by watches g s after o ≡ None → o ≡ None
goes_by watches g s after None none = refl
goes_by watches g s after (Some h) none = absurd (cc)

pub goes_unhalted : (watches : List ℕ) (g : RunGoal) (s after : ScriptState) → end_after watches g s after ≡ None → after.machine.halt ≡ None
unfolding end_after
goes_unhalted watches g s after none = goes_by watches g s after after.machine.halt none

-- as many steps are left after one that doesn't end a run
pub enough_after : (watches : List ℕ) (g : RunGoal) (s : ScriptState) (a : StepOutcome) (n : ℕ) → suc n ≤ s.left
    → end_after watches g s (step_made s a) ≡ None → n ≤ (step_made s a).left
enough_after watches g s a n enough none =
    let count : count_after a.now.halt ≡ 1 = ap count_after (goes_unhalted watches g s (step_made s a) none) in
    omega (arith, count, enough)

pub run_called : (modes : StepModes) (labels : List ImageLabels) (g : RunGoal) (n : ℕ) (o : Option ℕ) (s : ScriptState)
    → s.is_fresh ≡ false → n ≤ s.left → IsCalled modes.stubs s (left_by (steps_run modes labels g n o s))
unfolding steps_run
run_called modes labels g zero o s old enough = ended_called modes.stubs s (end.Stopped stop.Budget)
run_called modes labels g (suc n) o s old enough =
    let a : StepOutcome = next_step modes s in
    let after : ScriptState = step_made s a in
    let some : 0 < s.left = omega (arith, enough) in
    let rest : SteppingRun = steps_run modes labels g n (one_answer o) after in
    let text : List ℕ = text_of_next modes labels o s in
    called_on modes.stubs s (left_by (run_behind text a.printed (run_unless after (end_after modes.watches g s after) rest))) a.now.halt
    old some refl
    (unless_called modes.stubs after (end_after modes.watches g s after) rest text a.printed
    (λ e. run_called modes labels g n (one_answer o) after refl (enough_after modes.watches g s a n enough e)))
    (λ h halted. halted_end modes.watches g s after rest text a.printed h halted)

-- whether a machine is fresh plays no part in a run's steps
first_same : (modes : StepModes) (labels : List ImageLabels) (g : RunGoal) (n : ℕ) (o : Option ℕ) (s : ScriptState)
    → steps_run modes labels g (suc n) o (record s { is_fresh = false }) ≡ steps_run modes labels g (suc n) o s
unfolding steps_run end_after
first_same modes labels g n o s = refl

-- HOW MANY STEPS

pub ended_left : (s : ScriptState) (e : RunEnd) → (left_by (run_ended s e)).left ≡ s.left
ended_left s end.Reached = refl
ended_left s (end.Watched hit) = refl
ended_left s (end.Stopped x) = refl

unless_less : (after : ScriptState) (e : Option RunEnd) (rest : SteppingRun) (text printed : List ℕ) (most : ℕ)
    → after.left ≤ most → (left_by rest).left ≤ after.left → (left_by (run_behind text printed (run_unless after e rest))).left ≤ most
unless_less after (Some e) rest text printed most enough less = let same = ended_left after e in omega (arith, same, enough)
unless_less after None rest text printed most enough less = omega (arith, less, enough)

pub run_less : (modes : StepModes) (labels : List ImageLabels) (g : RunGoal) (n : ℕ) (o : Option ℕ) (s : ScriptState)
    → (left_by (steps_run modes labels g n o s)).left ≤ s.left
unfolding steps_run
run_less modes labels g zero o s = omega arith
run_less modes labels g (suc n) o s =
    let a : StepOutcome = next_step modes s in
    let after : ScriptState = step_made s a in
    unless_less after (end_after modes.watches g s after) (steps_run modes labels g n (one_answer o) after) (text_of_next modes labels o s) a.printed
    s.left (omega arith) (run_less modes labels g n (one_answer o) after)

-- a step is counted, unless it ends in a fault
pub stepped_some : (watches : List ℕ) (g : RunGoal) (s : ScriptState) (a : StepOutcome) (rest : SteppingRun) (text : List ℕ) (h : Option Halt)
    → a.now.halt ≡ h → 0 < s.left → (left_by rest).left ≤ (step_made s a).left
    → (let final = left_by (run_behind text a.printed (run_unless (step_made s a) (end_after watches g s (step_made s a)) rest)) in
    is_faulted final.machine.halt ≡ false → final.left < s.left)
stepped_some watches g s a rest text None is some less unfaulted =
    let after : ScriptState = step_made s a in
    let count : after.left ≡ s.left - 1 = ap (λ (o : Option Halt). s.left - count_after o) is in
    let enough : after.left ≤ s.left - 1 = omega (arith, count) in
    let most = unless_less after (end_after watches g s after) rest text a.printed (s.left - 1) enough less in
    omega (arith, most, some)
stepped_some watches g s a rest text (Some halt.Exit) is some less unfaulted =
    let after : ScriptState = step_made s a in
    let count : after.left ≡ s.left - 1 = ap (λ (o : Option Halt). s.left - count_after o) is in
    let enough : after.left ≤ s.left - 1 = omega (arith, count) in
    let most = unless_less after (end_after watches g s after) rest text a.printed (s.left - 1) enough less in
    omega (arith, most, some)
stepped_some watches g s a rest text (Some (halt.Fault f)) is some less unfaulted =
    let after : ScriptState = step_made s a in
    let final : ScriptState = left_by (run_behind text a.printed (run_unless after (end_after watches g s after) rest)) in
    let there : final ≡ script_with_last after (stop_of (halt.Fault f)) = halted_end watches g s after rest text a.printed (halt.Fault f) is in
    let same : is_faulted final.machine.halt ≡ is_faulted a.now.halt = ap (λ (t : ScriptState). is_faulted t.machine.halt) there in
    let faulted : is_faulted a.now.halt ≡ true = ap is_faulted is in
    absurd (cc (same, faulted, unfaulted))

run_some : (modes : StepModes) (labels : List ImageLabels) (g : RunGoal) (n : ℕ) (o : Option ℕ) (s : ScriptState) → 0 < s.left
    → (let final = left_by (steps_run modes labels g (suc n) o s) in is_faulted final.machine.halt ≡ false → final.left < s.left)
unfolding steps_run
run_some modes labels g n o s some =
    let a : StepOutcome = next_step modes s in
    let after : ScriptState = step_made s a in
    stepped_some modes.watches g s a (steps_run modes labels g n (one_answer o) after) (text_of_next modes labels o s) a.now.halt refl some
    (run_less modes labels g n (one_answer o) after)

-- what a run leaves that took a step, of a machine that may be fresh
pub record IsRun (stubs : List Stub) (s final : ScriptState) : Type 0 where
  pub called : IsCalled stubs (record s { is_fresh = false }) final
  pub some : is_faulted final.machine.halt ≡ false → final.left < s.left

pub steps_some : (modes : StepModes) (labels : List ImageLabels) (g : RunGoal) (most : ℕ) (o : Option ℕ) (s : ScriptState) → most ≤ s.left
    → stop_before_step_by s.machine.halt most ≡ None
    → (let final = left_by (steps_run modes labels g most o s) in is_faulted final.machine.halt ≡ false → final.left < s.left)
steps_some modes labels g zero o s enough can = let some = can_step s.machine.halt zero can in absurd (omega (arith, some))
steps_some modes labels g (suc n) o s enough can = run_some modes labels g n o s (omega (arith, enough))

pub steps_are_run : (modes : StepModes) (labels : List ImageLabels) (g : RunGoal) (most : ℕ) (o : Option ℕ) (s : ScriptState)
    → most ≤ s.left → stop_before_step_by s.machine.halt most ≡ None → IsRun modes.stubs s (left_by (steps_run modes labels g most o s))
steps_are_run modes labels g zero o s enough can = let some = can_step s.machine.halt zero can in absurd (omega (arith, some))
steps_are_run modes labels g (suc n) o s enough can =
    let old : ScriptState = record s { is_fresh = false } in
    record {
      called = subst (λ (r : SteppingRun). IsCalled modes.stubs old (left_by r)) (first_same modes labels g n o s)
          (run_called modes labels g (suc n) o old refl enough);
      some = run_some modes labels g n o s (omega (arith, enough));
    }

-- a line of steps alone differs from a call in the last stop alone
pub steps_like_calls : (stubs : List Stub) (could_all : Bool) (s now : ScriptState) (e : RunEnd)
    → IsRun stubs s (line_end_answer kind.Call now e).state → IsRun stubs s (line_end_answer (kind.Steps could_all) now e).state
steps_like_calls stubs could_all s now end.Reached is =
    let t = is.called in
    record {
      called = record { images = t.images; sizes = t.sizes; fresh = t.fresh; less = t.less; led = t.led };
      some = is.some;
    }
steps_like_calls stubs could_all s now (end.Watched hit) is = is
steps_like_calls stubs could_all s now (end.Stopped x) is = is

-- WHAT IS KEPT

none_fresh : (b : Bool) (n : ℕ) → 0 < n → (b && (n == 0)) ≡ false
none_fresh b n some = grind (arith, nat_tests, some)

still_fresh : (b : Bool) (n : ℕ) → b ≡ (b && ((n - n) == 0))
still_fresh b n = grind (arith, nat_tests)

faulted_old : (b : Bool) (o : Option Halt) → (b ≡ true → o ≡ None) → is_faulted o ≡ true → b ≡ false
faulted_old false o up is = refl
faulted_old true o up is = let none = ap is_faulted (up refl) in absurd (cc (none, is))

abbrev pub IsNoted : List Stub → ScriptState → ScriptState → PastState → ℕ → Type 0
IsNoted stubs s t p line = IsPastOf t (past_with_stubbed p line stubs (s.left - t.left) (is_faulted t.machine.halt))

pub run_noted : (stubs : List Stub) (s final : ScriptState) (p : PastState) (line : ℕ) → IsPastOf s p → IsRun stubs s final
    → IsNoted stubs s final p line
run_noted stubs s final p line was is =
    let t = is.called in
    let fresh : final.is_fresh ≡ false = t.fresh in
    steps_noted s final p line stubs (s.left - final.left) t.images t.sizes was t.led
    (λ e. let some = is.some e in fresh ∙ sym (none_fresh s.is_fresh (s.left - final.left) (omega (arith, some)))) (λ e. fresh)

pub stopped_noted : (stubs : List Stub) (s : ScriptState) (p : PastState) (line : ℕ) (x : Option Stop) → IsUnhaltedWhereFresh s
    → IsPastOf s p → IsNoted stubs s (record s { last = x }) p line
stopped_noted stubs s p line x up was =
    steps_noted s (record s { last = x }) p line stubs (s.left - s.left) refl refl was
    (led_more stubs s.images s.machine s.machine 0 (s.left - s.left) (none_taken s.left) (led_nowhere stubs s.images s.machine))
    (λ e. still_fresh s.is_fresh s.left) (λ e. faulted_old s.is_fresh s.machine.halt up e)

stop_state : (k : EndKind) (s : ScriptState) (x : Stop) → script_with_last s x ≡ (line_stop_answer k s x).state
stop_state (kind.Steps could_all) s x = refl
stop_state kind.Call s x = refl
stop_state (kind.Routine caller) s x = refl

pub unless_noted : (stubs : List Stub) (o : Option ℕ) (s : ScriptState) (k : EndKind) (r : SteppingRun) (x : Option Stop) (p : PastState)
    (line : ℕ) → IsUnhaltedWhereFresh s → IsPastOf s p → (x ≡ None → IsRun stubs s (line_end_answer k r.now r.ended).state)
    → IsNoted stubs s (answer_unless o s k r x).now p line
unless_noted stubs o s k r (Some x) p line up was more =
    subst (λ (t : ScriptState). IsNoted stubs s t p line) (stop_state k s x) (stopped_noted stubs s p line (Some x) up was)
unless_noted stubs o s k r None p line up was more =
    run_noted stubs s (line_end_answer k r.now r.ended).state p line was (more refl)

-- A line that could take a step isn't idle.
busy_by : (taken : ℕ) (faulted : Bool) → (faulted ≡ false → 0 < taken) → ((taken == 0) && not faulted) ≡ false
busy_by taken true some = and-false (taken == 0)
busy_by taken false some = let more = some refl in grind (arith, nat_tests, more)

pub busy : (o : Option Halt) (most taken : ℕ) (faulted : Bool) → stop_before_step_by o most ≡ None → (faulted ≡ false → 0 < taken)
    → (is_some o || ((taken == 0) && not faulted)) ≡ false
busy (Some h) most taken faulted can some = absurd (cc)
busy None most taken faulted can some = busy_by taken faulted some
