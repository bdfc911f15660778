-- How a call goes on from one step to the next, and how it ends.
use Rattle.std.proofs.Common.{◌≡◌, ℕ, zero, suc, ◌<◌, ◌-◌, ◌++◌, false, List, Option, Some, None, Result, Ok, Err, sym, ap, arith, refl, subst, ◌∙◌, Bool, true, length, []}
use Rattle.std.proofs.lemmas.List.{append-nil}
use Rattle.std.proofs.lemmas.Bool.Decides.{nat_tests}
use Rattle.std.specs.Prelude.{OnOk, ◌==◌, if◌then◌else◌}
use Rattle.std.specs.Io.KnownBytes.{Appends}
use Rattle.profile.specs.declared.stop.Stop.{Stop}
use Rattle.profile.specs.declared.stop.Stop.TheVariants as stop
use Rattle.profile.specs.Output.{AddsAllBut}
use Rattle.profile.proofs.OutputLemmas.{AddsAllBut-start, AddsAllBut-more, Appends-from_all_but}
use Rattle.debugger.specs.Halt.{Halt}
use Rattle.debugger.specs.Halt.TheVariants as halt
use Rattle.debugger.specs.MachineState.{StepOutcome, stop_of}
use Rattle.debugger.specs.Run.{count_after, is_among}
use Rattle.debugger.specs.Step.{machine_step}
use Rattle.command_shell.specs.Calls.{call_done, call_end, call_end_by, call_made, call_unless, end_answer, answer_after_steps, finished_by, step_made, step_then, stop_before_step, stop_before_step_by, stop_answer}
use Rattle.command_shell.specs.State.{ScriptState, Answered, IsAnswered}
use Rattle.command_shell.specs.declared.calls.CallEnd.{CallEnd}
use Rattle.command_shell.specs.declared.calls.CallEnd.TheVariants as end
pub use Rattle.command_shell.proofs.FaultLemmas.{at_ok}

pub can_step : (o : Option Halt) (left : ℕ) → stop_before_step_by o left ≡ None → 0 < left
can_step (Some halt) left none = absurd (cc)
can_step None left none = grind (arith, nat_tests, none)

-- a call that can't take its first step
pub call_refused : (w : ScriptState) (first : StepOutcome) (stop : Stop) → stop_before_step w ≡ Some stop
    → call_made w first ≡ stop_answer w stop
unfolding call_made
call_refused w first stop e = ap (call_unless w first) e

-- and one that can
pub call_allowed : (w : ScriptState) (first : StepOutcome) → stop_before_step w ≡ None
    → call_made w first ≡ call_done w first
unfolding call_made
call_allowed w first e = ap (call_unless w first) e

-- the step that a call takes next
abbrev pub next_step : ScriptState → StepOutcome
next_step s = machine_step s.images s.machine

-- a call that goes no further
pub finished_ends : (frames n : ℕ) (s : ScriptState) (e : CallEnd) → call_end s frames ≡ Some e
    → answer_after_steps frames n s ≡ end_answer s e
unfolding answer_after_steps
finished_ends frames zero s e h = ap (λ o. finished_by s o (stop_answer s stop.Budget)) h
finished_ends frames (suc n) s e h = ap (λ o. finished_by s o (step_then s (next_step s) (answer_after_steps frames n))) h

-- one that does
finished_on : (frames n : ℕ) (s : ScriptState) → call_end s frames ≡ None
    → answer_after_steps frames (suc n) s ≡ step_then s (next_step s) (answer_after_steps frames n)
unfolding answer_after_steps
finished_on frames n s h = ap (λ o. finished_by s o (step_then s (next_step s) (answer_after_steps frames n))) h

-- where a call goes on, nothing halts the machine
unhalted_by : (s : ScriptState) (frames : ℕ) (o : Option Halt) → call_end_by s frames o ≡ None → o ≡ None
unhalted_by s frames (Some h) none = absurd (cc)
unhalted_by s frames None none = refl

-- and a step is left of the budget
budget_by : (s : ScriptState) (broken : Stop) (back among : Bool)
    → (if back then Some end.Returned else (
    if among then Some (end.Stopped broken) else (
    if s.left == 0 then Some (end.Stopped stop.Budget) else
    None))) ≡ None
    → 0 < s.left
budget_by s broken true among none = absurd (cc)
budget_by s broken false true none = absurd (cc)
budget_by s broken false false none = grind (arith, nat_tests, none)

pub goes_left : (s : ScriptState) (frames : ℕ) → call_end s frames ≡ None → 0 < s.left
unfolding call_end
goes_left s frames none =
    budget_by s (stop.Break s.machine.cpu.pc) (length s.machine.tables.frames == frames)
    (is_among s.breaks s.machine.cpu.pc)
    (ap (call_end_by s frames) (sym (unhalted_by s frames s.machine.halt none)) ∙ none)

pub halted_ends : (s : ScriptState) (frames : ℕ) (h : Halt) → s.machine.halt ≡ Some h
    → call_end s frames ≡ Some (end.Stopped (stop_of h))
unfolding call_end
halted_ends s frames h is = ap (call_end_by s frames) is

-- After a step as many are left as the call may take, or the machine is halted, and it takes none.
after_by : (frames n : ℕ) (now : ScriptState) (o : Option Halt) → now.machine.halt ≡ o
    → now.left ≡ suc n - count_after o
    → answer_after_steps frames n now ≡ answer_after_steps frames now.left now
after_by frames n now None unhalted left = ap (λ k. answer_after_steps frames k now) (omega (arith, left))
after_by frames n now (Some halt.Exit) halted left = ap (λ k. answer_after_steps frames k now) (omega (arith, left))
after_by frames n now (Some (halt.Fault f)) halted left =
    let over = halted_ends now frames (halt.Fault f) halted in
    finished_ends frames n now (end.Stopped (stop_of (halt.Fault f))) over
    ∙ sym (finished_ends frames now.left now (end.Stopped (stop_of (halt.Fault f))) over)

goes_by : (frames : ℕ) (s now : ScriptState) (left : ℕ) → s.left ≡ left → 0 < left → call_end s frames ≡ None
    → now ≡ step_made s (next_step s)
    → ((answer_after_steps frames s.left s).text ≡ (next_step s).printed ++ (answer_after_steps frames now.left now).text)
    × ((answer_after_steps frames s.left s).state ≡ (answer_after_steps frames now.left now).state)
goes_by frames s now zero is some none made = absurd (omega (arith, some))
goes_by frames s now (suc n) is some none made =
    let now_halt : now.machine.halt ≡ (next_step s).now.halt = ap (λ (w : ScriptState). w.machine.halt) made in
    let now_left : now.left ≡ suc n - count_after (next_step s).now.halt = ap (λ (w : ScriptState). w.left) made
    ∙ ap (λ k. k - count_after (next_step s).now.halt) is in
    let more : answer_after_steps frames n now ≡ answer_after_steps frames now.left now =
    after_by frames n now (next_step s).now.halt now_halt now_left in
    let whole : answer_after_steps frames s.left s ≡ step_then s (next_step s) (answer_after_steps frames n) =
    ap (λ k. answer_after_steps frames k s) is ∙ finished_on frames n s none in
    let rest : answer_after_steps frames n (step_made s (next_step s)) ≡ answer_after_steps frames now.left now =
    ap (answer_after_steps frames n) (sym made) ∙ more in (
      ap (λ (t : Answered). t.text) whole ∙ ap (λ (t : Answered). (next_step s).printed ++ t.text) rest,
      ap (λ (t : Answered). t.state) whole ∙ ap (λ (t : Answered). t.state) rest,
    )

-- a step of a call: what stands written and what follows are still all that the call shows
pub call_goes_on : (a b c : Option (List ℕ)) (frames : ℕ) (s now : ScriptState) (all : Answered)
    → AddsAllBut a b (answer_after_steps frames s.left s).text all.text
    → (answer_after_steps frames s.left s).state ≡ all.state → call_end s frames ≡ None → now ≡ step_made s (next_step s)
    → Appends b c (next_step s).printed
    → AddsAllBut a c (answer_after_steps frames now.left now).text all.text × ((answer_after_steps frames now.left now).state ≡ all.state)
call_goes_on a b c frames s now all done same none made here =
    let step = goes_by frames s now s.left refl (goes_left s frames none) none made in (
      AddsAllBut-more a b c (answer_after_steps frames s.left s).text (next_step s).printed (answer_after_steps frames now.left now).text
          all.text done here step.0,
      sym step.1 ∙ same,
    )

-- the end of one
pub call_ends : {U E : Type 0} (r : Result U E) (a b c : Option (List ℕ)) (frames : ℕ) (s now : ScriptState)
    (e : CallEnd) (all : Answered)
    → AddsAllBut a b (answer_after_steps frames s.left s).text all.text → (answer_after_steps frames s.left s).state ≡ all.state
    → call_end s frames ≡ Some e
    → OnOk r (IsAnswered b c now (end_answer s e)) → OnOk r (IsAnswered a c now all)
call_ends (Ok u) a b c frames s now e all done same over reported =
    let whole : answer_after_steps frames s.left s ≡ end_answer s e = finished_ends frames s.left s e over in
    let rest : List ℕ = (answer_after_steps frames s.left s).text in
    let here : Appends b c rest = subst (λ (t : Answered). Appends b c t.text) (sym whole) reported.text in
    record {
      text = Appends-from_all_but a c [] all.text (AddsAllBut-more a b c rest rest [] all.text done here (sym (append-nil rest))) refl;
      state = reported.state ∙ ap (λ (t : Answered). t.state) (sym whole) ∙ same;
    }
call_ends (Err f) a b c frames s now e all done same over reported = tt

-- how many steps a call may still take
abbrev pub steps_left_by : Option Halt → ℕ → ℕ
steps_left_by (Some h) left = 0
steps_left_by None left = suc left

abbrev pub steps_left : ScriptState → ℕ
steps_left s = steps_left_by s.machine.halt s.left

steps_by : (o p : Option Halt) (left was : ℕ) → o ≡ None → 0 < was → left ≡ was - count_after p
    → steps_left_by p left < steps_left_by o was
steps_by (Some h) p left was unhalted some is = absurd (cc)
steps_by None None left was unhalted some is = omega (arith, some, is)
steps_by None (Some h) left was unhalted some is = omega arith

-- each step of a call leaves fewer
pub fewer_steps : (frames : ℕ) (s now : ScriptState) → call_end s frames ≡ None → now ≡ step_made s (next_step s)
    → steps_left now < steps_left s
unfolding call_end
fewer_steps frames s now none made =
    let is : now.machine.halt ≡ (next_step s).now.halt = ap (λ (w : ScriptState). w.machine.halt) made in
    let left : now.left ≡ s.left - count_after (next_step s).now.halt = ap (λ (w : ScriptState). w.left) made in
    let unhalted = unhalted_by s frames s.machine.halt none in
    rw is (steps_by s.machine.halt (next_step s).now.halt now.left s.left unhalted (goes_left s frames none) left)

pub ruleset call_steps = (AddsAllBut-start, goes_left)
