-- The steps that were taken last, taken again and shown.
use Rattle.std.proofs.Common.{◌≡◌, ◌<◌, ◌≤◌, ℕ, zero, suc, ◌-◌, ◌+◌, ◌==◌, ◌&&◌, Bool, true, false, List, [], Option, Some, None, length, refl, sym, ◌∙◌, ap, subst, arith, if◌then◌else◌}
use Rattle.std.specs.Prelude.{IsSome, is_some, nat_lt, unwrap_or}
use Rattle.std.proofs.lemmas.Bool.Decides.{nat_tests}
use Rattle.profile.specs.images.Entries.{Entry}
use Rattle.profile.specs.declared.stop.Stop.{Stop}
use Rattle.profile.specs.declared.stop.Stop.TheVariants as stop
use Rattle.debug_modules.specs.Labels.{ImageLabels}
use Rattle.debug_tables.specs.Halt.{Halt}
use Rattle.debug_tables.specs.MachineState.{MachineState, StepOutcome, stop_of}
use Rattle.debug_tables.specs.Run.{count_after}
use Rattle.debug_tables.specs.Step.{machine_step, module_loaded, store_called}
use Rattle.debug_tables.specs.Calls.{answer_after_steps, call_end, call_made, finished_by, step_made, stop_answer, stop_before_step, stop_before_step_by}
use Rattle.debug_tables.specs.CallEnd.{CallEnd}
use Rattle.debug_tables.specs.CallEnd.TheVariants as cend
use Rattle.debug_tables.proofs.CallLemmas.{call_allowed, finished_ends, halted_ends}
use Rattle.debug_tables.specs.Memory.{script_with_budget, script_with_last}
use Rattle.debug_tables.specs.State.{ScriptState}
use Rattle.debug_lines.specs.SteppingRequests.{SteppingRequest}
use Rattle.debug_lines.specs.SteppingRequests as asked
use Rattle.debug_modules.specs.Acts.{PastMoment, changed_moment, moment_after_deed, moment_after_steps, moment_of_script, steps_behind, stubs_of_deed}
use Rattle.debug_modules.specs.Again.{IsAtMoment}
use Rattle.debug_modules.specs.Steps.{steps_after}
use Rattle.debug_modules.specs.PastDeed.{PastDeed}
use Rattle.debug_modules.specs.PastDeed.TheVariants as deed
use Rattle.debug_modules.proofs.AgainLemmas.{IsBeside, at_moment, beside_at, beside_both, moment_at}
use Rattle.debug_modules.proofs.StepLemmas.{halted_left, none_left, steps_added}
use Rattle.debug_modules.specs.Lines.{stepping_answer}
use Rattle.debug_modules.proofs.PlainLemmas.{lines_are}
use Rattle.debug_modules.proofs.TracedLemmas.{same_line}
use Rattle.debug_session.specs.LastSteps.{modes_with_stubs, script_at_past, script_to_trace, steps_shown}
use Rattle.command_shell_lines.specs.declared.debug_words.stubs.Stub.{Stub}
use Rattle.debug_modules.specs.Endings.{line_end_answer}
use Rattle.debug_modules.specs.Lines.{answer_unless}
use Rattle.debug_modules.specs.Runs.{SteppingRun, end_after, next_step, run_behind, run_ended, run_unless, steps_run, text_of_next}
use Rattle.debug_modules.specs.TraceWriter.{one_answer}
use Rattle.debug_modules.specs.EndKind.TheVariants as kind
use Rattle.debug_modules.specs.RunEnd.{RunEnd}
use Rattle.debug_modules.specs.RunEnd.TheVariants as end
use Rattle.debug_modules.specs.RunGoal.{RunGoal}
use Rattle.debug_modules.specs.RunGoal.TheVariants as goal
use Rattle.debug_tables.specs.declared.modes.StepModes.{StepModes}
use Rattle.debug_modules.proofs.StepLemmas.{steps_halted}
use Rattle.debug_session.proofs.RunPastLemmas.{IsRun, ended_left, enough_after, goes_unhalted, left_by, run_less, steps_are_run}

-- a script that went on to a moment, and what is left of its steps
pub record HasGoneOn (stubs : List Stub) (s now : ScriptState) (m : PastMoment) : Type 0 where
  pub beside : IsBeside s now
  pub moment : moment_after_steps stubs s.images now.left (moment_of_script now) ≡ m

untraced : (labels : List ImageLabels) (count : ℕ) (s : ScriptState) (r : SteppingRequest)
    → (stepping_answer (modes_with_stubs []) labels (Some count) s r).now ≡ (stepping_answer (modes_with_stubs []) labels None s r).now
untraced labels count s r = (same_line (modes_with_stubs []) labels (Some count) None s r).now

gone_same : (stubs : List Stub) (s now t : ScriptState) (m : PastMoment) → now ≡ t → HasGoneOn stubs s t m → HasGoneOn stubs s now m
gone_same stubs s now t m e is = subst (λ (x : ScriptState). HasGoneOn stubs s x m) (sym e) is

-- RUN

ended_machine : (s : ScriptState) (e : RunEnd) → (left_by (run_ended s e)).machine ≡ s.machine
ended_machine s end.Reached = refl
ended_machine s (end.Watched hit) = refl
ended_machine s (end.Stopped x) = refl

ended_breaks : (s : ScriptState) (e : RunEnd) → (left_by (run_ended s e)).breaks ≡ s.breaks
ended_breaks s end.Reached = refl
ended_breaks s (end.Watched hit) = refl
ended_breaks s (end.Stopped x) = refl

unless_breaks : (after : ScriptState) (e : Option RunEnd) (rest : SteppingRun) (text printed : List ℕ)
    → (left_by rest).breaks ≡ after.breaks → (left_by (run_behind text printed (run_unless after e rest))).breaks ≡ after.breaks
unless_breaks after (Some e) rest text printed more = ended_breaks after e
unless_breaks after None rest text printed more = more

run_breaks : (modes : StepModes) (labels : List ImageLabels) (g : RunGoal) (n : ℕ) (o : Option ℕ) (s : ScriptState)
    → (left_by (steps_run modes labels g n o s)).breaks ≡ s.breaks
unfolding steps_run
run_breaks modes labels g zero o s = refl
run_breaks modes labels g (suc n) o s =
    let a : StepOutcome = next_step modes s in
    let after : ScriptState = step_made s a in
    unless_breaks after (end_after modes.watches g s after) (steps_run modes labels g n (one_answer o) after)
    (text_of_next modes labels o s) a.printed (run_breaks modes labels g n (one_answer o) after)

-- what is left of so many steps, after a run of at most so many
abbrev IsLeftBy : List Stub → ScriptState → ℕ → MachineState → ScriptState → Type 0
IsLeftBy stubs s n now final =
    steps_after stubs s.images n now ≡ steps_after stubs s.images (suc n - (s.left - final.left)) final.machine

ended_by : (stubs : List Stub) (s : ScriptState) (a : StepOutcome) (n : ℕ) (o : Option Halt) (final : ScriptState) → suc n ≤ s.left
    → a.now.halt ≡ o → final.left ≡ (step_made s a).left → final.machine ≡ a.now → IsLeftBy stubs s n a.now final
ended_by stubs s a n (Some h) final enough is left same =
    let rest : ℕ = suc n - (s.left - final.left) in
    steps_halted stubs s.images n a.now h is ∙ sym (steps_halted stubs s.images rest a.now h is)
    ∙ sym (ap (steps_after stubs s.images rest) same)
ended_by stubs s a n None final enough is left same =
    let count : count_after a.now.halt ≡ 1 = ap count_after is in
    let rest : n ≡ suc n - (s.left - final.left) = omega (arith, count, left, enough) in
    ap (λ (k : ℕ). steps_after stubs s.images k a.now) rest
    ∙ sym (ap (steps_after stubs s.images (suc n - (s.left - final.left))) same)

unless_gone : (stubs : List Stub) (watches : List ℕ) (g : RunGoal) (s : ScriptState) (a : StepOutcome) (rest : SteppingRun)
    (text : List ℕ) (n : ℕ) (e : Option RunEnd) → suc n ≤ s.left → end_after watches g s (step_made s a) ≡ e
    → (left_by rest).left ≤ (step_made s a).left
    → (e ≡ None → steps_after stubs s.images n a.now
    ≡ steps_after stubs s.images (n - ((step_made s a).left - (left_by rest).left)) (left_by rest).machine)
    → IsLeftBy stubs s n a.now (left_by (run_behind text a.printed (run_unless (step_made s a) e rest)))
unless_gone stubs watches g s a rest text n (Some e) enough is less more =
    ended_by stubs s a n a.now.halt (left_by (run_ended (step_made s a) e)) enough refl (ended_left (step_made s a) e)
    (ended_machine (step_made s a) e)
unless_gone stubs watches g s a rest text n None enough is less more =
    let count : count_after a.now.halt ≡ 1 = ap count_after (goes_unhalted watches g s (step_made s a) is) in
    let same : n - ((step_made s a).left - (left_by rest).left) ≡ suc n - (s.left - (left_by rest).left) =
    omega (arith, count, less, enough) in
    more refl ∙ ap (λ (k : ℕ). steps_after stubs s.images k (left_by rest).machine) same

run_goes : (modes : StepModes) (labels : List ImageLabels) (g : RunGoal) (n : ℕ) (o : Option ℕ) (s : ScriptState) → n ≤ s.left
    → (let final = left_by (steps_run modes labels g n o s) in steps_after modes.stubs s.images n s.machine
    ≡ steps_after modes.stubs s.images (n - (s.left - final.left)) final.machine)
unfolding steps_run steps_after
run_goes modes labels g zero o s enough = let none : 0 ≡ 0 - (s.left - s.left) = omega arith in
    ap (λ (k : ℕ). steps_after modes.stubs s.images k s.machine) none
run_goes modes labels g (suc n) o s enough =
    let a : StepOutcome = next_step modes s in
    let after : ScriptState = step_made s a in
    let rest : SteppingRun = steps_run modes labels g n (one_answer o) after in
    unless_gone modes.stubs modes.watches g s a rest (text_of_next modes labels o s) n (end_after modes.watches g s after) enough refl
    (run_less modes labels g n (one_answer o) after)
    (λ e. run_goes modes labels g n (one_answer o) after (enough_after modes.watches g s a n enough e))

fresh_spent : (b c : Bool) (n k : ℕ) → 0 < n → c ≡ false → (c && (k == 0)) ≡ (b && (n == 0))
fresh_spent b c n k some old = grind (arith, nat_tests, some, old)

ran_gone : (stubs : List Stub) (s final : ScriptState) → 0 < s.left → IsRun stubs s final → final.breaks ≡ s.breaks
    → steps_after stubs s.images s.left s.machine ≡ steps_after stubs s.images (s.left - (s.left - final.left)) final.machine
    → HasGoneOn stubs s final (moment_after_steps stubs s.images s.left (moment_of_script s))
ran_gone stubs s final some is breaks gone =
    let called = is.called in
    let less = called.less in
    let left : s.left - (s.left - final.left) ≡ final.left = omega (arith, less) in
    let machine = ap (λ (k : ℕ). steps_after stubs s.images k final.machine) (sym left) ∙ sym gone in
    let fresh = fresh_spent s.is_fresh final.is_fresh s.left final.left some called.fresh in
    record {
      beside = record { sizes = called.sizes; images = called.images; breaks = breaks };
      moment = λ i. record { machine = machine i; is_fresh = fresh i };
    }

-- a line of steps alone differs from a call in the last stop alone
like_calls : (stubs : List Stub) (s now : ScriptState) (m : PastMoment) (e : RunEnd)
    → HasGoneOn stubs s (line_end_answer kind.Call now e).state m → HasGoneOn stubs s (line_end_answer (kind.Steps false) now e).state m
like_calls stubs s now m end.Reached is = record {
  beside = record { sizes = is.beside.sizes; images = is.beside.images; breaks = is.beside.breaks };
  moment = is.moment;
}
like_calls stubs s now m (end.Watched hit) is = is
like_calls stubs s now m (end.Stopped x) is = is

run_gone_by : (stubs : List Stub) (labels : List ImageLabels) (s : ScriptState) (x : Option Stop) → 0 < s.left
    → stop_before_step_by s.machine.halt s.left ≡ x
    → (let modes = modes_with_stubs stubs in HasGoneOn stubs s
    (answer_unless (Some s.left) s (kind.Steps false) (steps_run modes labels goal.Nowhere s.left (Some s.left) s) x).now
    (moment_after_steps stubs s.images s.left (moment_of_script s)))
run_gone_by stubs labels s (Some x) some can =
    record { beside = record { sizes = refl; images = refl; breaks = refl }; moment = refl }
run_gone_by stubs labels s None some can =
    let modes : StepModes = modes_with_stubs stubs in
    let r : SteppingRun = steps_run modes labels goal.Nowhere s.left (Some s.left) s in
    let enough : s.left ≤ s.left = omega arith in
    like_calls stubs s r.now (moment_after_steps stubs s.images s.left (moment_of_script s)) r.ended
    (ran_gone stubs s (left_by r) some (steps_are_run modes labels goal.Nowhere s.left (Some s.left) s enough can)
    (run_breaks modes labels goal.Nowhere s.left (Some s.left) s) (run_goes modes labels goal.Nowhere s.left (Some s.left) s enough))

pub run_gone : (stubs : List Stub) (labels : List ImageLabels) (s : ScriptState) → 0 < s.left
    → HasGoneOn stubs s (stepping_answer (modes_with_stubs stubs) labels (Some s.left) s asked.Run).now
    (moment_after_steps stubs s.images s.left (moment_of_script s))
unfolding stepping_answer
run_gone stubs labels s some = run_gone_by stubs labels s (stop_before_step_by s.machine.halt s.left) some refl

-- CALL AND LOAD, whose first step alone may be taken

after_none : (s : ScriptState) (o : Option CallEnd)
    → moment_of_script (finished_by s o (stop_answer s stop.Budget)).state ≡ moment_of_script s
after_none s None = refl
after_none s (Some cend.Returned) = refl
after_none s (Some (cend.Stopped x)) = refl

beside_none : (s : ScriptState) (o : Option CallEnd) → IsBeside s (finished_by s o (stop_answer s stop.Budget)).state
beside_none s None = record { sizes = refl; images = refl; breaks = refl }
beside_none s (Some cend.Returned) = record { sizes = refl; images = refl; breaks = refl }
beside_none s (Some (cend.Stopped x)) = record { sizes = refl; images = refl; breaks = refl }

left_none : (s : ScriptState) (o : Option CallEnd) → (finished_by s o (stop_answer s stop.Budget)).state.left ≡ s.left
left_none s None = refl
left_none s (Some cend.Returned) = refl
left_none s (Some (cend.Stopped x)) = refl

none_after : (frames : ℕ) (s : ScriptState) → s.left ≡ 0
    → HasGoneOn [] s (answer_after_steps frames 0 s).state (moment_of_script s)
unfolding answer_after_steps
none_after frames s none =
    let o : Option CallEnd = call_end s frames in
    let final : ScriptState = (finished_by s o (stop_answer s stop.Budget)).state in
    record {
      beside = beside_none s o;
      moment = ap (λ (k : ℕ). moment_after_steps [] s.images k (moment_of_script final))
          (left_none s o ∙ none) ∙ none_left [] s.images (moment_of_script final) ∙ after_none s o;
    }

stopped_after : (frames n : ℕ) (s : ScriptState) (h : Halt) → s.machine.halt ≡ Some h → s.is_fresh ≡ false
    → HasGoneOn [] s (answer_after_steps frames n s).state (moment_of_script s)
stopped_after frames n s h is old =
    gone_same [] s _ (script_with_last s (stop_of h)) (moment_of_script s)
    (ap (λ a. a.state) (finished_ends frames n s (cend.Stopped (stop_of h)) (halted_ends s frames h is)))
    (record { beside = record { sizes = refl; images = refl; breaks = refl }; moment = halted_left [] s.images s.left (moment_of_script s) h is old })

one_by : (s : ScriptState) (a : StepOutcome) (frames : ℕ) (o : Option Halt) → s.left ≡ 1 → a.now.halt ≡ o
    → HasGoneOn [] s (answer_after_steps frames (step_made s a).left (step_made s a)).state (changed_moment a.now)
one_by s a frames (Some h) one is =
    let after : ScriptState = step_made s a in
    let gone = stopped_after frames after.left after h is refl in
    record { beside = beside_both s after _ (record { sizes = refl; images = refl; breaks = refl }) gone.beside; moment = gone.moment }
one_by s a frames None one is =
    let after : ScriptState = step_made s a in
    let count : count_after a.now.halt ≡ 1 = ap count_after is in
    let none : after.left ≡ 0 = omega (arith, one, count) in
    let gone = subst (λ (k : ℕ). HasGoneOn [] after (answer_after_steps frames k after).state (moment_of_script after)) (sym none)
    (none_after frames after none) in
    record { beside = beside_both s after _ (record { sizes = refl; images = refl; breaks = refl }) gone.beside; moment = gone.moment }

call_gone : (s : ScriptState) (a : StepOutcome) → s.left ≡ 1 → s.machine.halt ≡ None
    → HasGoneOn [] s (call_made s a).state (changed_moment a.now)
call_gone s a one up =
    let can : stop_before_step s ≡ None = ap (λ (o : Option Halt). stop_before_step_by o s.left) up ∙ ap (stop_before_step_by None) one in
    gone_same [] s _ _ (changed_moment a.now) (ap (λ x. x.state) (call_allowed s a can))
    (one_by s a (length s.machine.tables.frames) a.now.halt one refl)

no_halt : (s : ScriptState) → s.machine.halt ≡ None → IsSome s.machine.halt → s.is_fresh ≡ false
no_halt s up some = let none = ap (λ (o : Option Halt). is_some o) up in absurd (cc (none, some))

-- A DEED

skipped_stale : (b : Bool) (n k : ℕ) → k < n → ((b && (k == 0)) && ((n - k) == 0)) ≡ (b && (n == 0))
skipped_stale b n k less = grind (arith, nat_tests, less)

steps_joined_at : (stubs : List Stub) (images : List Entry) (n k : ℕ) (m : PastMoment) → k < n
    → moment_after_steps stubs images (n - k) (moment_after_steps stubs images k m) ≡ moment_after_steps stubs images n m
steps_joined_at stubs images n k m less =
    let all : k + (n - k) ≡ n = omega (arith, less) in
    let same = sym (steps_added stubs images k (n - k) m.machine) ∙ ap (λ (j : ℕ). steps_after stubs images j m.machine) all in
    λ i. record { machine = same i; is_fresh = skipped_stale m.is_fresh n k less i }

one_stale : (b : Bool) → (b && (1 == 0)) ≡ false
one_stale true = refl
one_stale false = refl

one_step_after : (images : List Entry) (m : PastMoment) → moment_after_steps [] images 1 m ≡ changed_moment (machine_step images m.machine).now
unfolding steps_after
one_step_after images m = λ i. record { machine = (machine_step images m.machine).now; is_fresh = one_stale m.is_fresh i }

-- what a deed leaves, some of whose steps were skipped and the others taken by a line
abbrev IsGone : List Stub → List ImageLabels → ScriptState → PastMoment → (SteppingRequest × ℕ) → PastMoment → Type 0
IsGone stubs labels s first taken m =
    HasGoneOn stubs (script_at_past s first) (steps_shown stubs labels (script_at_past s first) taken.1 taken.0).now m

run_at : (stubs : List Stub) (labels : List ImageLabels) (s : ScriptState) (first : PastMoment) (n : ℕ) → 0 < n
    → IsGone stubs labels s first (asked.Run, n) (moment_after_steps stubs s.images n first)
run_at stubs labels s first n some =
    let t : ScriptState = script_to_trace (script_at_past s first) first n in
    let gone = run_gone stubs labels t some in
    record {
      beside = beside_both (script_at_past s first) t _ (record { sizes = refl; images = refl; breaks = refl }) gone.beside;
      moment = gone.moment;
    }

steps_gone : (stubs : List Stub) (labels : List ImageLabels) (s : ScriptState) (k n : ℕ) (m : PastMoment) → k < n
    → IsGone stubs labels s (moment_after_steps stubs s.images k m) (asked.Run, n - k) (moment_after_steps stubs s.images n m)
steps_gone stubs labels s k n m less =
    let some : 0 < n - k = omega (arith, less) in
    subst (λ (y : PastMoment). IsGone stubs labels s (moment_after_steps stubs s.images k m) (asked.Run, n - k) y)
    (steps_joined_at stubs s.images n k m less)
    (run_at stubs labels s (moment_after_steps stubs s.images k m) (n - k) some)

-- where none were skipped
unskipped : (labels : List ImageLabels) (s : ScriptState) (m y : PastMoment) (taken : SteppingRequest × ℕ)
    → IsGone [] labels s m taken y → IsGone [] labels s (moment_after_steps [] s.images 0 m) taken y
unskipped labels s m y taken is = subst (λ (x : PastMoment). IsGone [] labels s x taken y) (sym (none_left [] s.images m)) is

fault_gone : (labels : List ImageLabels) (s : ScriptState) (m : PastMoment)
    → IsGone [] labels s m (asked.Run, 1) (changed_moment (machine_step s.images m.machine).now)
fault_gone labels s m =
    subst (λ (y : PastMoment). IsGone [] labels s m (asked.Run, 1) y) (one_step_after s.images m)
    (run_at [] labels s m 1 (omega arith))

swi_gone : (labels : List ImageLabels) (s : ScriptState) (m : PastMoment) (number : ℕ) → m.machine.halt ≡ None
    → IsGone [] labels s m (asked.Call number, 1) (changed_moment (store_called s.images m.machine number).now)
swi_gone labels s m number up =
    let t : ScriptState = script_to_trace (script_at_past s m) m 1 in
    let lines = lines_are (modes_with_stubs []) labels t 0 [] refl (no_halt t up) in
    let gone = gone_same [] t _ _ _ (untraced labels 1 t (asked.Call number) ∙ (lines.call number).state)
    (call_gone t (store_called s.images m.machine number) refl up) in
    record {
      beside = beside_both (script_at_past s m) t _ (record { sizes = refl; images = refl; breaks = refl }) gone.beside;
      moment = gone.moment;
    }

load_gone : (labels : List ImageLabels) (s : ScriptState) (m : PastMoment) (text : List ℕ) → m.machine.halt ≡ None
    → IsGone [] labels s m (asked.Load text, 1) (changed_moment (module_loaded s.images m.machine text).now)
load_gone labels s m text up =
    let t : ScriptState = script_to_trace (script_at_past s m) m 1 in
    let lines = lines_are (modes_with_stubs []) labels t 0 [] refl (no_halt t up) in
    let gone = gone_same [] t _ _ _ (untraced labels 1 t (asked.Load text) ∙ (lines.load text).state)
    (call_gone t (module_loaded s.images m.machine text) refl up) in
    record {
      beside = beside_both (script_at_past s m) t _ (record { sizes = refl; images = refl; breaks = refl }) gone.beside;
      moment = gone.moment;
    }

taken_is : (taken other : SteppingRequest × ℕ) → Some taken ≡ Some other → other ≡ taken
taken_is taken other is = sym (ap (λ (o : Option (SteppingRequest × ℕ)). unwrap_or o other) is)

gone_if : (stubs : List Stub) (labels : List ImageLabels) (s : ScriptState) (k n : ℕ) (m : PastMoment) (taken : SteppingRequest × ℕ) (b : Bool)
    → nat_lt k n ≡ b → Some taken ≡ (if b then Some (asked.Run, n - k) else None)
    → IsGone stubs labels s (moment_after_steps stubs s.images k m) taken (moment_after_steps stubs s.images n m)
gone_if stubs labels s k n m taken true less is =
    let below : k < n = grind (arith, nat_tests, less) in
    subst (λ (x : SteppingRequest × ℕ). IsGone stubs labels s (moment_after_steps stubs s.images k m) x (moment_after_steps stubs s.images n m))
    (taken_is taken (asked.Run, n - k) is) (steps_gone stubs labels s k n m below)
gone_if stubs labels s k n m taken false less is = absurd (cc)

pub deed_gone : (labels : List ImageLabels) (s : ScriptState) (k : ℕ) (d : PastDeed) (m : PastMoment) (taken : SteppingRequest × ℕ)
    → m.machine.halt ≡ None → Some taken ≡ steps_behind k d
    → IsGone (stubs_of_deed d) labels s (moment_after_steps (stubs_of_deed d) s.images k m) taken (moment_after_deed s.images s.sizes d m)
deed_gone labels s k (deed.Steps stubs n) m taken up is = gone_if stubs labels s k n m taken (nat_lt k n) refl is
deed_gone labels s zero deed.FaultingStep m taken up is =
    unskipped labels s m (changed_moment (machine_step s.images m.machine).now) taken
    (subst (λ (x : SteppingRequest × ℕ). IsGone [] labels s m x (changed_moment (machine_step s.images m.machine).now))
    (taken_is taken (asked.Run, 1) is) (fault_gone labels s m))
deed_gone labels s (suc k) deed.FaultingStep m taken up is = absurd (cc)
deed_gone labels s zero (deed.Call number b) m taken up is =
    unskipped labels s m (changed_moment (store_called s.images m.machine number).now) taken
    (subst (λ (x : SteppingRequest × ℕ). IsGone [] labels s m x (changed_moment (store_called s.images m.machine number).now))
    (taken_is taken (asked.Call number, 1) is) (swi_gone labels s m number up))
deed_gone labels s (suc k) (deed.Call number b) m taken up is = absurd (cc)
deed_gone labels s zero (deed.Load text b) m taken up is =
    unskipped labels s m (changed_moment (module_loaded s.images m.machine text).now) taken
    (subst (λ (x : SteppingRequest × ℕ). IsGone [] labels s m x (changed_moment (module_loaded s.images m.machine text).now))
    (taken_is taken (asked.Load text, 1) is) (load_gone labels s m text up))
deed_gone labels s (suc k) (deed.Load text b) m taken up is = absurd (cc)
deed_gone labels s k (deed.Boot name) m taken up is = absurd (cc)
deed_gone labels s k (deed.Register number value) m taken up is = absurd (cc)
deed_gone labels s k (deed.Word address value) m taken up is = absurd (cc)
deed_gone labels s k (deed.Banked mode number value) m taken up is = absurd (cc)
deed_gone labels s k (deed.Place address) m taken up is = absurd (cc)
deed_gone labels s k (deed.Routine address link) m taken up is = absurd (cc)
deed_gone labels s k (deed.Status status) m taken up is = absurd (cc)
deed_gone labels s k deed.Woken m taken up is = absurd (cc)
deed_gone labels s k (deed.Bytes address bytes) m taken up is = absurd (cc)
deed_gone labels s k deed.Anew m taken up is = absurd (cc)

-- THE CALLS OF ONE DEED

-- the script whose steps are shown
pub traced_at : (s one two three : ScriptState) (m : PastMoment) (count : ℕ) → IsAtMoment s one m → two ≡ script_with_budget one count
    → three ≡ script_with_last two stop.Budget → three ≡ script_to_trace (script_at_past s m) m count
traced_at s one two three m count at given last =
    last ∙ ap (λ (t : ScriptState). script_with_last t stop.Budget) given
    ∙ ap (λ (t : ScriptState). script_with_last (script_with_budget t count) stop.Budget) at

-- and where the deed leads, once what is left of its steps is taken as well
pub deed_done : (labels : List ImageLabels) (s shown last : ScriptState) (k left : ℕ) (d : PastDeed) (taken : SteppingRequest × ℕ)
    → s.machine.halt ≡ None → Some taken ≡ steps_behind k d
    → shown ≡ (steps_shown (stubs_of_deed d) labels
    (script_at_past s (moment_after_steps (stubs_of_deed d) s.images k (moment_of_script s))) taken.1 taken.0).now
    → left ≡ shown.left → IsAtMoment shown last (moment_after_steps (stubs_of_deed d) shown.images left (moment_of_script shown))
    → IsAtMoment s last (moment_after_deed s.images s.sizes d (moment_of_script s))
deed_done labels s shown last k left d taken up is same count at =
    let m : PastMoment = moment_of_script s in
    let stubs = stubs_of_deed d in
    let first : ScriptState = script_at_past s (moment_after_steps stubs s.images k m) in
    let done : PastMoment = moment_after_deed s.images s.sizes d m in
    let gone : HasGoneOn stubs first shown done = gone_same stubs first shown _ done same (deed_gone labels s k d m taken up is) in
    let there : PastMoment = moment_after_steps stubs shown.images left (moment_of_script shown) in
    let beside : IsBeside s shown = beside_both s first shown (record { sizes = refl; images = refl; breaks = refl }) gone.beside in
    at_moment s last done (beside_both s shown last beside (beside_at shown last there at))
    (moment_at shown last there at
    ∙ (λ i. moment_after_steps stubs (beside.images i) (count i) (moment_of_script shown)) ∙ gone.moment)
