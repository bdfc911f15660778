-- A run whose last steps are shown: what is kept of its steps is what is shown of the last ones, and what it
-- leaves is what it leaves not shown.
use Rattle.std.proofs.Common.{◌≡◌, ◌≤◌, ◌<◌, ℕ, zero, suc, ◌+◌, ◌-◌, ◌++◌, Bool, true, false, List, [], ◌∷◌, Option, Some, None, Result, Ok, Err, if◌then◌else◌, take, drop, length, refl, sym, ap, subst, arith, append_assoc, ◌∙◌}
use Rattle.std.proofs.lemmas.Bool.{le-ltb, lt-ltb, ltb-false, ltb-true}
use Rattle.std.proofs.lemmas.List.{append-nil, length-append}
use Rattle.std.specs.Prelude.{◌↔◌, IsSome, OnOk, is_some, nat_lt}
use Rattle.std.specs.List.{flat_map}
use Rattle.profile.specs.declared.stop.Stop.TheVariants as stop
use Rattle.debug_labels.specs.Labels.{ImageLabels}
use Rattle.debug_tables.specs.Calls.{step_made}
use Rattle.debug_tables.specs.State.{ScriptState}
use Rattle.profile.specs.text_sink.TextSink.{sink_text_of}
use Rattle.debug_runs.proofs.RunLemmas.{first_of_left, no_step, step_on, step_over}
use Rattle.debug_runs.specs.LastSteps.{LastState, StepText, steps_before_text, last_run, last_answer, last_text, no_last, printed_line, text_of_step, texts_of_run, texts_unless, whole_text, with_step, with_steps, without_first, last_ones_of}
use Rattle.debug_runs.specs.Runs.{SteppingRun, end_after, next_step, run_behind, run_ended, run_unless, steps_run, text_of_next}
use Rattle.debug_runs.specs.TraceWriter.{one_answer}
use Rattle.debug_runs.specs.Reported.{IsAfterStepping, IsAfterUntold, IsAnswerOn}
use Rattle.debug_runs.specs.declared.running.RunEnd.{RunEnd}
use Rattle.debug_runs.specs.declared.running.RunEnd.TheVariants as end
use Rattle.debug_runs.specs.declared.running.RunGoal.TheVariants as goal
use Rattle.debug_runs.specs.declared.writer.TraceWriter.{TraceWriter}
use Rattle.debug_tables.specs.declared.modes.StepModes.{StepModes}

-- WHAT IS Shown

-- what is shown of some steps, of which these are left, behind so many
answer_at : ℕ → ℕ → List StepText → List ℕ
answer_at before d all =
    flat_map printed_line (take d all) ++ (steps_before_text (before + d) ++ flat_map whole_text (drop d all))

answer_from : ℕ → ℕ → List StepText → List ℕ
answer_from count before all = answer_at before (length all - count) all

-- as few as are kept
few_answer : (count before : ℕ) (all : List StepText) → length all ≤ count
    → answer_from count before all ≡ steps_before_text before ++ flat_map whole_text all
unfolding answer_from answer_at
few_answer count before all few =
    let none : length all - count ≡ 0 = omega (arith, few) in
    let same : before + 0 ≡ before = omega arith in
    ap (λ (d : ℕ). answer_at before d all) none
    ∙ ap (λ (n : ℕ). steps_before_text n ++ flat_map whole_text all) same

-- more than these
more_answer : (count before : ℕ) (t : StepText) (others : List StepText) → count ≤ length others
    → answer_from count before (t ∷ others) ≡ printed_line t ++ answer_from count (before + 1) others
unfolding answer_from answer_at
more_answer count before t others many =
    let d : ℕ = length others - count in
    let one : suc (length others) - count ≡ suc d = omega (arith, many) in
    let next : before + suc d ≡ (before + 1) + d = omega arith in
    ap (λ (n : ℕ). answer_at before n (t ∷ others)) one
    ∙ (ap (λ (n : ℕ). (printed_line t ++ flat_map printed_line (take d others)) ++ (steps_before_text n ++ flat_map whole_text (drop d others))) next
    ∙ append_assoc (printed_line t) (flat_map printed_line (take d others)) (steps_before_text ((before + 1) + d) ++ flat_map whole_text (drop d others)))

-- steps that follow are shown behind those that are kept
abbrev ShowsAll : List StepText → Type 0
ShowsAll more = (l : LastState) → length l.steps ≤ l.count
    → last_text (with_steps l more) ≡ l.untold ++ answer_from l.count l.before (l.steps ++ more)

without_one : (l : LastState) (steps more : List StepText) → l.steps ≡ steps → l.count < length steps → length steps ≤ l.count + 1
    → ShowsAll more
    → last_text (with_steps (without_first l steps) more) ≡ l.untold ++ answer_from l.count l.before (steps ++ more)
without_one l [] more is many few shows = absurd (omega (arith, many))
without_one l (t ∷ others) more is many few shows =
    let m : LastState = record l { before = l.before + 1; untold = l.untold ++ printed_line t; steps = others } in
    let fits : length others ≤ l.count = omega (arith, few) in
    let enough : l.count ≤ length (others ++ more) = omega (arith, many, length-append others more) in
    shows m fits
    ∙ (append_assoc l.untold (printed_line t) (answer_from l.count (l.before + 1) (others ++ more))
    ∙ ap (λ (xs : List ℕ). l.untold ++ xs) (sym (more_answer l.count l.before t (others ++ more) enough)))

shortened_by : (b : Bool) (l : LastState) (more : List StepText) → nat_lt l.count (length l.steps) ≡ b → length l.steps ≤ l.count + 1
    → ShowsAll more
    → last_text (with_steps (if b then without_first l l.steps else l) more) ≡ l.untold ++ answer_from l.count l.before (l.steps ++ more)
shortened_by true l more is few shows = without_one l l.steps more refl (ltb-true l.count (length l.steps) is) few shows
shortened_by false l more is few shows = shows l (ltb-false l.count (length l.steps) is)

shows_all : (more : List StepText) → ShowsAll more
unfolding with_steps
shows_all [] l fits =
    let same : l.steps ++ [] ≡ l.steps = append-nil l.steps in
    ap (λ (xs : List ℕ). l.untold ++ xs)
    (sym (ap (answer_from l.count l.before) same ∙ few_answer l.count l.before l.steps fits))
shows_all (t ∷ more) l fits =
    let m : LastState = record l { steps = l.steps ++ (t ∷ []) } in
    let few : length (l.steps ++ (t ∷ [])) ≤ l.count + 1 = omega (arith, fits, length-append l.steps (t ∷ [])) in
    shortened_by (nat_lt m.count (length m.steps)) m more refl few (shows_all more)
    ∙ ap (λ (xs : List StepText). l.untold ++ answer_from l.count l.before xs) (append_assoc l.steps (t ∷ []) more)

pub last_is_answer : (count : ℕ) (texts : List StepText) → last_text (with_steps (no_last count) texts) ≡ last_answer count texts
unfolding last_answer answer_from answer_at
last_is_answer count texts =
    let none : 0 ≤ count = omega arith in
    let d : ℕ = length texts - count in
    let same : 0 + d ≡ d = omega arith in
    shows_all texts (no_last count) none
    ∙ ap (λ (n : ℕ). flat_map printed_line (take d texts) ++ (steps_before_text n ++ flat_map whole_text (drop d texts))) same

-- one step at most goes from those that are kept
fewer_by : (b : Bool) (l : LastState) (steps : List StepText) → (if b then without_first l steps else l).before ≤ l.before + 1
fewer_by true l [] = omega arith
fewer_by true l (t ∷ others) = omega arith
fewer_by false l steps = omega arith

pub one_before : (l : LastState) (t : StepText) → (with_step l t).before ≤ l.before + 1
one_before l t =
    let m : LastState = record l { steps = l.steps ++ (t ∷ []) } in fewer_by (nat_lt m.count (length m.steps)) m m.steps

-- THE STEPS OF A RUN

-- by why it goes no further after its first step, if it does not
unfoldable texts_by : StepModes → List ImageLabels → ℕ → ScriptState → ScriptState → Option RunEnd → List StepText
texts_by modes labels n s next o = text_of_step modes labels s ∷ texts_unless o (texts_of_run modes labels n next)

first_text : (modes : StepModes) (labels : List ImageLabels) (n : ℕ) (s : ScriptState) → let next = step_made s (next_step modes s) in
    texts_of_run modes labels (suc n) s ≡ texts_by modes labels n s next (end_after modes.watches goal.Nowhere s next)
unfolding texts_of_run texts_by
first_text modes labels n s = refl

texts_of_left : (modes : StepModes) (labels : List ImageLabels) (left : ℕ) (s next : ScriptState) → 0 < left → next ≡ step_made s (next_step modes s)
    → texts_of_run modes labels left s ≡ texts_by modes labels (left - 1) s next (end_after modes.watches goal.Nowhere s next)
texts_of_left modes labels left s next some made =
    let split : left ≡ suc (left - 1) = omega (arith, some) in
    ap (λ (n : ℕ). texts_of_run modes labels n s) split ∙ first_text modes labels (left - 1) s
    ∙ ap (λ (w : ScriptState). texts_by modes labels (left - 1) s w (end_after modes.watches goal.Nowhere s w)) (sym made)

pub last_on : (modes : StepModes) (labels : List ImageLabels) (left : ℕ) (s next : ScriptState) (l after : LastState) → 0 < left
    → next ≡ step_made s (next_step modes s) → end_after modes.watches goal.Nowhere s next ≡ None → after ≡ with_step l (text_of_step modes labels s)
    → with_steps after (texts_of_run modes labels (left - 1) next) ≡ with_steps l (texts_of_run modes labels left s)
unfolding with_steps texts_by
last_on modes labels left s next l after some made none kept =
    ap (λ (m : LastState). with_steps m (texts_of_run modes labels (left - 1) next)) kept
    ∙ sym (ap (with_steps l) (texts_of_left modes labels left s next some made ∙ ap (texts_by modes labels (left - 1) s next) none))

pub last_stop : (modes : StepModes) (labels : List ImageLabels) (left : ℕ) (s next : ScriptState) (l after : LastState) (e : RunEnd) → 0 < left
    → next ≡ step_made s (next_step modes s) → end_after modes.watches goal.Nowhere s next ≡ Some e → after ≡ with_step l (text_of_step modes labels s)
    → after ≡ with_steps l (texts_of_run modes labels left s)
unfolding with_steps texts_by
last_stop modes labels left s next l after e some made over kept =
    kept ∙ sym (ap (with_steps l) (texts_of_left modes labels left s next some made ∙ ap (texts_by modes labels (left - 1) s next) over))

pub last_rest : (modes : StepModes) (labels : List ImageLabels) (left : ℕ) (s : ScriptState) (l : LastState) → left ≡ 0
    → l ≡ with_steps l (texts_of_run modes labels left s)
unfolding with_steps texts_of_run
last_rest modes labels left s l none = sym (ap (λ (n : ℕ). with_steps l (texts_of_run modes labels n s)) none)

pub fewer_before : (l after : LastState) (t : StepText) (left most : ℕ) → after ≡ with_step l t → 0 < left → l.before + left ≤ most
    → after.before + (left - 1) ≤ most
fewer_before l after t left most kept some few =
    let same : after.before ≡ (with_step l t).before = ap (λ (m : LastState). m.before) kept in
    omega (arith, same, one_before l t, some, few)

-- WHAT THE RUN LEAVES

-- what is left of a run is all of it but what was printed
pub record IsUntoldRest (old new : List ℕ) (rest all : SteppingRun) : Type 0 where
  pub printed : new ++ rest.printed ≡ old ++ all.printed
  pub now : rest.now ≡ all.now
  pub ended : rest.ended ≡ all.ended

untold_behind : (old mid new text printed : List ℕ) (rest all : SteppingRun) → IsUntoldRest old mid (run_behind text printed rest) all
    → new ≡ mid ++ printed → IsUntoldRest old new rest all
untold_behind old mid new text printed rest all is more = record {
  printed = ap (λ (xs : List ℕ). xs ++ rest.printed) more ∙ (append_assoc mid printed rest.printed ∙ is.printed);
  now = is.now;
  ended = is.ended;
}

untold_ends : (old new : List ℕ) (s : ScriptState) (e : RunEnd) (all : SteppingRun) → IsUntoldRest old new (run_ended s e) all
    → IsAfterUntold all s old new e
untold_ends old new s e all is = record { state = is.now; all_printed = sym (append-nil new) ∙ is.printed; ended = is.ended }

pub untold_goes_on : (old mid new : List ℕ) (modes : StepModes) (labels : List ImageLabels) (left : ℕ) (s next : ScriptState) (all : SteppingRun)
    → IsUntoldRest old mid (steps_run modes labels goal.Nowhere left None s) all → 0 < left → next ≡ step_made s (next_step modes s)
    → new ≡ mid ++ (next_step modes s).printed → end_after modes.watches goal.Nowhere s next ≡ None
    → IsUntoldRest old new (steps_run modes labels goal.Nowhere (left - 1) None next) all
untold_goes_on old mid new modes labels left s next all is some made more none =
    let o = next_step modes s in
    let text = text_of_next modes labels None s in
    let f : ScriptState → SteppingRun = steps_run modes labels goal.Nowhere (left - 1) (one_answer None) in
    let whole : steps_run modes labels goal.Nowhere left None s ≡ run_behind text o.printed (f next) =
    first_of_left modes labels goal.Nowhere left None s some ∙ step_on modes.watches goal.Nowhere s next o text f made none in
    untold_behind old mid new text o.printed (f next) all (subst (λ (r : SteppingRun). IsUntoldRest old mid r all) whole is) more

pub untold_stops : (old mid new : List ℕ) (modes : StepModes) (labels : List ImageLabels) (left : ℕ) (s next : ScriptState) (all : SteppingRun) (e : RunEnd)
    → IsUntoldRest old mid (steps_run modes labels goal.Nowhere left None s) all → 0 < left → next ≡ step_made s (next_step modes s)
    → new ≡ mid ++ (next_step modes s).printed → end_after modes.watches goal.Nowhere s next ≡ Some e
    → IsAfterUntold all next old new e
untold_stops old mid new modes labels left s next all e is some made more over =
    let o = next_step modes s in
    let text = text_of_next modes labels None s in
    let f : ScriptState → SteppingRun = steps_run modes labels goal.Nowhere (left - 1) (one_answer None) in
    let whole : steps_run modes labels goal.Nowhere left None s ≡ run_behind text o.printed (run_ended next e) =
    first_of_left modes labels goal.Nowhere left None s some ∙ step_over modes.watches goal.Nowhere s next o text f e made over in
    untold_ends old new next e all
    (untold_behind old mid new text o.printed (run_ended next e) all (subst (λ (r : SteppingRun). IsUntoldRest old mid r all) whole is) more)

pub untold_runs_out : (old new : List ℕ) (modes : StepModes) (labels : List ImageLabels) (left : ℕ) (s : ScriptState) (all : SteppingRun)
    → IsUntoldRest old new (steps_run modes labels goal.Nowhere left None s) all → left ≡ 0 → IsAfterUntold all s old new (end.Stopped stop.Budget)
untold_runs_out old new modes labels left s all is none =
    let over : steps_run modes labels goal.Nowhere left None s ≡ run_ended s (end.Stopped stop.Budget) =
    ap (λ (n : ℕ). steps_run modes labels goal.Nowhere n None s) none ∙ no_step modes labels goal.Nowhere None s in
    untold_ends old new s (end.Stopped stop.Budget) all (subst (λ (r : SteppingRun). IsUntoldRest old new r all) over is)

-- what is shown behind it
pub last_run_answer : (old new : TraceWriter) (modes : StepModes) (labels : List ImageLabels) (count most : ℕ) (s now : ScriptState) (first last : LastState) (e : RunEnd)
    → IsAfterUntold (steps_run modes labels goal.Nowhere most None s) now (sink_text_of old.printed) (sink_text_of new.printed) e
    → first ≡ no_last count → last ≡ with_steps first (texts_of_run modes labels most s)
    → sink_text_of new.text ≡ sink_text_of old.text ++ last_text last
    → IsAfterStepping (last_run modes labels count most s) now old new e
last_run_answer old new modes labels count most s now first last e ran begun kept reported = record {
  state = ran.state;
  reported = record {
    text_answer = reported ∙ ap (λ (xs : List ℕ). sink_text_of old.text ++ xs)
        (ap last_text (kept ∙ ap (λ (l : LastState). with_steps l (texts_of_run modes labels most s)) begun)
        ∙ last_is_answer count (texts_of_run modes labels most s));
    all_printed = ran.all_printed;
  };
  ended = ran.ended;
}

-- THE STEPS THAT ARE KEPT

next_answer : (modes : StepModes) (labels : List ImageLabels) (limit : ℕ) (s : ScriptState) → 0 < limit
    → text_of_next modes labels (Some limit) s ≡ (text_of_step modes labels s).whole
next_answer modes labels limit s some = rw (lt-ltb 0 limit some) refl

-- a step that is shown by itself
pub kept_is : (modes : StepModes) (labels : List ImageLabels) (s : ScriptState) (first after : TraceWriter) (t : StepText)
    → first.reported ≡ Some 1 → sink_text_of first.text ≡ [] → sink_text_of first.printed ≡ []
    → IsAnswerOn first after (text_of_next modes labels first.reported s) (next_step modes s).printed
    → t.whole ≡ sink_text_of after.text → t.printed ≡ sink_text_of after.printed
    → t ≡ text_of_step modes labels s
kept_is modes labels s first after t one none nothing reported whole printed =
    let some : 0 < 1 = omega arith in
    let o = next_step modes s in
    let text : t.whole ≡ (text_of_step modes labels s).whole =
    whole ∙ (reported.text_answer
    ∙ (ap (λ (xs : List ℕ). xs ++ text_of_next modes labels first.reported s) none
    ∙ (ap (λ (x : Option ℕ). text_of_next modes labels x s) one ∙ next_answer modes labels 1 s some))) in
    let print : t.printed ≡ o.printed = printed ∙ (reported.all_printed ∙ ap (λ (xs : List ℕ). xs ++ o.printed) nothing) in
    λ i. record { whole = text i; printed = print i }

-- the same step, written another way
pub one_kept : {U E : Type 0} (r : Result U E) (l after : LastState) (t u : StepText) → t ≡ u → OnOk r (after ≡ with_step l t)
    → OnOk r (after ≡ with_step l u)
one_kept r l after t u is kept = subst (λ (v : StepText). OnOk r (after ≡ with_step l v)) is kept

pub one_added : {U E : Type 0} (r : Result U E) (l after : LastState) (t : StepText) (steps : List StepText) → steps ≡ l.steps ++ (t ∷ [])
    → OnOk r (after ≡ last_ones_of (record l { steps = steps })) → OnOk r (after ≡ with_step l t)
one_added r l after t steps is kept =
    subst (λ (xs : List StepText). OnOk r (after ≡ last_ones_of (record l { steps = xs }))) is kept

-- as few as are kept, and one more
pub few_kept : (l : LastState) → length l.steps ≤ l.count → l ≡ last_ones_of l
few_kept l few = rw (le-ltb l.count (length l.steps) few) refl

gone_if : (over : Bool) (l : LastState) (t : StepText) (others steps : List StepText) → over ≡ true → steps ≡ t ∷ others
    → record l { before = l.before + 1; untold = l.untold ++ printed_line t; steps = others } ≡ (if over then without_first l steps else l)
gone_if true l t others steps more is = sym (ap (without_first l) is)
gone_if false l t others steps more is = absurd (cc)

pub one_gone : {U E : Type 0} (r : Result U E) (l after : LastState) (t : StepText) (others : List StepText) → l.steps ≡ t ∷ others
    → l.count < length l.steps
    → OnOk r (after ≡ record l { before = l.before + 1; untold = l.untold ++ printed_line t; steps = others })
    → OnOk r (after ≡ last_ones_of l)
one_gone r l after t others is many gone =
    subst (λ (m : LastState). OnOk r (after ≡ m))
    (gone_if (nat_lt l.count (length l.steps)) l t others l.steps (lt-ltb l.count (length l.steps) many) is) gone

-- what is shown of them is written
pub last_pushed : {U E : Type 0} (r : Result U E) (t0 t1 t2 t3 bytes first second third : List ℕ) → bytes ≡ first → t1 ≡ t0 ++ bytes
    → t2 ≡ t1 ++ second → OnOk r (t3 ≡ t2 ++ third) → OnOk r (t3 ≡ t0 ++ (first ++ (second ++ third)))
last_pushed (Err e) t0 t1 t2 t3 bytes first second third is one two three = tt
last_pushed (Ok u) t0 t1 t2 t3 bytes first second third is one two three =
    three
    ∙ (ap (λ (xs : List ℕ). xs ++ third) (two ∙ ap (λ (xs : List ℕ). xs ++ second) (one ∙ ap (λ (xs : List ℕ). t0 ++ xs) is))
    ∙ (append_assoc (t0 ++ first) second third ∙ append_assoc t0 first (second ++ third)))

pub step_pushed : (t after all : List ℕ) (step : StepText) (steps others : List StepText) → steps ≡ step ∷ others → after ≡ t ++ step.whole
    → t ++ flat_map whole_text steps ≡ all → after ++ flat_map whole_text others ≡ all
step_pushed t after all step steps others is pushed so_far =
    ap (λ (xs : List ℕ). xs ++ flat_map whole_text others) pushed
    ∙ (append_assoc t step.whole (flat_map whole_text others)
    ∙ (sym (ap (λ (ts : List StepText). t ++ flat_map whole_text ts) is) ∙ so_far))

no_steps : (steps : List StepText) → length steps ≡ 0 → steps ≡ []
no_steps [] none = refl
no_steps (t ∷ others) none = absurd (omega (arith, none))

pub none_left : (r : Option StepText) (n : ℕ) → IsSome r ↔ (0 < n) → r ≡ None → n ≡ 0
none_left r zero some is = refl
none_left r (suc n) some is =
    let more : 0 < suc n = omega arith in
    let no : false ≡ true = subst (λ (o : Option StepText). is_some o ≡ true) is (some.1 more) in
    absurd (cc)

pub all_pushed : (t all : List ℕ) (steps : List StepText) → length steps ≡ 0 → t ++ flat_map whole_text steps ≡ all → t ≡ all
all_pushed t all steps none so_far =
    sym (append-nil t) ∙ (sym (ap (λ (ts : List StepText). t ++ flat_map whole_text ts) (no_steps steps none)) ∙ so_far)

-- THEY ARE THOSE OF THE WHOLE TRACE

answer_unless : (limit : ℕ) (whole printed : List ℕ) (after : ScriptState) (e : Option RunEnd) (rest : SteppingRun) (t : StepText) (texts : List StepText)
    → whole ≡ t.whole → rest.text ≡ flat_map whole_text texts
    → (run_behind whole printed (run_unless after e rest)).text ≡ flat_map whole_text (t ∷ texts_unless e texts)
answer_unless limit whole printed after (Some e) rest t texts is same = ap (λ (xs : List ℕ). xs ++ []) is
answer_unless limit whole printed after None rest t texts is same =
    ap (λ (xs : List ℕ). xs ++ rest.text) is ∙ ap (λ (xs : List ℕ). t.whole ++ xs) same

pub texts_of_trace : (modes : StepModes) (labels : List ImageLabels) (most limit : ℕ) (s : ScriptState) → most ≤ limit
    → (steps_run modes labels goal.Nowhere most (Some limit) s).text ≡ flat_map whole_text (texts_of_run modes labels most s)
unfolding steps_run texts_of_run
texts_of_trace modes labels zero limit s few = refl
texts_of_trace modes labels (suc n) limit s few =
    let o = next_step modes s in
    let after = step_made s o in
    let some : 0 < limit = omega (arith, few) in
    let fewer : n ≤ limit - 1 = omega (arith, few) in
    answer_unless limit (text_of_next modes labels (Some limit) s) o.printed after (end_after modes.watches goal.Nowhere s after)
    (steps_run modes labels goal.Nowhere n (Some (limit - 1)) after) (text_of_step modes labels s) (texts_of_run modes labels n after)
    (next_answer modes labels limit s some) (texts_of_trace modes labels n (limit - 1) after fewer)
