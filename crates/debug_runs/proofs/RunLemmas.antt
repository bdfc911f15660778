-- How a run goes on from one step to the next, and how it ends.
use Rattle.std.proofs.Common.{◌≡◌, ℕ, suc, ◌-◌, ◌<◌, ◌≤◌, ◌++◌, true, false, List, [], ◌∷◌, Option, Some, None, Result, Ok, Err, sym, ap, append_assoc, arith, refl, subst, ◌∙◌}
use Rattle.std.proofs.lemmas.List.{append-nil}
use Rattle.std.specs.Prelude.{IfOk}
use Rattle.std.specs.Option.{option_map, option_or}
use Rattle.profile.specs.declared.stop.Stop.{Stop}
use Rattle.profile.specs.declared.stop.Stop.TheVariants as stop
use Rattle.address_map.specs.Bytes.{Bytes}
use Rattle.debug_labels.specs.Labels.{ImageLabels}
use Rattle.profile.specs.Firsts.{first_of}
use Rattle.law_machine.specs.Halt.{Halt}
use Rattle.law_machine.specs.Halt.TheVariants as halt
use Rattle.debug_tables.specs.MachineState.{StepOutcome, stop_of}
use Rattle.debug_tables.specs.Run.{count_after}
use Rattle.debug_tables.specs.Calls.{step_made}
use Rattle.debug_tables.specs.State.{ScriptState}
use Rattle.profile.specs.text_sink.TextSink.{sink_text_of}
use Rattle.debug_runs.specs.Runs.{SteppingRun, call_run, end_after, run_end_by, is_reached, next_step, run_behind, run_ended, run_step, run_unless, steps_run, text_of_next, watched_end}
use Rattle.debug_runs.specs.TraceWriter.{one_answer, answer_of_step}
use Rattle.debug_runs.specs.Reported.{IsAfterStepping, IsAnswerOn}
use Rattle.debug_tables.specs.WordWatches.{change_of_word, watch_hit, watched_change, watched_words}
use Rattle.debug_tables.specs.declared.modes.StepModes.{StepModes}
use Rattle.debug_runs.specs.declared.running.RunEnd.{RunEnd}
use Rattle.debug_runs.specs.declared.running.RunEnd.TheVariants as end
use Rattle.debug_runs.specs.declared.running.RunGoal.{RunGoal}
use Rattle.debug_runs.specs.declared.writer.TraceWriter.{TraceWriter}
use Rattle.debug_tables.specs.WatchHit.{WatchHit}

-- a step after which a run ends, and one after which it goes on
pub step_over : (watches : List ℕ) (g : RunGoal) (s next : ScriptState) (o : StepOutcome) (text : List ℕ) (f : ScriptState → SteppingRun) (e : RunEnd)
    → next ≡ step_made s o → end_after watches g s next ≡ Some e → run_step watches g s o text f ≡ run_behind text o.printed (run_ended next e)
step_over watches g s next o text f e made is =
    ap (λ (w : ScriptState). run_behind text o.printed (run_unless w (end_after watches g s w) (f w))) (sym made)
    ∙ ap (λ (x : Option RunEnd). run_behind text o.printed (run_unless next x (f next))) is

pub step_on : (watches : List ℕ) (g : RunGoal) (s next : ScriptState) (o : StepOutcome) (text : List ℕ) (f : ScriptState → SteppingRun)
    → next ≡ step_made s o → end_after watches g s next ≡ None → run_step watches g s o text f ≡ run_behind text o.printed (f next)
step_on watches g s next o text f made is =
    ap (λ (w : ScriptState). run_behind text o.printed (run_unless w (end_after watches g s w) (f w))) (sym made)
    ∙ ap (λ (x : Option RunEnd). run_behind text o.printed (run_unless next x (f next))) is

-- the first of so many steps
pub first_step_of : (modes : StepModes) (labels : List ImageLabels) (g : RunGoal) (n : ℕ) (reported : Option ℕ) (s : ScriptState)
    → steps_run modes labels g (suc n) reported s
    ≡ run_step modes.watches g s (next_step modes s) (text_of_next modes labels reported s) (steps_run modes labels g n (one_answer reported))
unfolding steps_run
first_step_of modes labels g n reported s = refl

pub no_step : (modes : StepModes) (labels : List ImageLabels) (g : RunGoal) (reported : Option ℕ) (s : ScriptState)
    → steps_run modes labels g 0 reported s ≡ run_ended s (end.Stopped stop.Budget)
unfolding steps_run
no_step modes labels g reported s = refl

pub first_of_left : (modes : StepModes) (labels : List ImageLabels) (g : RunGoal) (left : ℕ) (reported : Option ℕ) (s : ScriptState) → 0 < left
    → steps_run modes labels g left reported s
    ≡ run_step modes.watches g s (next_step modes s) (text_of_next modes labels reported s) (steps_run modes labels g (left - 1) (one_answer reported))
first_of_left modes labels g left reported s some =
    let split : left ≡ suc (left - 1) = omega (arith, some) in
    ap (λ (n : ℕ). steps_run modes labels g n reported s) split ∙ first_step_of modes labels g (left - 1) reported s

-- what is left of a run is all of it but what was shown
pub record IsRest (old new : TraceWriter) (rest all : SteppingRun) : Type 0 where
  pub text : sink_text_of new.text ++ rest.text ≡ sink_text_of old.text ++ all.text
  pub printed : sink_text_of new.printed ++ rest.printed ≡ sink_text_of old.printed ++ all.printed
  pub now : rest.now ≡ all.now
  pub ended : rest.ended ≡ all.ended

pub rest_start : (t : TraceWriter) (all : SteppingRun) → IsRest t t all all
rest_start t all = record { text = refl; printed = refl; now = refl; ended = refl }

rest_behind : (old mid new : TraceWriter) (text printed : List ℕ) (rest all : SteppingRun) → IsRest old mid (run_behind text printed rest) all
    → IsAnswerOn mid new text printed → IsRest old new rest all
rest_behind old mid new text printed rest all is reported = record {
  text = ap (λ (xs : List ℕ). xs ++ rest.text) reported.text_answer
      ∙ (append_assoc (sink_text_of mid.text) text rest.text ∙ is.text);
  printed = ap (λ (xs : List ℕ). xs ++ rest.printed) reported.all_printed
      ∙ (append_assoc (sink_text_of mid.printed) printed rest.printed ∙ is.printed);
  now = is.now;
  ended = is.ended;
}

pub rest_ends : (old new : TraceWriter) (s : ScriptState) (e : RunEnd) (all : SteppingRun) → IsRest old new (run_ended s e) all → IsAfterStepping all s old new e
rest_ends old new s e all is = record {
  state = is.now;
  reported = record {
    text_answer = sym (append-nil (sink_text_of new.text)) ∙ is.text;
    all_printed = sym (append-nil (sink_text_of new.printed)) ∙ is.printed;
  };
  ended = is.ended;
}

pub goes_on : (old mid new : TraceWriter) (modes : StepModes) (labels : List ImageLabels) (g : RunGoal) (left : ℕ) (s next : ScriptState) (all : SteppingRun)
    → IsRest old mid (steps_run modes labels g left mid.reported s) all → 0 < left → next ≡ step_made s (next_step modes s)
    → IsAnswerOn mid new (text_of_next modes labels mid.reported s) (next_step modes s).printed → new.reported ≡ one_answer mid.reported
    → end_after modes.watches g s next ≡ None
    → IsRest old new (steps_run modes labels g (left - 1) new.reported next) all
goes_on old mid new modes labels g left s next all is some made reported fewer none =
    let o = next_step modes s in
    let text = text_of_next modes labels mid.reported s in
    let f : ScriptState → SteppingRun = steps_run modes labels g (left - 1) (one_answer mid.reported) in
    let whole : steps_run modes labels g left mid.reported s ≡ run_behind text o.printed (f next) =
    first_of_left modes labels g left mid.reported s some ∙ step_on modes.watches g s next o text f made none in
    let behind : IsRest old new (f next) all =
    rest_behind old mid new text o.printed (f next) all (subst (λ (r : SteppingRun). IsRest old mid r all) whole is) reported in
    subst (λ (t : Option ℕ). IsRest old new (steps_run modes labels g (left - 1) t next) all) (sym fewer) behind

pub stops : (old mid new : TraceWriter) (modes : StepModes) (labels : List ImageLabels) (g : RunGoal) (left : ℕ) (s next : ScriptState) (all : SteppingRun) (e : RunEnd)
    → IsRest old mid (steps_run modes labels g left mid.reported s) all → 0 < left → next ≡ step_made s (next_step modes s)
    → IsAnswerOn mid new (text_of_next modes labels mid.reported s) (next_step modes s).printed
    → end_after modes.watches g s next ≡ Some e
    → IsAfterStepping all next old new e
stops old mid new modes labels g left s next all e is some made reported over =
    let o = next_step modes s in
    let text = text_of_next modes labels mid.reported s in
    let f : ScriptState → SteppingRun = steps_run modes labels g (left - 1) (one_answer mid.reported) in
    let whole : steps_run modes labels g left mid.reported s ≡ run_behind text o.printed (run_ended next e) =
    first_of_left modes labels g left mid.reported s some ∙ step_over modes.watches g s next o text f e made over in
    rest_ends old new next e all
    (rest_behind old mid new text o.printed (run_ended next e) all (subst (λ (r : SteppingRun). IsRest old mid r all) whole is) reported)

pub runs_out : (old new : TraceWriter) (modes : StepModes) (labels : List ImageLabels) (g : RunGoal) (left : ℕ) (s : ScriptState) (all : SteppingRun)
    → IsRest old new (steps_run modes labels g left new.reported s) all → left ≡ 0 → IsAfterStepping all s old new (end.Stopped stop.Budget)
runs_out old new modes labels g left s all is none =
    let over : steps_run modes labels g left new.reported s ≡ run_ended s (end.Stopped stop.Budget) =
    ap (λ (n : ℕ). steps_run modes labels g n new.reported s) none ∙ no_step modes labels g new.reported s in
    rest_ends old new s (end.Stopped stop.Budget) all (subst (λ (r : SteppingRun). IsRest old new r all) over is)

-- a call from outside, and what follows
pub call_stops : (old new : TraceWriter) (modes : StepModes) (labels : List ImageLabels) (g : RunGoal) (most : ℕ) (s next : ScriptState) (text : List ℕ) (o : StepOutcome) (e : RunEnd)
    → next ≡ step_made s o → IsAnswerOn old new (answer_of_step old.reported text o.printed) o.printed → end_after modes.watches g s next ≡ Some e
    → IsAfterStepping (call_run modes labels g most old.reported s text o) next old new e
call_stops old new modes labels g most s next text o e made reported over =
    let whole = step_over modes.watches g s next o (answer_of_step old.reported text o.printed) (steps_run modes labels g (most - 1) (one_answer old.reported)) e made over in
    let all = call_run modes labels g most old.reported s text o in
    rest_ends old new next e all
    (rest_behind old old new (answer_of_step old.reported text o.printed) o.printed (run_ended next e) all
    (subst (λ (r : SteppingRun). IsRest old old r all) whole (rest_start old all)) reported)

joined : (old mid new : TraceWriter) (text printed : List ℕ) (rest : SteppingRun) (now : ScriptState) (e : RunEnd)
    → IsAnswerOn old mid text printed → IsAfterStepping rest now mid new e → IsAfterStepping (run_behind text printed rest) now old new e
joined old mid new text printed rest now e reported after = record {
  state = after.state;
  reported = record {
    text_answer = after.reported.text_answer
        ∙ (ap (λ (xs : List ℕ). xs ++ rest.text) reported.text_answer ∙ append_assoc (sink_text_of old.text) text rest.text);
    all_printed = after.reported.all_printed
        ∙ (ap (λ (xs : List ℕ). xs ++ rest.printed) reported.all_printed ∙ append_assoc (sink_text_of old.printed) printed rest.printed);
  };
  ended = after.ended;
}

pub call_goes_on : {E : Type 0} (r : Result RunEnd E) (old mid new : TraceWriter) (modes : StepModes) (labels : List ImageLabels) (g : RunGoal) (most fuel : ℕ)
    (s next now : ScriptState) (text : List ℕ) (o : StepOutcome)
    → next ≡ step_made s o → IsAnswerOn old mid (answer_of_step old.reported text o.printed) o.printed → mid.reported ≡ one_answer old.reported → fuel ≡ most - 1
    → end_after modes.watches g s next ≡ None
    → IfOk r (λ e. IsAfterStepping (steps_run modes labels g fuel mid.reported next) now mid new e)
    → IfOk r (λ e. IsAfterStepping (call_run modes labels g most old.reported s text o) now old new e)
call_goes_on (Err x) old mid new modes labels g most fuel s next now text o made reported fewer is none after = tt
call_goes_on (Ok e) old mid new modes labels g most fuel s next now text o made reported fewer is none after =
    let f : ScriptState → SteppingRun = steps_run modes labels g (most - 1) (one_answer old.reported) in
    let whole : call_run modes labels g most old.reported s text o ≡ run_behind (answer_of_step old.reported text o.printed) o.printed (f next) =
    step_on modes.watches g s next o (answer_of_step old.reported text o.printed) f made none in
    let by_fuel : IsAfterStepping (steps_run modes labels g (most - 1) mid.reported next) now mid new e =
    subst (λ (n : ℕ). IsAfterStepping (steps_run modes labels g n mid.reported next) now mid new e) is after in
    let by_answer : IsAfterStepping (f next) now mid new e =
    subst (λ (t : Option ℕ). IsAfterStepping (steps_run modes labels g (most - 1) t next) now mid new e) fewer by_fuel in
    subst (λ (r : SteppingRun). IsAfterStepping r now old new e) (sym whole)
    (joined old mid new (answer_of_step old.reported text o.printed) o.printed (f next) now e reported by_answer)

-- a step counts once at most
counts_once : (o : Option Halt) → count_after o ≤ 1
counts_once None = omega arith
counts_once (Some halt.Exit) = omega arith
counts_once (Some (halt.Fault f)) = omega arith

pub enough_left : (left : ℕ) (s next : ScriptState) (a : StepOutcome) → left ≤ s.left → next ≡ step_made s a → left - 1 ≤ next.left
enough_left left s next a enough made =
    let fewer : next.left ≡ s.left - count_after a.now.halt = ap (λ (w : ScriptState). w.left) made in
    omega (arith, enough, fewer, counts_once a.now.halt)

-- WHY A RUN ENDS

pub end_halted : (watches : List ℕ) (g : RunGoal) (before after : ScriptState) (o : Option Halt) (x : Stop) → Some x ≡ option_map stop_of o
    → Some (end.Stopped x) ≡ run_end_by watches g before after o
end_halted watches g before after (Some h) x is = ap (λ (y : Option Stop). option_map end.Stopped y) is
end_halted watches g before after None x is = absurd (cc)

pub end_reached : (watches : List ℕ) (g : RunGoal) (before after : ScriptState) (o : Option Halt) → None ≡ option_map stop_of o
    → is_reached g after.machine ≡ true → Some end.Reached ≡ run_end_by watches g before after o
end_reached watches g before after (Some h) none is = absurd (cc)
end_reached watches g before after None none is = rw is refl

pub end_watched : (watches : List ℕ) (g : RunGoal) (before after : ScriptState) (o : Option Halt) → None ≡ option_map stop_of o
    → is_reached g after.machine ≡ false
    → watched_end (watch_hit watches before.machine.store.bytes after.machine.store.bytes) after ≡ run_end_by watches g before after o
end_watched watches g before after (Some h) none is = absurd (cc)
end_watched watches g before after None none is = rw is refl

-- the first change, by the words as they were
pub hits : (watches : List ℕ) (before after : Bytes) → first_of (change_of_word after) (watched_words watches before) ≡ watch_hit watches before after
hits [] before after = refl
hits (a ∷ others) before after = ap (λ (o : Option WatchHit). option_or (watched_change before after a) o) (hits others before after)
