-- With no stub and no watch, untraced lines are those of a script.
use Rattle.std.proofs.Math.Bool.{and-true}
use Rattle.std.proofs.Common.{◌≡◌, ℕ, zero, suc, ◌+◌, ◌-◌, ◌==◌, ◌&&◌, ◌++◌, Bool, true, false, List, [], ◌∷◌, Option, Some, None, if◌then◌else◌, ap, append_assoc, arith, refl, subst, sym, ◌∙◌, length}
use Rattle.std.proofs.lemmas.Bool.{and_parts, eqb-true}
use Rattle.std.proofs.lemmas.Bool.Decides.{nat_tests}
use Rattle.law_machine.proofs.RunLoop.{ran-halted, ran-none}
use Rattle.std.proofs.lemmas.List.{append-nil}
use Rattle.std.specs.Prelude.{IsSome, min, nat_le}
use Rattle.profile.specs.declared.stop.Stop.{Stop}
use Rattle.profile.specs.declared.stop.Stop.TheVariants as stop
use Rattle.debug_labels.specs.Labels.{ImageLabels}
use Rattle.profile.specs.images.Entries.{Entry}
use Rattle.law_machine.specs.Halt.{Halt}
use Rattle.law_machine.specs.Halt.TheVariants as halt
use Rattle.debug_tables.specs.MachineState.{MachineState, StepOutcome, stop_of}
use Rattle.debug_tables.specs.Run.{Run, count_after, go_on, is_among, ran, resting, run_after_steps, run_unless_halted}
use Rattle.debug_tables.specs.Step.{machine_step, module_loaded, store_called, without_x}
use Rattle.debug_tables.specs.Answers.{stepped_text, stop_text}
use Rattle.debug_tables.specs.Calls.{answer_after_steps, call_end, call_end_by, call_made, finished_by, step_made, step_then, stop_before_step, stop_before_step_by, stop_answer}
use Rattle.debug_tables.specs.State.{Answered, ScriptState, answer}
use Rattle.debug_tables.specs.Stepping.{script_after_run, script_run}
use Rattle.debug_tables.specs.CallEnd.TheVariants as cend
use Rattle.debug_tables.proofs.CallLemmas.{call_allowed, call_refused, finished_ends, halted_ends}
use Rattle.trace_text.specs.Step.{call_start_text, load_start_text}
use Rattle.debug_runs.specs.Endings.{line_end_answer, answer_of_steps}
use Rattle.debug_runs.specs.Laws.{AreScriptLines, IsScriptAnswer, IsFreshUnhalted}
use Rattle.debug_runs.specs.Lines.{stepping_answer}
use Rattle.debug_lines.specs.SteppingRequests as asked
use Rattle.debug_runs.specs.Lines as line
use Rattle.debug_tables.specs.Modes.{are_plain}
use Rattle.debug_runs.specs.Runs.{SteppingRun, call_run, end_after, run_end_by, next_step, run_behind, run_ended, run_step, run_unless, steps_run}
use Rattle.debug_runs.specs.TraceWriter.{call_text_behind}
use Rattle.debug_runs.specs.declared.endings.EndKind.TheVariants as kind
use Rattle.debug_tables.specs.declared.modes.StepModes.{StepModes}
use Rattle.debug_runs.specs.declared.running.RunEnd.TheVariants as end
use Rattle.debug_runs.specs.declared.running.RunGoal.TheVariants as goal
use Rattle.debug_tables.proofs.StubLemmas.{no_stub, real_steps}

-- NO MODES

abbrev pub no_modes : StepModes
no_modes = record { stubs = []; watches = [] }

pub empty : {A : Type 0} (xs : List A) → (length xs == 0) ≡ true → xs ≡ []
empty [] is = refl
empty (x ∷ xs) is = let none = eqb-true (length (x ∷ xs)) 0 is in absurd (omega (arith, none))

pub plain_modes : (modes : StepModes) → are_plain modes ≡ true → modes ≡ no_modes
plain_modes modes is =
    let none = and_parts (length modes.stubs == 0) (length modes.watches == 0) is in
    let stubs = empty modes.stubs none.0 in
    let watches = empty modes.watches none.1 in
    λ i. record { stubs = stubs i; watches = watches i }

pub plain_step : (s : ScriptState) → next_step no_modes s ≡ machine_step s.images s.machine
plain_step s = real_steps [] s.images s.machine (no_stub s.machine)

-- RUN AND STEP

pub stale : (b : Bool) (n : ℕ) → false ≡ (b && (suc n == 0))
stale true n = grind (arith, nat_tests)
stale false n = refl

-- a run, as the machine's own is
record IsRan (s : ScriptState) (n : ℕ) (r : SteppingRun) (q : Run) : Type 0 where
  now : r.now ≡ record s { machine = q.now; is_fresh = s.is_fresh && (n == 0); left = s.left - q.taken }
  text : r.text ≡ q.printed
  ended : r.ended ≡ end.Stopped q.stop

ran_if_among : (s : ScriptState) (n : ℕ) (o : StepOutcome) (rest : SteppingRun) (q : Run) (among : Bool) → o.now.halt ≡ None
    → IsRan (step_made s o) n rest q
    → IsRan s (suc n)
    (run_behind o.printed o.printed (run_unless (step_made s o) (if among then Some (end.Stopped (stop.Break o.now.cpu.pc)) else None) rest))
    (if among then record { now = o.now; printed = o.printed; last = Some o.printed; taken = 1; stop = stop.Break o.now.cpu.pc }
    else run_after_steps o.printed (Some o.printed) 1 q)
ran_if_among s n o rest q true unhalted is =
    let one = ap count_after unhalted in
    record {
      now = λ i. record s { machine = o.now; is_fresh = stale s.is_fresh n i; left = s.left - one i };
      text = append-nil o.printed;
      ended = refl;
    }
ran_if_among s n o rest q false unhalted is =
    let one = ap count_after unhalted in
    let left : (s.left - count_after o.now.halt) - q.taken ≡ s.left - (1 + q.taken) = omega (arith, one) in
    record {
      now = is.now ∙ (λ i. record s { machine = q.now; is_fresh = stale s.is_fresh n i; left = left i });
      text = ap (λ (xs : List ℕ). o.printed ++ xs) is.text;
      ended = is.ended;
    }

ran_by : (s : ScriptState) (n : ℕ) (o : StepOutcome) (rest : SteppingRun) (q : MachineState → Run) (h : Option Halt) → o.now.halt ≡ h
    → (h ≡ None → IsRan (step_made s o) n rest (q o.now))
    → IsRan s (suc n) (run_behind o.printed o.printed (run_unless (step_made s o) (run_end_by [] goal.Nowhere s (step_made s o) h) rest))
    (go_on s.breaks o h q)
ran_by s n o rest q (Some h) halted is =
    let count = ap count_after halted in
    record {
      now = λ i. record s { machine = o.now; is_fresh = stale s.is_fresh n i; left = s.left - count i };
      text = append-nil o.printed;
      ended = refl;
    }
ran_by s n o rest q None unhalted is = ran_if_among s n o rest (q o.now) (is_among s.breaks o.now.cpu.pc) unhalted (is refl)

plain_first : (labels : List ImageLabels) (n : ℕ) (s : ScriptState)
    → steps_run no_modes labels goal.Nowhere (suc n) None s
    ≡ (let o = machine_step s.images s.machine in
    run_step [] goal.Nowhere s o o.printed (steps_run no_modes labels goal.Nowhere n None))
unfolding steps_run
plain_first labels n s =
    ap (λ (o : StepOutcome). run_step [] goal.Nowhere s o o.printed (steps_run no_modes labels goal.Nowhere n None)) (plain_step s)

pub ran_first : (images : List Entry) (breaks : List ℕ) (n : ℕ) (m : MachineState) → m.halt ≡ None
    → ran images breaks (suc n) m ≡ (let o = machine_step images m in go_on breaks o o.now.halt (ran images breaks n))
unfolding ran
ran_first images breaks n m unhalted =
    ap (λ (h : Option Halt). run_unless_halted m h (go_on breaks (machine_step images m) (machine_step images m).now.halt (ran images breaks n))) unhalted

is_ran : (labels : List ImageLabels) (n : ℕ) (s : ScriptState) → s.machine.halt ≡ None
    → IsRan s n (steps_run no_modes labels goal.Nowhere n None s) (ran s.images s.breaks n s.machine)
unfolding steps_run end_after
is_ran labels zero s unhalted =
    let left : s.left ≡ s.left - 0 = omega arith in
    subst (λ (q : Run). IsRan s 0 (run_ended s (end.Stopped stop.Budget)) q) (sym (ran-none s.images s.breaks s.machine unhalted))
    (record { now = λ i. record s { is_fresh = sym (and-true s.is_fresh) i; left = left i }; text = refl; ended = refl })
is_ran labels (suc n) s unhalted =
    let o = machine_step s.images s.machine in
    let after = step_made s o in
    let rest = steps_run no_modes labels goal.Nowhere n None after in
    subst (λ (r : SteppingRun). IsRan s (suc n) r (ran s.images s.breaks (suc n) s.machine)) (sym (plain_first labels n s))
    (subst (λ (q : Run). IsRan s (suc n) (run_step [] goal.Nowhere s o o.printed (steps_run no_modes labels goal.Nowhere n None)) q)
    (sym (ran_first s.images s.breaks n s.machine unhalted))
    (ran_by s n o rest (ran s.images s.breaks n) o.now.halt refl (λ none. is_ran labels n after none)))

abbrev steps_answer : ScriptState → Bool → ℕ → Run → Answered
steps_answer s could_all most q = answer (script_after_run s most q) (q.printed ++ stepped_text could_all q.stop q.now.cpu.pc)

can_step : (n : ℕ) → stop_before_step_by None (suc n) ≡ None
can_step n = grind (arith, nat_tests)

ran_answer : (s : ScriptState) (could_all : Bool) (most : ℕ) (r : SteppingRun) (q : Run) → IsRan s most r q
    → IsScriptAnswer (line.steps_line_answer None s (kind.Steps could_all) r) (steps_answer s could_all most q)
ran_answer s could_all most r q is =
    let reported : line_end_answer (kind.Steps could_all) r.now r.ended
    ≡ answer_of_steps could_all (record s { machine = q.now; is_fresh = s.is_fresh && (most == 0); left = s.left - q.taken }) q.stop =
    λ i. line_end_answer (kind.Steps could_all) (is.now i) (is.ended i) in
    let text : r.text ++ [] ≡ q.printed = append-nil r.text ∙ is.text in
    record {
      state = ap (λ (a : Answered). a.state) reported;
      text = λ i. text i ++ (reported i).text;
    }

steps_by : (labels : List ImageLabels) (s : ScriptState) (could_all : Bool) (most : ℕ) (h : Option Halt) → s.machine.halt ≡ h → IsFreshUnhalted s
    → IsScriptAnswer (line.answer_unless None s (kind.Steps could_all) (steps_run no_modes labels goal.Nowhere most None s) (stop_before_step_by h most))
    (steps_answer s could_all most (script_run s most))
steps_by labels s could_all most (Some h) halted unhalted =
    let old : s.is_fresh ≡ false = unhalted (subst (λ (o : Option Halt). IsSome o) (sym halted) refl) in
    let fresh : s.is_fresh ≡ (s.is_fresh && (most == 0)) = old ∙ sym (ap (λ (b : Bool). b && (most == 0)) old) in
    let left : s.left ≡ s.left - 0 = omega arith in
    subst (λ (q : Run). IsScriptAnswer (line.answer_unless None s (kind.Steps could_all) (steps_run no_modes labels goal.Nowhere most None s) (Some (stop_of h))) (steps_answer s could_all most q))
    (sym (ran-halted s.images s.breaks most s.machine h halted))
    (record { state = λ i. record s { is_fresh = fresh i; left = left i; last = Some (stop_of h) }; text = refl })
steps_by labels s could_all zero None none unhalted =
    let left : s.left ≡ s.left - 0 = omega arith in
    subst (λ (q : Run). IsScriptAnswer (line.answer_unless None s (kind.Steps could_all) (steps_run no_modes labels goal.Nowhere 0 None s) (Some stop.Budget)) (steps_answer s could_all 0 q))
    (sym (ran-none s.images s.breaks s.machine none))
    (record { state = λ i. record s { is_fresh = sym (and-true s.is_fresh) i; left = left i; last = Some stop.Budget }; text = refl })
steps_by labels s could_all (suc n) None none unhalted =
    let r = steps_run no_modes labels goal.Nowhere (suc n) None s in
    subst (λ (x : Option Stop). IsScriptAnswer (line.answer_unless None s (kind.Steps could_all) r x) (steps_answer s could_all (suc n) (script_run s (suc n))))
    (sym (can_step n)) (ran_answer s could_all (suc n) r (script_run s (suc n)) (is_ran labels (suc n) s none))

steps_are : (labels : List ImageLabels) (s : ScriptState) (could_all : Bool) (most : ℕ) → IsFreshUnhalted s
    → IsScriptAnswer (line.answer_if_unhalted None s (kind.Steps could_all) most (steps_run no_modes labels goal.Nowhere most None s))
    (steps_answer s could_all most (script_run s most))
steps_are labels s could_all most unhalted = steps_by labels s could_all most s.machine.halt refl unhalted

stop_line : (x : Stop) (pc : ℕ) → stepped_text false x pc ≡ stop_text x pc
stop_line stop.Exit pc = refl
stop_line stop.Budget pc = refl
stop_line (stop.Break a) pc = refl
stop_line (stop.Fault f) pc = refl

-- CALL AND LOAD

-- a run whose end is shown as a call's is
record IsEnd (r : SteppingRun) (a : Answered) : Type 0 where
  state : (line_end_answer kind.Call r.now r.ended).state ≡ a.state
  text : r.text ++ (line_end_answer kind.Call r.now r.ended).text ≡ a.text

end_if : (s : ScriptState) (reached among spent : Bool) (r : SteppingRun) (a : Answered)
    → (spent ≡ true → IsEnd r (stop_answer s stop.Budget)) → (spent ≡ false → IsEnd r a)
    → IsEnd (run_unless s (if reached then Some end.Reached else (if among then Some (end.Stopped (stop.Break s.machine.cpu.pc)) else None)) r)
    (finished_by s (if reached then Some cend.Returned else (
    if among then Some (cend.Stopped (stop.Break s.machine.cpu.pc)) else (
    if spent then Some (cend.Stopped stop.Budget) else
    None))) a)
end_if s true among spent r a budget more = record { state = refl; text = refl }
end_if s false true spent r a budget more = record { state = refl; text = refl }
end_if s false false true r a budget more = budget refl
end_if s false false false r a budget more = more refl

end_by_halt : (before s : ScriptState) (frames : ℕ) (h : Option Halt) (r : SteppingRun) (a : Answered)
    → (h ≡ None → (s.left == 0) ≡ true → IsEnd r (stop_answer s stop.Budget)) → (h ≡ None → (s.left == 0) ≡ false → IsEnd r a)
    → IsEnd (run_unless s (run_end_by [] (goal.Frames frames) before s h) r) (finished_by s (call_end_by s frames h) a)
end_by_halt before s frames (Some h) r a budget more = record { state = refl; text = refl }
end_by_halt before s frames None r a budget more =
    end_if s (length s.machine.tables.frames == frames) (is_among s.breaks s.machine.cpu.pc) (s.left == 0) r a (budget refl) (more refl)

step_is : (s : ScriptState) (o : StepOutcome) (text : List ℕ) (r : SteppingRun) (next : ScriptState → Answered) → text ≡ o.printed
    → IsEnd r (next (step_made s o)) → IsEnd (run_behind text o.printed r) (step_then s o next)
step_is s o text r next same is = record {
  state = is.state;
  text = append_assoc text r.text (line_end_answer kind.Call r.now r.ended).text
      ∙ (λ i. same i ++ is.text i);
}

abbrev rest_of : List ImageLabels → ℕ → ℕ → ScriptState → ScriptState → SteppingRun
rest_of labels frames n before s =
    run_unless s (end_after [] (goal.Frames frames) before s) (steps_run no_modes labels (goal.Frames frames) n None s)

plain_call_step : (labels : List ImageLabels) (frames n : ℕ) (s : ScriptState)
    → steps_run no_modes labels (goal.Frames frames) (suc n) None s
    ≡ (let o = machine_step s.images s.machine in
    run_step [] (goal.Frames frames) s o o.printed (steps_run no_modes labels (goal.Frames frames) n None))
unfolding steps_run
plain_call_step labels frames n s =
    ap (λ (o : StepOutcome). run_step [] (goal.Frames frames) s o o.printed (steps_run no_modes labels (goal.Frames frames) n None)) (plain_step s)

rest_is : (labels : List ImageLabels) (frames n : ℕ) (before s : ScriptState) → (s.machine.halt ≡ None → n ≡ s.left)
    → IsEnd (rest_of labels frames n before s) (answer_after_steps frames n s)
unfolding steps_run end_after call_end answer_after_steps
rest_is labels frames zero before s left =
    end_by_halt before s frames s.machine.halt (run_ended s (end.Stopped stop.Budget)) (stop_answer s stop.Budget)
    (λ none spent. record { state = refl; text = refl }) (λ none spent. record { state = refl; text = refl })
rest_is labels frames (suc n) before s left =
    let o = machine_step s.images s.machine in
    let after = step_made s o in
    let behind : s.machine.halt ≡ None → IsEnd (steps_run no_modes labels (goal.Frames frames) (suc n) None s) (step_then s o (answer_after_steps frames n)) =
    λ none. subst (λ (r : SteppingRun). IsEnd r (step_then s o (answer_after_steps frames n))) (sym (plain_call_step labels frames n s))
    (step_is s o o.printed (rest_of labels frames n s after) (answer_after_steps frames n) refl
    (rest_is labels frames n s after (λ unhalted. let one = ap count_after unhalted in let all = left none in omega (arith, one, all)))) in
    end_by_halt before s frames s.machine.halt (steps_run no_modes labels (goal.Frames frames) (suc n) None s) (step_then s o (answer_after_steps frames n))
    (λ none spent. let all = left none in let no = eqb-true s.left 0 spent in absurd (omega (arith, all, no)))
    (λ none spent. behind none)

-- as many steps are left of a call as of the budget, or it takes none
same_left : (frames left : ℕ) (now : ScriptState) (h : Option Halt) → now.machine.halt ≡ h → now.left ≡ left - count_after h
    → answer_after_steps frames (left - 1) now ≡ answer_after_steps frames now.left now
same_left frames left now None unhalted is = ap (λ (k : ℕ). answer_after_steps frames k now) (omega (arith, is))
same_left frames left now (Some halt.Exit) halted is = ap (λ (k : ℕ). answer_after_steps frames k now) (omega (arith, is))
same_left frames left now (Some (halt.Fault f)) halted is =
    let over = halted_ends now frames (halt.Fault f) halted in
    finished_ends frames (left - 1) now (cend.Stopped (stop_of (halt.Fault f))) over
    ∙ sym (finished_ends frames now.left now (cend.Stopped (stop_of (halt.Fault f))) over)

call_by : (labels : List ImageLabels) (s : ScriptState) (text : List ℕ) (o : StepOutcome) (x : Option Stop) → stop_before_step s ≡ x
    → IsScriptAnswer (line.answer_unless None s kind.Call (call_run no_modes labels (goal.Frames (length s.machine.tables.frames)) s.left None s text o) x) (call_made s o)
call_by labels s text o (Some x) is =
    subst (λ (a : Answered). IsScriptAnswer (line.answer_unless None s kind.Call (call_run no_modes labels (goal.Frames (length s.machine.tables.frames)) s.left None s text o) (Some x)) a)
    (sym (call_refused s o x is)) (record { state = refl; text = refl })
call_by labels s text o None is =
    let frames = length s.machine.tables.frames in
    let after = step_made s o in
    let r = call_run no_modes labels (goal.Frames frames) s.left None s text o in
    let rest : IsEnd (rest_of labels frames (s.left - 1) s after) (answer_after_steps frames after.left after) =
    subst (λ (a : Answered). IsEnd (rest_of labels frames (s.left - 1) s after) a) (same_left frames s.left after o.now.halt refl refl)
    (rest_is labels frames (s.left - 1) s after (λ unhalted. let one = ap count_after unhalted in omega (arith, one))) in
    let whole : IsEnd r (step_then s o (λ (w : ScriptState). answer_after_steps frames w.left w)) =
    step_is s o o.printed (rest_of labels frames (s.left - 1) s after) (λ (w : ScriptState). answer_after_steps frames w.left w) refl rest in
    subst (λ (a : Answered). IsScriptAnswer (line.steps_line_answer None s kind.Call r) a) (sym (call_allowed s o is))
    (record {
      state = whole.state;
      text = ap (λ (xs : List ℕ). xs ++ (line_end_answer kind.Call r.now r.ended).text) (append-nil r.text) ∙ whole.text;
    })

call_is : (labels : List ImageLabels) (s : ScriptState) (start : List ℕ) (o : StepOutcome) → IsScriptAnswer (line.call_line_answer no_modes labels None s start o) (call_made s o)
call_is labels s start o = call_by labels s (call_text_behind start s.machine o) o (stop_before_step s) refl

-- ALL FOUR

plain_lines : (labels : List ImageLabels) (s : ScriptState) (number : ℕ) (block : List (List ℕ)) → IsFreshUnhalted s → AreScriptLines no_modes labels s number block
unfolding stepping_answer
plain_lines labels s number block unhalted = record {
  run =
      let q = script_run s s.left in
      subst (λ (text : List ℕ). IsScriptAnswer (stepping_answer no_modes labels None s asked.Run) (answer (script_after_run s s.left q) (q.printed ++ text)))
      (stop_line q.stop q.now.cpu.pc) (steps_are labels s false s.left unhalted);
  step = λ count. steps_are labels s (nat_le count s.left) (min count s.left) unhalted;
  call = λ called. call_is labels s (call_start_text s.machine.cpu s.machine.store.bytes called) (store_called s.images s.machine called);
  load = λ text. call_is labels s (load_start_text text) (module_loaded s.images s.machine text);
}

pub lines_are : (modes : StepModes) (labels : List ImageLabels) (s : ScriptState) (number : ℕ) (block : List (List ℕ)) → are_plain modes ≡ true
    → IsFreshUnhalted s → AreScriptLines modes labels s number block
lines_are modes labels s number block plain unhalted =
    subst (λ (m : StepModes). AreScriptLines m labels s number block) (sym (plain_modes modes plain)) (plain_lines labels s number block unhalted)
