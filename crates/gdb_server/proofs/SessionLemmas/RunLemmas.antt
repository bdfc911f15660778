-- What slices, single steps, stops and lines come to.
use Rattle.std.proofs.Common.{◌≡◌, ℕ, Bool, true, false, ◌&&◌, List, [], refl, ap, subst, sym, ◌∙◌}
use Rattle.std.specs.Prelude.{Option, Some, None, Result, IfOk, codes, nat_lt, option_map, if◌then◌else◌}
use Rattle.std.specs.Str.Lines.{lines}
use Rattle.debug_session.specs.RunError.{RunError}
use Rattle.profile.specs.Fault.{Fault}
use Rattle.profile.specs.declared.stop.Stop.{Stop}
use Rattle.profile.specs.declared.stop.Stop.TheVariants as stop
use Rattle.gdb_machine.specs.MachineState.{stop_of}
use Rattle.debug_session.specs.DebugScript.{debug_line_answer, debug_lines_answer}
use Rattle.debug_session.specs.DebugState.{DebugAnswered, DebugState, IsDebugged}
use Rattle.debug_session.specs.declared.session.DebugSettings.{DebugSettings}
use Rattle.gdb_machine.specs.StepEnds.{halted_text, steps_further, stop_after_step}
use Rattle.gdb_machine.specs.Stops.{is_gone}
use Rattle.gdb_machine.specs.declared.back_ends.UnderWay.{UnderWay}
use Rattle.gdb_machine.specs.declared.back_ends.UnderWay.TheVariants as under
use Rattle.gdb_machine.specs.declared.stops.GdbStop.{GdbStop}
use Rattle.gdb_machine.specs.declared.stops.GdbStop.TheVariants as reason
use Rattle.gdb_packets.specs.declared.going.Going.{Going}
use Rattle.gdb_packets.specs.declared.going.Going.TheVariants as going
use Rattle.gdb_server.specs.session.Requests.{goes_further, goes_on_if, host_answered}
use Rattle.gdb_server.specs.session.Runs.{after_begin, asking, unhalted_answer, begin_shown, break_here, debug_anew, fault_shown, first_slice_shown, gdb_step_shown, gdb_stop_shown, going_shown, halt_shown, has_break_due, line_decoded, slice_steps, slice_shown, step_taken, stop_asked, stop_shown_with, stops_if, unless_gone, unless_halted_before, unless_taken, with_debug, with_whole_budget, without_quit}
use Rattle.gdb_server.specs.session.Session.{IsAfterSteps, IsGdbAnswered}
use Rattle.gdb_server.specs.session.State.{GdbAnswered, GdbState, no_reply, with_steps_noted}
use Rattle.gdb_server.specs.session.Steps.{StepsTaken, gdb_steps, is_other_list}
use Rattle.gdb_server.specs.declared.session.session.GdbAnswer.{GdbAnswer}

-- a slice after which the other side is asked, and one that ends the run
pub slice_asks : (g now : GdbState) (goes : Going) (text : List ℕ) (end : GdbStop)
    → IsAfterSteps g now [] text end (gdb_steps g goes slice_steps)
    → steps_further end && nat_lt 0 now.debug.script.left ≡ true → asking now (under.Run goes) text ≡ slice_shown g goes
slice_asks g now goes text end done further =
    let t : StepsTaken = gdb_steps g goes slice_steps in
    let goes_there : steps_further t.stop && nat_lt 0 t.script.left ≡ true =
    subst (λ (e : GdbStop). steps_further e && nat_lt 0 t.script.left ≡ true) done.reason
    (subst (λ (s : GdbState). steps_further end && nat_lt 0 s.debug.script.left ≡ true) done.state further) in
    ap (λ (s : GdbState). asking s (under.Run goes) text) done.state
    ∙ ap (λ (x : List ℕ). asking (with_steps_noted g t.script) (under.Run goes) x) done.text
    ∙ sym (shown_if (steps_further t.stop && nat_lt 0 t.script.left) goes_there) where
      shown_if : (b : Bool) → b ≡ true
          → (let t : StepsTaken = gdb_steps g goes slice_steps in
          (if b then asking (with_steps_noted g t.script) (under.Run goes) t.printed else gdb_stop_shown (with_steps_noted g t.script) t.printed t.stop)
          ≡ asking (with_steps_noted g t.script) (under.Run goes) t.printed)
      shown_if b is = rw is refl

pub slice_ends : (g now : GdbState) (goes : Going) (text : List ℕ) (end : GdbStop)
    → IsAfterSteps g now [] text end (gdb_steps g goes slice_steps)
    → steps_further end && nat_lt 0 now.debug.script.left ≡ false → gdb_stop_shown now text end ≡ slice_shown g goes
slice_ends g now goes text end done ends =
    let t : StepsTaken = gdb_steps g goes slice_steps in
    let ends_there : steps_further t.stop && nat_lt 0 t.script.left ≡ false =
    subst (λ (e : GdbStop). steps_further e && nat_lt 0 t.script.left ≡ false) done.reason
    (subst (λ (s : GdbState). steps_further end && nat_lt 0 s.debug.script.left ≡ false) done.state ends) in
    ap (λ (s : GdbState). gdb_stop_shown s text end) done.state
    ∙ ap (λ (x : List ℕ). gdb_stop_shown (with_steps_noted g t.script) x end) done.text
    ∙ ap (λ (e : GdbStop). gdb_stop_shown (with_steps_noted g t.script) t.printed e) done.reason
    ∙ sym (shown_if (steps_further t.stop && nat_lt 0 t.script.left) ends_there) where
      shown_if : (b : Bool) → b ≡ false
          → (let t : StepsTaken = gdb_steps g goes slice_steps in
          (if b then asking (with_steps_noted g t.script) (under.Run goes) t.printed else gdb_stop_shown (with_steps_noted g t.script) t.printed t.stop)
          ≡ gdb_stop_shown (with_steps_noted g t.script) t.printed t.stop)
      shown_if b is = rw is refl

pub step_stops : (g now : GdbState) (text : List ℕ) (end why : GdbStop)
    → IsAfterSteps g now [] text end (gdb_steps g going.Once 1) → why ≡ stop_after_step end
    → gdb_stop_shown now text why ≡ gdb_step_shown g
step_stops g now text end why done is =
    let t : StepsTaken = gdb_steps g going.Once 1 in
    ap (λ (s : GdbState). gdb_stop_shown s text why) done.state
    ∙ ap (λ (x : List ℕ). gdb_stop_shown (with_steps_noted g t.script) x why) done.text
    ∙ ap (λ (e : GdbStop). gdb_stop_shown (with_steps_noted g t.script) t.printed e) (is ∙ ap stop_after_step done.reason)

-- of other modules GDB is told first, and then of a break that is due
pub shows_library : (g : GdbState) → is_other_list g.libraries g.debug.script ≡ true → gdb_stop_shown g [] reason.Library ≡ first_slice_shown g
shows_library g is = rw is refl

pub shows_break : (g : GdbState) → is_other_list g.libraries g.debug.script ≡ false → has_break_due g ≡ true
    → gdb_stop_shown g [] (break_here g) ≡ first_slice_shown g
shows_break g same due = by (is_other_list g.libraries g.debug.script) (has_break_due g) same due
  where
    by : (other due : Bool) → other ≡ false → due ≡ true → gdb_stop_shown g [] (break_here g)
        ≡ (if other then gdb_stop_shown g [] reason.Library else (if due then gdb_stop_shown g [] (break_here g) else slice_shown g going.On))
    by other due same is = rw (same, is) refl

pub shows_neither : (g : GdbState) → is_other_list g.libraries g.debug.script ≡ false → has_break_due g ≡ false
    → slice_shown g going.On ≡ first_slice_shown g
shows_neither g same none = by (is_other_list g.libraries g.debug.script) (has_break_due g) same none
  where
    by : (other due : Bool) → other ≡ false → due ≡ false → slice_shown g going.On
        ≡ (if other then gdb_stop_shown g [] reason.Library else (if due then gdb_stop_shown g [] (break_here g) else slice_shown g going.On))
    by other due same is = rw (same, is) refl

-- the run or the search goes on, stops, or there is none
pub stands_still : (g : GdbState) (asks : Bool) → g.going ≡ None → no_reply g ≡ host_answered g asks
stands_still g asks none = sym (ap (λ (o : Option UnderWay). goes_on_if g asks o) none)

pub stops_asked : (g : GdbState) (asks : Bool) (way : UnderWay) → g.going ≡ Some way → asks ≡ true
    → gdb_stop_shown g [] reason.Asked ≡ host_answered g asks
stops_asked g asks way some is = sym (ap (λ (o : Option UnderWay). goes_on_if g asks o) some ∙ rw is refl)

pub goes_so : (g : GdbState) (asks : Bool) (way is : UnderWay) → g.going ≡ Some way → way ≡ is → asks ≡ false
    → goes_further g is ≡ host_answered g asks
goes_so g asks way is some same declined =
    sym (ap (λ (o : Option UnderWay). goes_on_if g asks o) (some ∙ ap (λ (w : UnderWay). Some w) same) ∙ rw declined refl)

-- a machine that is halted
pub fault_ends : (g : GdbState) (own : Bool) (f : Fault) → own ≡ true → gdb_stop_shown g [] (reason.Killed f) ≡ fault_shown g own f
fault_ends g own f is = rw is refl

pub fault_stays : (g : GdbState) (own : Bool) (f : Fault) → own ≡ false
    → stop_shown_with g (halted_text f g.debug.script.machine.cpu.pc) (reason.Ran (stop.Fault f)) ≡ fault_shown g own f
fault_stays g own f is = rw is refl

-- why a machine is halted, if no fault has halted it
pub halts_so : (g : GdbState) (signal : Option ℕ) (halt : Stop) → ((f : Fault) → halt ≡ stop.Fault f → ⊥)
    → gdb_stop_shown g [] (reason.Ran halt) ≡ halt_shown g signal halt
halts_so g signal (stop.Fault f) none = absurd (none f refl)
halts_so g signal stop.Exit none = refl
halts_so g signal stop.Budget none = refl
halts_so g signal (stop.Break address) none = refl

-- a step that is taken already, or not
pub step_was_taken : (g : GdbState) (why : GdbStop) (other : GdbAnswered) → step_taken g ≡ Some why
    → gdb_stop_shown g [] why ≡ unless_taken (step_taken g) g other
step_was_taken g why other is = sym (ap (λ (o : Option GdbStop). unless_taken o g other) is)

pub step_to_take : (g : GdbState) (other : GdbAnswered) → step_taken g ≡ None → other ≡ unless_taken (step_taken g) g other
step_to_take g other is = sym (ap (λ (o : Option GdbStop). unless_taken o g other) is)

-- the byte 3 while a run or a search is under way
pub asked_stops : (g : GdbState) (way : UnderWay) → g.going ≡ Some way → gdb_stop_shown g [] reason.Asked ≡ stop_asked g
asked_stops g way some = sym (ap (λ (o : Option UnderWay). stops_if g o) some)

-- a run or a step begins
-- a program that is no more, or is there
pub goes_nowhere : (g there : GdbState) (goes : Going) (signal : Option ℕ) → there ≡ with_whole_budget g
    → is_gone there.stop ≡ true → gdb_stop_shown there [] there.stop ≡ going_shown g goes signal
goes_nowhere g there goes signal is gone =
    ap (λ (s : GdbState). gdb_stop_shown s [] s.stop) is
    ∙ by (is_gone g.stop) _ _ (sym (ap (λ (s : GdbState). is_gone s.stop) is) ∙ gone)
  where
    by : (b : Bool) (again other : GdbAnswered) → b ≡ true → again ≡ (if b then again else other)
    by b again other is = rw is refl

is_there : (g there : GdbState) (other : GdbAnswered) → there ≡ with_whole_budget g → is_gone there.stop ≡ false
    → other ≡ unless_gone (with_whole_budget g) other
is_there g there other is stays =
    by (is_gone g.stop) _ _ (sym (ap (λ (s : GdbState). is_gone s.stop) is) ∙ stays)
  where
    by : (b : Bool) (again other : GdbAnswered) → b ≡ false → other ≡ (if b then again else other)
    by b again other is = rw is refl

pub goes_halted : (g there : GdbState) (goes : Going) (signal : Option ℕ) (halt : Stop) → there ≡ with_whole_budget g
    → is_gone there.stop ≡ false → option_map stop_of there.debug.script.machine.halt ≡ Some halt → halt_shown there signal halt ≡ going_shown g goes signal
goes_halted g there goes signal halt is stays halted =
    let whole : GdbState = with_whole_budget g in
    let there_too = sym (ap (λ (s : GdbState). option_map stop_of s.debug.script.machine.halt) is) ∙ halted in
    ap (λ (s : GdbState). halt_shown s signal halt) is
    ∙ sym (ap (λ (o : Option Stop). unless_halted_before whole signal o (unhalted_answer whole goes)) there_too)
    ∙ is_there g there _ is stays

pub goes_unhalted : (g there : GdbState) (goes : Going) (signal : Option ℕ) → there ≡ with_whole_budget g
    → is_gone there.stop ≡ false → option_map stop_of there.debug.script.machine.halt ≡ None → unhalted_answer there goes ≡ going_shown g goes signal
goes_unhalted g there goes signal is stays unhalted =
    let whole : GdbState = with_whole_budget g in
    let there_too = sym (ap (λ (s : GdbState). option_map stop_of s.debug.script.machine.halt) is) ∙ unhalted in
    ap (λ (s : GdbState). unhalted_answer s goes) is
    ∙ sym (ap (λ (o : Option Stop). unless_halted_before whole signal o (unhalted_answer whole goes)) there_too)
    ∙ is_there g there _ is stays

-- the answer by an equal one
pub answered_as : (now : GdbState) (r : Result GdbAnswer RunError) (a b : GdbAnswered) → a ≡ b
    → IfOk r (λ answer. IsGdbAnswered now answer a) → IfOk r (λ answer. IsGdbAnswered now answer b)
answered_as now r a b same reported = subst (λ (x : GdbAnswered). IfOk r (λ (answer : GdbAnswer). IsGdbAnswered now answer x)) same reported

-- a line of a debugging script, answered on its own
pub line_answered : (own later : DebugSettings) (g : GdbState) (answer : GdbAnswer) (before after : List ℕ) (here now : DebugState)
    (number : ℕ) (block : List (List ℕ)) (line : List ℕ)
    → IsDebugged (Some before) (Some after) now (debug_line_answer own here number line block)
    → own ≡ g.setting → later ≡ g.setting → here ≡ without_quit g.debug → before ≡ [] → number ≡ 0 → block ≡ [] → answer.reported.items ≡ after
    → option_map (λ reply. reply.items) answer.reply ≡ Some (codes "OK")
    → IsGdbAnswered (record (with_debug g now) { setting = later }) answer (line_decoded g (Some line))
line_answered own later g answer before after here now number block line reported same stays begins none first alone text reply =
    let a = subst (λ (n : ℕ). IsDebugged (Some []) (Some after) now (debug_line_answer g.setting (without_quit g.debug) n line [])) first
    (subst (λ (b : List (List ℕ)). IsDebugged (Some []) (Some after) now (debug_line_answer g.setting (without_quit g.debug) number line b)) alone
    (subst (λ (d : DebugState). IsDebugged (Some []) (Some after) now (debug_line_answer g.setting d number line block)) begins
    (subst (λ (u : DebugSettings). IsDebugged (Some []) (Some after) now (debug_line_answer u here number line block)) same
    (subst (λ (x : List ℕ). IsDebugged (Some x) (Some after) now (debug_line_answer own here number line block)) none reported)))) in
    record {
      state = ap (λ (u : DebugSettings). record (with_debug g now) { setting = u }) stays ∙ ap (with_debug g) a.state;
      text = text ∙ a.text;
      reply = reply;
    }

-- the lines that a machine begins with, answered on a fresh one
pub lines_answered : (own : DebugSettings) (g : GdbState) (before after : List ℕ) (here now : DebugState)
    (number : ℕ) (left : List (List ℕ)) → IsDebugged (Some before) (Some after) now (debug_lines_answer own number here left)
    → own ≡ g.setting → here ≡ debug_anew g.setting g.debug → before ≡ [] → number ≡ 0 → left ≡ lines g.start
    → IsDebugged (Some []) (Some after) now (begin_shown g)
lines_answered own g before after here now number left reported same begins none first all =
    subst (λ (l : List (List ℕ)). IsDebugged (Some []) (Some after) now (debug_lines_answer g.setting 0 (debug_anew g.setting g.debug) l)) all
    (subst (λ (n : ℕ). IsDebugged (Some []) (Some after) now (debug_lines_answer g.setting n (debug_anew g.setting g.debug) left)) first
    (subst (λ (d : DebugState). IsDebugged (Some []) (Some after) now (debug_lines_answer g.setting number d left)) begins
    (subst (λ (u : DebugSettings). IsDebugged (Some []) (Some after) now (debug_lines_answer u number here left)) same
    (subst (λ (x : List ℕ). IsDebugged (Some x) (Some after) now (debug_lines_answer own number here left)) none reported))))

-- the session after them
pub begun_so : (g : GdbState) (later : DebugSettings) (now : DebugState) (reported : DebugAnswered) (libraries : List ℕ) → later ≡ g.setting
    → now ≡ reported.state → libraries ≡ []
    → record g { setting = later; debug = now; libraries = libraries } ≡ after_begin g reported
begun_so g later now reported libraries same state none =
    ap (λ (u : DebugSettings). record g { setting = u; debug = now; libraries = libraries }) same
    ∙ ap (λ (d : DebugState). record g { debug = d; libraries = libraries }) state
    ∙ ap (λ (x : List ℕ). record g { debug = reported.state; libraries = x }) none
