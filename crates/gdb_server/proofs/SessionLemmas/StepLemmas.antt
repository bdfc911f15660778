-- Steps that are taken one by one, with a look after each: what is left of them.
use Rattle.std.proofs.Common.{◌≡◌, ◌<◌, ◌-◌, ℕ, suc, Bool, true, false, ◌&&◌, List, ◌++◌, append_assoc, refl, ap, subst, sym, ◌∙◌, arith}
use Rattle.std.specs.Prelude.{Option, Some, None, min, nat_lt, if◌then◌else◌}
use Rattle.std.proofs.lemmas.List.{append-nil}
use Rattle.std.proofs.lemmas.Bool.Decides.{nat_tests}
use Rattle.debug_session.specs.State.{ScriptState}
use Rattle.debug_session.specs.Stepping.{IsAfterRun}
use Rattle.gdb_machine.specs.StepEnds.{steps_further, struck_after}
use Rattle.gdb_machine.specs.Watches.{first_changed}
use Rattle.gdb_machine.specs.declared.stops.GdbStop.{GdbStop}
use Rattle.gdb_machine.specs.declared.stops.GdbStop.TheVariants as reason
use Rattle.gdb_machine.specs.declared.watches.SeenByte.{SeenByte}
use Rattle.gdb_machine.specs.declared.watches.WatchedPlace.{WatchedPlace}
use Rattle.gdb_packets.specs.declared.going.Going.{Going}
use Rattle.gdb_machine.specs.declared.step_ends.StepAhead.{StepAhead}
use Rattle.profile.specs.declared.stop.Stop.{Stop}
use Rattle.profile.specs.declared.stop.Stop.TheVariants as stop
use Rattle.gdb_machine.specs.GdbBreaks.{is_among}
use Rattle.gdb_server.specs.session.Session.{IsAfterLooked, IsAfterSteps}
use Rattle.gdb_server.specs.session.State.{GdbState, with_noted, with_script}
use Rattle.gdb_packets.specs.Going.{has_left}
use Rattle.gdb_server.specs.session.Steps.{StepLooks, StepsTaken, end_beside, end_of_step, is_other_list, looked_further, looked_steps, looks_at, machine_end, ahead_of, none_taken, printed_before, script_steps, stays_here, watched_or}

pub one_more : (l : StepLooks) (left : ℕ) (s : ScriptState) → looked_steps l (suc left) s
    ≡ looked_further (script_steps s 1)
    (end_of_step l (ahead_of l.going l.watches s) (script_steps s 1).stop (script_steps s 1).script) (looked_steps l left)
unfolding looked_steps
one_more l left s = refl

next_step : (l : StepLooks) (left : ℕ) (s : ScriptState) → 0 < left → looked_steps l left s
    ≡ looked_further (script_steps s 1)
    (end_of_step l (ahead_of l.going l.watches s) (script_steps s 1).stop (script_steps s 1).script) (looked_steps l (left - 1))
next_step l left s some =
    let split : left ≡ suc (left - 1) = omega arith in
    ap (λ (n : ℕ). looked_steps l n s) split ∙ one_more l (left - 1) s

pub no_step : (l : StepLooks) (left : ℕ) (s : ScriptState) → left ≡ 0 → looked_steps l left s ≡ none_taken s
unfolding looked_steps
no_step l left s e = rw e refl

-- the steps end with the next one, or go on after it
step_ends : (l : StepLooks) (left : ℕ) (s : ScriptState) (why : GdbStop) → 0 < left
    → end_of_step l (ahead_of l.going l.watches s) (script_steps s 1).stop (script_steps s 1).script ≡ Some why
    → looked_steps l left s ≡ record (script_steps s 1) { stop = why }
step_ends l left s why some is =
    next_step l left s some ∙ ap (λ (o : Option GdbStop). looked_further (script_steps s 1) o (looked_steps l (left - 1))) is

step_more : (l : StepLooks) (left : ℕ) (s : ScriptState) → 0 < left
    → end_of_step l (ahead_of l.going l.watches s) (script_steps s 1).stop (script_steps s 1).script ≡ None
    → looked_steps l left s ≡ printed_before (script_steps s 1).printed (looked_steps l (left - 1) (script_steps s 1).script)
step_more l left s some is =
    next_step l left s some ∙ ap (λ (o : Option GdbStop). looked_further (script_steps s 1) o (looked_steps l (left - 1))) is

-- what was printed, and what the steps that are left print, is all; and they end as all steps do
pub record AreStepsLeft (l : StepLooks) (first here : GdbState) (before held : List ℕ) (count left : ℕ) : Type 0 where
  pub others : here ≡ with_script first here.debug.script
  pub text : held ++ (looked_steps l left here.debug.script).printed ≡ before ++ (looked_steps l count first.debug.script).printed
  pub script : (looked_steps l left here.debug.script).script ≡ (looked_steps l count first.debug.script).script
  pub stop : (looked_steps l left here.debug.script).stop ≡ (looked_steps l count first.debug.script).stop

pub begins_with_all : (l : StepLooks) (first : GdbState) (before : List ℕ) (count : ℕ)
    → AreStepsLeft l first first before before count count
begins_with_all l first before count = record { others = refl; text = refl; script = refl; stop = refl }

-- what is looked at stays, whatever the steps do
pub same_looks : (first here now : GdbState) (goes : Going) (seen : List SeenByte) → here ≡ with_script first here.debug.script
    → now ≡ with_script here now.debug.script → looks_at now goes seen ≡ looks_at first goes seen
same_looks first here now goes seen others next =
    ap (λ (g : GdbState). looks_at g goes seen) next ∙ ap (λ (g : GdbState). looks_at g goes seen) others

-- the steps that were left are known
ends_with : (l : StepLooks) (first here now : GdbState) (before held after : List ℕ) (count left : ℕ) (end : GdbStop)
    (t : StepsTaken) → AreStepsLeft l first here before held count left → looked_steps l left here.debug.script ≡ t
    → now ≡ with_script here t.script → after ≡ held ++ t.printed → end ≡ t.stop
    → IsAfterLooked first now before after end (looked_steps l count first.debug.script)
ends_with l first here now before held after count left end t i is state text reason = record {
  state = state ∙ ap (λ (g : GdbState). with_script g t.script) i.others
      ∙ ap (with_script first) (sym (ap (λ (u : StepsTaken). u.script) is) ∙ i.script);
  text = text ∙ ap (λ (x : List ℕ). held ++ x) (sym (ap (λ (u : StepsTaken). u.printed) is)) ∙ i.text;
  reason = reason ∙ sym (ap (λ (u : StepsTaken). u.stop) is) ∙ i.stop;
}

-- a step, as the session takes it
one_step : (s now : ScriptState) (held after : List ℕ) (taken : ℕ) (end : Stop)
    → IsAfterRun s (min 1 s.left) now (Some held) (Some after) taken end
    → (now ≡ (script_steps s 1).script) × (after ≡ held ++ (script_steps s 1).printed) × (reason.Ran end ≡ (script_steps s 1).stop)
one_step s now held after taken end ran = (ran.state, ran.text, ap (λ (e : Stop). reason.Ran e) ran.stop)

-- what was looked at after it
looked_there : (l : StepLooks) (s now : ScriptState) (end : Stop) (o : Option GdbStop) → now ≡ (script_steps s 1).script
    → reason.Ran end ≡ (script_steps s 1).stop → end_of_step l (ahead_of l.going l.watches s) (reason.Ran end) now ≡ o
    → end_of_step l (ahead_of l.going l.watches s) (script_steps s 1).stop (script_steps s 1).script ≡ o
looked_there l s now end o script why is =
    ap (λ (x : ScriptState). end_of_step l (ahead_of l.going l.watches s) (script_steps s 1).stop x) (sym script)
    ∙ ap (λ (e : GdbStop). end_of_step l (ahead_of l.going l.watches s) e now) (sym why) ∙ is

-- the steps end with it
pub ends_there : (l : StepLooks) (first here now : GdbState) (before held after : List ℕ) (count left taken : ℕ) (end : Stop)
    (why : GdbStop) → AreStepsLeft l first here before held count left → 0 < left → now ≡ with_script here now.debug.script
    → IsAfterRun here.debug.script (min 1 here.debug.script.left) now.debug.script (Some held) (Some after) taken end
    → end_of_step l (ahead_of l.going l.watches here.debug.script) (reason.Ran end) now.debug.script ≡ Some why
    → IsAfterLooked first now before after why (looked_steps l count first.debug.script)
ends_there l first here now before held after count left taken end why i some others ran is =
    let step = one_step here.debug.script now.debug.script held after taken end ran in
    let there = looked_there l here.debug.script now.debug.script end (Some why) step.0 step.2 is in
    ends_with l first here now before held after count left why (record (script_steps here.debug.script 1) { stop = why }) i
    (step_ends l left here.debug.script why some there) (others ∙ ap (with_script here) step.0) step.1 refl

-- they go on
pub goes_further : (l : StepLooks) (first here now : GdbState) (before held after : List ℕ) (count left taken : ℕ) (end : Stop)
    → AreStepsLeft l first here before held count left → 0 < left → now ≡ with_script here now.debug.script
    → IsAfterRun here.debug.script (min 1 here.debug.script.left) now.debug.script (Some held) (Some after) taken end
    → end_of_step l (ahead_of l.going l.watches here.debug.script) (reason.Ran end) now.debug.script ≡ None
    → AreStepsLeft l first now before after count (left - 1)
goes_further l first here now before held after count left taken end i some others ran is =
    let step = one_step here.debug.script now.debug.script held after taken end ran in
    let there = looked_there l here.debug.script now.debug.script end None step.0 step.2 is in
    let more = step_more l left here.debug.script some there
    ∙ ap (λ (s : ScriptState). printed_before (script_steps here.debug.script 1).printed (looked_steps l (left - 1) s)) (sym step.0) in
    record {
      others = others ∙ ap (λ (g : GdbState). with_script g now.debug.script) i.others;
      text = ap (λ (x : List ℕ). x ++ (looked_steps l (left - 1) now.debug.script).printed) step.1
          ∙ append_assoc held (script_steps here.debug.script 1).printed (looked_steps l (left - 1) now.debug.script).printed
          ∙ ap (λ (x : List ℕ). held ++ x) (sym (ap (λ (u : StepsTaken). u.printed) more)) ∙ i.text;
      script = sym (ap (λ (u : StepsTaken). u.script) more) ∙ i.script;
      stop = sym (ap (λ (u : StepsTaken). u.stop) more) ∙ i.stop;
    }

-- none is left
pub ends_here : (l : StepLooks) (first here : GdbState) (before held : List ℕ) (count left : ℕ)
    → AreStepsLeft l first here before held count left → left ≡ 0
    → IsAfterLooked first here before held (none_taken here.debug.script).stop (looked_steps l count first.debug.script)
ends_here l first here before held count left i none =
    ends_with l first here here before held held count left (none_taken here.debug.script).stop (none_taken here.debug.script) i
    (no_step l left here.debug.script none) refl (sym (append-nil held)) refl

-- what the steps did is kept
pub steps_noted : (g here now : GdbState) (before after : List ℕ) (stop : GdbStop) (taken : StepsTaken) (left : ℕ)
    → IsAfterLooked g here before after stop taken → now ≡ with_noted here left → left ≡ g.debug.script.left
    → IsAfterSteps g now before after stop taken
steps_noted g here now before after stop taken left i noted same = record {
  state = noted ∙ ap (λ (n : ℕ). with_noted here n) same ∙ ap (λ (s : GdbState). with_noted s g.debug.script.left) i.state;
  text = i.text;
  reason = i.reason;
}

-- WHAT IS LOOKED AT

abbrev beyond_change : StepLooks → StepAhead → GdbStop → ScriptState → Option GdbStop
beyond_change l ahead why s = watched_or (struck_after why ahead.struck) (machine_end l why ahead.may_change s)

pub strikes : (l : StepLooks) (ahead : StepAhead) (why : GdbStop) (s : ScriptState) (place : WatchedPlace)
    → first_changed s.machine.store.bytes l.seen ≡ Some place → Some (reason.Watched place) ≡ end_of_step l ahead why s
strikes l ahead why s place is = sym (ap (λ (o : Option WatchedPlace). watched_or o (beyond_change l ahead why s)) is)

pub struck_so : (l : StepLooks) (ahead : StepAhead) (why : GdbStop) (s : ScriptState) (place : WatchedPlace)
    → first_changed s.machine.store.bytes l.seen ≡ None → struck_after why ahead.struck ≡ Some place
    → Some (reason.Watched place) ≡ end_of_step l ahead why s
struck_so l ahead why s place same is =
    sym (ap (λ (o : Option WatchedPlace). watched_or o (beyond_change l ahead why s)) same
    ∙ ap (λ (o : Option WatchedPlace). watched_or o (machine_end l why ahead.may_change s)) is)

pub machine_stands : (l : StepLooks) (ahead : StepAhead) (why : GdbStop) (s : ScriptState)
    → first_changed s.machine.store.bytes l.seen ≡ None → struck_after why ahead.struck ≡ None → steps_further why ≡ false
    → Some why ≡ end_of_step l ahead why s
machine_stands l ahead why s same none ends =
    sym (ap (λ (o : Option WatchedPlace). watched_or o (beyond_change l ahead why s)) same
    ∙ ap (λ (o : Option WatchedPlace). watched_or o (machine_end l why ahead.may_change s)) none ∙ by (steps_further why) ends)
  where
    by : (b : Bool) → b ≡ false
        → (if b then end_beside l.going l.stays l.breaks l.libraries ahead.may_change s else Some why) ≡ Some why
    by b is = rw is refl

pub looks_beside : (l : StepLooks) (ahead : StepAhead) (why : GdbStop) (s : ScriptState)
    → first_changed s.machine.store.bytes l.seen ≡ None → struck_after why ahead.struck ≡ None → steps_further why ≡ true
    → end_beside l.going l.stays l.breaks l.libraries ahead.may_change s ≡ end_of_step l ahead why s
looks_beside l ahead why s same none goes =
    sym (ap (λ (o : Option WatchedPlace). watched_or o (beyond_change l ahead why s)) same
    ∙ ap (λ (o : Option WatchedPlace). watched_or o (machine_end l why ahead.may_change s)) none ∙ by (steps_further why) goes)
  where
    by : (b : Bool) → b ≡ true → (if b then end_beside l.going l.stays l.breaks l.libraries ahead.may_change s else Some why)
        ≡ end_beside l.going l.stays l.breaks l.libraries ahead.may_change s
    by b is = rw is refl

-- why steps end at no break, where the program isn't to stay, within the range of addresses
beside_by : (goes : Going) (stays : Bool) (breaks reported : List ℕ) (may : Bool) (s : ScriptState) (other : Bool)
    → is_among breaks s.machine.cpu.pc ≡ false → stays_here stays s ≡ false → has_left goes s.machine.cpu.pc ≡ false → may ≡ true
    → is_other_list reported s ≡ other
    → (if other then Some reason.Library else None) ≡ end_beside goes stays breaks reported may s
beside_by goes stays breaks reported may s other no_break goes_on within may_change is =
    by (is_among breaks s.machine.cpu.pc) (stays_here stays s) (has_left goes s.machine.cpu.pc) (is_other_list reported s) no_break goes_on within is
  where
    by : (a e b o : Bool) → a ≡ false → e ≡ false → b ≡ false → o ≡ other → (if other then Some reason.Library else None)
        ≡ (if a then Some (reason.Ran (stop.Break s.machine.cpu.pc)) else (if e then Some reason.End else (
        if b then Some reason.Stepped else (if may && o then Some reason.Library else None))))
    by a e b o na ne nb is = rw (na, ne, nb, is, may_change) refl

pub beside_list : (goes : Going) (stays : Bool) (breaks reported : List ℕ) (may : Bool) (s : ScriptState)
    → is_among breaks s.machine.cpu.pc ≡ false → stays_here stays s ≡ false → has_left goes s.machine.cpu.pc ≡ false → may ≡ true
    → is_other_list reported s ≡ true → Some reason.Library ≡ end_beside goes stays breaks reported may s
beside_list goes stays breaks reported may s no_break goes_on within may_change other =
    beside_by goes stays breaks reported may s true no_break goes_on within may_change other

pub beside_nothing : (goes : Going) (stays : Bool) (breaks reported : List ℕ) (may : Bool) (s : ScriptState)
    → is_among breaks s.machine.cpu.pc ≡ false → stays_here stays s ≡ false → has_left goes s.machine.cpu.pc ≡ false → may ≡ true
    → is_other_list reported s ≡ false → None ≡ end_beside goes stays breaks reported may s
beside_nothing goes stays breaks reported may s no_break goes_on within may_change same =
    beside_by goes stays breaks reported may s false no_break goes_on within may_change same

pub beside_end : (goes : Going) (stays : Bool) (breaks reported : List ℕ) (may : Bool) (s : ScriptState)
    → is_among breaks s.machine.cpu.pc ≡ false → stays_here stays s ≡ true → Some reason.End ≡ end_beside goes stays breaks reported may s
beside_end goes stays breaks reported may s no_break is = by (is_among breaks s.machine.cpu.pc) (stays_here stays s) no_break is
  where
    by : (a e : Bool) → a ≡ false → e ≡ true → Some reason.End
        ≡ (if a then Some (reason.Ran (stop.Break s.machine.cpu.pc)) else (if e then Some reason.End else (
        if has_left goes s.machine.cpu.pc then Some reason.Stepped else (if may && is_other_list reported s then Some reason.Library else None))))
    by a e na is = rw (na, is) refl

pub beside_left : (goes : Going) (stays : Bool) (breaks reported : List ℕ) (may : Bool) (s : ScriptState)
    → is_among breaks s.machine.cpu.pc ≡ false → stays_here stays s ≡ false → has_left goes s.machine.cpu.pc ≡ true
    → Some reason.Stepped ≡ end_beside goes stays breaks reported may s
beside_left goes stays breaks reported may s no_break goes_on is =
    by (is_among breaks s.machine.cpu.pc) (stays_here stays s) (has_left goes s.machine.cpu.pc) no_break goes_on is
  where
    by : (a e b : Bool) → a ≡ false → e ≡ false → b ≡ true → Some reason.Stepped
        ≡ (if a then Some (reason.Ran (stop.Break s.machine.cpu.pc)) else (if e then Some reason.End else (
        if b then Some reason.Stepped else (if may && is_other_list reported s then Some reason.Library else None))))
    by a e b na ne is = rw (na, ne, is) refl

pub beside_same : (goes : Going) (stays : Bool) (breaks reported : List ℕ) (may : Bool) (s : ScriptState)
    → is_among breaks s.machine.cpu.pc ≡ false → stays_here stays s ≡ false → has_left goes s.machine.cpu.pc ≡ false → may ≡ false
    → None ≡ end_beside goes stays breaks reported may s
beside_same goes stays breaks reported may s no_break goes_on within is =
    by (is_among breaks s.machine.cpu.pc) (stays_here stays s) (has_left goes s.machine.cpu.pc) may no_break goes_on within is
  where
    by : (a e b m : Bool) → a ≡ false → e ≡ false → b ≡ false → m ≡ false → None
        ≡ (if a then Some (reason.Ran (stop.Break s.machine.cpu.pc)) else (if e then Some reason.End else (
        if b then Some reason.Stepped else (if m && is_other_list reported s then Some reason.Library else None))))
    by a e b m na ne nb is = rw (na, ne, nb, is) refl

-- what is known ahead of a step where steps are left, and where none is
pub known_ahead : (left : ℕ) (place : Option WatchedPlace) → 0 < left → place ≡ (if nat_lt 0 left then place else None)
known_ahead left place some = grind (arith, nat_tests, some)

pub none_ahead : (left : ℕ) (place : Option WatchedPlace) → left ≡ 0 → None ≡ (if nat_lt 0 left then place else None)
none_ahead left place none = rw none refl
