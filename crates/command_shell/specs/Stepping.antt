-- The lines that take steps, RUN and STEP, and those that set the breaks at which steps stop: BREAK
-- and UNBREAK.
use Rattle.std.specs.Prelude.{◌≡◌, ℕ, ◌-◌, ◌==◌, ◌&&◌, nat_le, min, List, ◌++◌, codes, Option, Some, None, Result, Ok, Err}
use Rattle.std.specs.Io.KnownBytes.{Appends}
use Rattle.profile.specs.Outcome.{bind}
use Rattle.profile.specs.declared.stop.Stop.{Stop}
use Rattle.debugger.specs.BreakError.{BreakError}
use Rattle.debugger.specs.BreakError.TheVariants as break
use Rattle.debugger.specs.Breaks.{with_break, without_break}
use Rattle.debugger.specs.MachineState.{MachineState}
use Rattle.debugger.specs.GuestState.{AreCoreSteps}
use Rattle.debugger.specs.Run as machine
use Rattle.command_shell.specs.Answers.{break_text, unbreak_text, refused_text, stop_text, stepped_text}
use Rattle.command_shell.specs.State.{ScriptState, Answered, answer}

-- a run of so many steps at most
abbrev pub script_run : ScriptState → ℕ → machine.Run
script_run s most = machine.ran s.images s.breaks most s.machine

-- the state after such a run: its stop is the last one
abbrev pub script_after_run : ScriptState → ℕ → machine.Run → ScriptState
script_after_run s most r = record s {
  machine = r.now;
  is_fresh = s.is_fresh && (most == 0);
  left = s.left - r.taken;
  last = Some r.stop;
}

-- What a run of so many steps at most leaves: the state, what the guest printed, written, how many
-- steps count and why they ended.
pub record IsAfterRun (s : ScriptState) (most : ℕ) (now : ScriptState) (before after : Option (List ℕ))
    (taken : ℕ)
    (end : Stop) : Type 0 where
  pub state : now ≡ script_after_run s most (script_run s most)
  pub text : Appends before after (script_run s most).printed
  pub count : taken ≡ (script_run s most).taken
  pub stop : end ≡ (script_run s most).stop

-- the state after so many steps that print nothing and don't halt the machine; the last stop stays
abbrev pub script_after_silent : ScriptState → MachineState → ℕ → ScriptState
script_after_silent s now taken =
    record s { machine = now; is_fresh = s.is_fresh && (taken == 0); left = s.left - taken }

-- Steps that print nothing left this, of which each is an instruction that the core does by itself.
pub record IsAfterSilentSteps (s now : ScriptState) (taken : ℕ) (end : Stop) : Type 0 where
  pub run : script_run s taken ≡ machine.silent_run now.machine taken end
  pub steps : AreCoreSteps taken s.machine now.machine
  pub state : now ≡ script_after_silent s now.machine taken
  pub unhalted : now.machine.halt ≡ None

-- RUN: all that is left of the budget may be used. What the guest prints comes first, then the stop
-- line.
abbrev pub run_done : ScriptState → machine.Run → Answered
run_done s r = answer (script_after_run s s.left r) (r.printed ++ stop_text r.stop r.now.cpu.pc)

abbrev pub run_answer : ScriptState → Answered
run_answer s = run_done s (script_run s s.left)

-- STEP takes so many steps, or as many as are left.
abbrev pub step_done : ScriptState → ℕ → machine.Run → Answered
step_done s count r =
    answer (script_after_run s (min count s.left) r)
    (r.printed ++ stepped_text (nat_le count s.left) r.stop r.now.cpu.pc)

abbrev pub step_answer : ScriptState → ℕ → Answered
step_answer s count = step_done s count (script_run s (min count s.left))

-- one break more, or one less, or why they stay as they are
abbrev pub script_with_break : ScriptState → ℕ → Result ScriptState BreakError
script_with_break s address = bind (with_break s.breaks address) (λ breaks. Ok (record s { breaks = breaks }))

abbrev pub script_without_break : ScriptState → ℕ → Result ScriptState BreakError
script_without_break s address =
    bind (without_break s.breaks address) (λ breaks. Ok (record s { breaks = breaks }))

-- BREAK and UNBREAK: what the breaks are then, or why they stay as they are.
abbrev pub break_refusal_name : BreakError → List ℕ
break_refusal_name break.Unaligned = codes "Unaligned"
break_refusal_name break.BreakTableFull = codes "BreakTableFull"
break_refusal_name break.NoBreak = codes "NoBreak"

abbrev pub breaks_changed : ScriptState → List ℕ → Result (List ℕ) BreakError → Answered
breaks_changed s text (Ok breaks) = answer (record s { breaks = breaks }) text
breaks_changed s text (Err error) = answer s (refused_text (break_refusal_name error))

abbrev pub break_answer : ScriptState → ℕ → Answered
break_answer s address = breaks_changed s (break_text address) (with_break s.breaks address)

abbrev pub unbreak_answer : ScriptState → ℕ → Answered
unbreak_answer s address = breaks_changed s (unbreak_text address) (without_break s.breaks address)
