-- What is kept of a line that takes steps in modes is what it did.
use Rattle.std.proofs.Common.{◌≡◌, ◌<◌, ◌≤◌, ℕ, zero, suc, ◌-◌, ◌+◌, ◌==◌, ◌&&◌, Bool, true, false, List, Option, Some, None, length, refl, sym, ◌∙◌, ap, subst, arith, if◌then◌else◌}
use Rattle.std.specs.Prelude.{is_some, min, nat_le, nat_lt, not, ◌||◌}
use Rattle.std.proofs.lemmas.Bool.Decides.{nat_tests}
use Rattle.arm_core.specs.Psr.{psr_bits}
use Rattle.profile.specs.Fault.TheVariants as fault
use Rattle.profile.specs.declared.stop.Stop.{Stop}
use Rattle.profile.specs.declared.stop.Stop.TheVariants as stop
use Rattle.command_shell_lines.specs.declared.debug_words.stubs.Stub.{Stub}
use Rattle.debug_modules.specs.Labels.{ImageLabels}
use Rattle.debug_tables.specs.Halt.{Halt}
use Rattle.debug_tables.specs.MachineState.{StepOutcome}
use Rattle.debug_tables.specs.Step.{module_loaded, store_called}
use Rattle.debug_tables.specs.Calls.{step_made, stop_before_step_by}
use Rattle.debug_tables.specs.Memory.{script_with_bank_register, script_with_last}
use Rattle.debug_tables.specs.Writes.{machine_with_register}
use Rattle.debug_tables.proofs.CallLemmas.{can_step}
use Rattle.debug_lines.specs.SteppingRequests as stepping
use Rattle.debug_tables.specs.State.{ScriptState}
use Rattle.debug_tables.specs.Routines.{caller_in, routine_end, script_at_routine, script_back}
use Rattle.debug_modules.specs.Endings.{line_end_answer}
use Rattle.debug_modules.specs.Lines.{SteppingAnswer, answer_unless, finish_answer, stepping_answer}
use Rattle.debug_modules.specs.Runs.{SteppingRun, call_run, end_after, steps_run}
use Rattle.debug_modules.specs.TraceWriter.{answer_of_step, one_answer}
use Rattle.debug_modules.specs.EndKind.TheVariants as kind
use Rattle.debug_modules.specs.RunEnd.{RunEnd}
use Rattle.debug_modules.specs.RunEnd.TheVariants as end
use Rattle.debug_modules.specs.RunGoal.{RunGoal}
use Rattle.debug_modules.specs.RunGoal.TheVariants as goal
use Rattle.debug_modules.proofs.TracedLemmas.{last_is_run}
use Rattle.debug_modules.specs.DebugHistoryLaws.{IsPastOf}
use Rattle.debug_modules.specs.Noted.{is_faulted, is_idle, past_after_stepping, past_at_routine, past_with_call, past_with_deed, past_with_gosub, past_with_return, past_with_stubbed, has_returned, steps_before}
use Rattle.debug_modules.specs.Past.{PastState}
use Rattle.debug_modules.specs.PastDeed.{PastDeed}
use Rattle.debug_modules.specs.PastDeed.TheVariants as deed
use Rattle.debug_modules.specs.SteppingNote.{SteppingNote}
use Rattle.debug_modules.proofs.CallNotedLemmas.{IsCallOf, done_by, none_taken, refused_by}
use Rattle.debug_modules.proofs.LineNotedLemmas.{is_call, is_load, most_left}
use Rattle.debug_modules.proofs.NotedLemmas.{deed_noted}
use Rattle.debug_modules.specs.DebugModes.{DebugModes}
use Rattle.debug_session.specs.History.{IsUnhaltedWhereFresh}
use Rattle.debug_modules.specs.Taking.{note_of}
use Rattle.debug_session.proofs.RunPastLemmas.{IsNoted, busy, enough_after, halted_end, left_by, run_called, run_noted, steps_are_run, steps_like_calls, steps_some, stopped_noted, unless_called, unless_noted}

abbrev pub note_on : ScriptState → ScriptState → List ℕ → SteppingNote
note_on s now ending = note_of (steps_before s.machine) (s.left - now.left) now.machine ending

-- what is kept of a line is what it did
abbrev pub IsKeptBy : DebugModes → ScriptState → PastState → ℕ → stepping.SteppingRequest → ScriptState → List ℕ → Type 0
IsKeptBy d s p line r now ending = IsPastOf now (past_after_stepping p line d.steps.stubs (note_on s now ending) r)

some_taken : (left now : ℕ) → now < left → 0 < left - now
some_taken left now less = omega (arith, less)

-- a line that could take a step isn't idle
busy_on : (s now : ScriptState) (ending : List ℕ) (most : ℕ) → stop_before_step_by s.machine.halt most ≡ None
    → (is_faulted now.machine.halt ≡ false → now.left < s.left) → is_idle (note_on s now ending) ≡ false
busy_on s now ending most can some =
    busy s.machine.halt most (s.left - now.left) (is_faulted now.machine.halt) can (λ no. some_taken s.left now.left (some no))

-- STEPS ALONE

like_some : (could_all : Bool) (left : ℕ) (now : ScriptState) (e : RunEnd)
    → (let f = (line_end_answer kind.Call now e).state in is_faulted f.machine.halt ≡ false → f.left < left)
    → (let f = (line_end_answer (kind.Steps could_all) now e).state in is_faulted f.machine.halt ≡ false → f.left < left)
like_some could_all left now end.Reached is = is
like_some could_all left now (end.Watched hit) is = is
like_some could_all left now (end.Stopped x) is = is

steps_kept_by : (d : DebugModes) (labels : List ImageLabels) (g : RunGoal) (most : ℕ) (o : Option ℕ) (s : ScriptState) (could_all : Bool)
    (p : PastState) (line : ℕ) (x : Option Stop) → stop_before_step_by s.machine.halt most ≡ x → most ≤ s.left
    → IsUnhaltedWhereFresh s → IsPastOf s p
    → IsNoted d.steps.stubs s (answer_unless o s (kind.Steps could_all) (steps_run d.steps labels g most o s) x).now p line
steps_kept_by d labels g most o s could_all p line x is enough up was =
    let r : SteppingRun = steps_run d.steps labels g most o s in
    unless_noted d.steps.stubs o s (kind.Steps could_all) r x p line up was
    (λ none. steps_like_calls d.steps.stubs could_all s r.now r.ended (steps_are_run d.steps labels g most o s enough (is ∙ none)))

finish_kept : (d : DebugModes) (labels : List ImageLabels) (o : Option ℕ) (s : ScriptState) (p : PastState) (line frames : ℕ)
    → IsUnhaltedWhereFresh s → IsPastOf s p → IsNoted d.steps.stubs s (finish_answer d.steps labels o s frames).now p line
finish_kept d labels o s p line zero up was = stopped_noted d.steps.stubs s p line s.last up was
finish_kept d labels o s p line (suc outer) up was =
    let enough : s.left ≤ s.left = omega arith in
    unless_noted d.steps.stubs o s kind.Call (steps_run d.steps labels (goal.Frames outer) s.left o s)
    (stop_before_step_by s.machine.halt s.left) p line up was
    (λ none. steps_are_run d.steps labels (goal.Frames outer) s.left o s enough none)

-- CALLS FROM OUTSIDE

outside_kept : (d : DebugModes) (labels : List ImageLabels) (g : RunGoal) (o : Option ℕ) (s : ScriptState) (text : List ℕ)
    (a : StepOutcome) (call : Bool → PastDeed) (p : PastState) (line : ℕ) (x : Option Stop) → stop_before_step_by s.machine.halt s.left ≡ x
    → IsUnhaltedWhereFresh s → IsPastOf s p → IsCallOf s a call
    → (let t = answer_unless o s kind.Call (call_run d.steps labels g s.left o s text a) x in
    IsPastOf t.now (past_with_call p line (call (nat_lt 0 (s.left - t.now.left))) d.steps.stubs (s.left - t.now.left)
    (is_faulted t.now.machine.halt)))
outside_kept d labels g o s text a call p line (Some x) is up was made =
    subst (λ (n : ℕ). IsPastOf (script_with_last s x)
    (past_with_call p line (call (nat_lt 0 n)) d.steps.stubs n (is_faulted s.machine.halt)))
    (none_taken s.left) (refused_by d.steps.stubs s p line a call x (is_faulted s.machine.halt) refl up was made)
outside_kept d labels g o s text a call p line None is up was made =
    let after : ScriptState = step_made s a in
    let rest : SteppingRun = steps_run d.steps labels g (s.left - 1) (one_answer o) after in
    let shown : List ℕ = answer_of_step o text a.printed in
    let t : SteppingAnswer = answer_unless o s kind.Call (call_run d.steps labels g s.left o s text a) None in
    let some : 0 < s.left = can_step s.machine.halt s.left is in
    let all : suc (s.left - 1) ≤ s.left = omega (arith, some) in
    done_by d.steps.stubs s t.now p line a call a.now.halt refl some was made
    (unless_called d.steps.stubs after (end_after d.steps.watches g s after) rest shown a.printed
    (λ e. run_called d.steps labels g (s.left - 1) (one_answer o) after refl (enough_after d.steps.watches g s a (s.left - 1) all e)))
    (λ h halted. halted_end d.steps.watches g s after rest shown a.printed h halted)

-- ROUTINES

idle_stopped : (o : Option Halt) (left : ℕ) (x : Stop) → stop_before_step_by o left ≡ Some x
    → (is_some o || (((left - left) == 0) && not (is_faulted o))) ≡ true
idle_stopped (Some h) left x is = refl
idle_stopped None left x is = grind (arith, nat_tests)

if_so : (s : ScriptState) (b : Bool) (p q : PastState) → b ≡ true → IsPastOf s p → IsPastOf s (if b then p else q)
if_so s true p q is kept = kept
if_so s false p q is kept = absurd (cc)

if_not : (s : ScriptState) (b : Bool) (p q : PastState) → b ≡ false → IsPastOf s q → IsPastOf s (if b then p else q)
if_not s false p q is kept = kept
if_not s true p q is kept = absurd (cc)

routine_some : (s now : ScriptState) (e : RunEnd) (left : ℕ)
    → (let f = (line_end_answer kind.Call now e).state in is_faulted f.machine.halt ≡ false → f.left < left)
    → (let f = (line_end_answer (kind.Routine (caller_in s)) now e).state in is_faulted f.machine.halt ≡ false → f.left < left)
routine_some s now end.Reached left is = is
routine_some s now (end.Watched hit) left is = is
routine_some s now (end.Stopped x) left is = is

abbrev returned_past : ScriptState → PastState → ℕ → List ℕ → PastState
returned_past s q line ending = if has_returned ending then past_with_return q line (steps_before s.machine) else q

stop_kept : (s now : ScriptState) (q : PastState) (line : ℕ) (x : Stop) → IsPastOf (script_with_last now x) q
    → IsPastOf (line_end_answer (kind.Routine (caller_in s)) now (end.Stopped x)).state
    (returned_past s q line (line_end_answer (kind.Routine (caller_in s)) now (end.Stopped x)).text)
stop_kept s now q line stop.Exit kept = kept
stop_kept s now q line stop.Budget kept = kept
stop_kept s now q line (stop.Break a) kept = kept
stop_kept s now q line (stop.Fault fault.FetchUnmapped) kept = kept
stop_kept s now q line (stop.Fault fault.UndefinedInstruction) kept = kept
stop_kept s now q line (stop.Fault fault.Unallocated) kept = kept
stop_kept s now q line (stop.Fault fault.PcOperand) kept = kept
stop_kept s now q line (stop.Fault fault.MultiplySame) kept = kept
stop_kept s now q line (stop.Fault fault.EmptyList) kept = kept
stop_kept s now q line (stop.Fault fault.UserBankWriteback) kept = kept
stop_kept s now q line (stop.Fault fault.AddressException) kept = kept
stop_kept s now q line (stop.Fault fault.DataUnmapped) kept = kept
stop_kept s now q line (stop.Fault fault.OwnedWord) kept = kept
stop_kept s now q line (stop.Fault fault.StackChanged) kept = kept
stop_kept s now q line (stop.Fault (fault.ErrorStop number)) kept = kept

routine_end_kept : (s now : ScriptState) (q : PastState) (line : ℕ) (e : RunEnd) → IsPastOf (line_end_answer kind.Call now e).state q
    → IsPastOf (line_end_answer (kind.Routine (caller_in s)) now e).state
    (returned_past s q line (line_end_answer (kind.Routine (caller_in s)) now e).text)
routine_end_kept s now q line end.Reached kept =
    let caller = caller_in s in
    let mid : ScriptState = script_with_bank_register now caller.mode 14 caller.link in
    deed_noted mid (script_back caller now) (past_with_deed q line (deed.Banked caller.mode 14 caller.link)) line (deed.Place caller.at) refl refl
    (deed_noted now mid q line (deed.Banked caller.mode 14 caller.link) refl refl kept refl) refl
routine_end_kept s now q line (end.Watched hit) kept = kept
routine_end_kept s now q line (end.Stopped x) kept = stop_kept s now q line x kept

-- how many steps a routine took, and whether it ended in a fault
same_count : (stubs : List Stub) (s now : ScriptState) (p : PastState) (line left : ℕ) (e : RunEnd)
    → (let f = (line_end_answer kind.Call now e).state in let t = (line_end_answer (kind.Routine (caller_in s)) now e).state in
    past_with_stubbed p line stubs (left - f.left) (is_faulted f.machine.halt)
    ≡ past_with_stubbed p line stubs (left - t.left) (is_faulted t.machine.halt))
same_count stubs s now p line left end.Reached = refl
same_count stubs s now p line left (end.Watched hit) = refl
same_count stubs s now p line left (end.Stopped x) = refl

routine_called : (s : ScriptState) (p : PastState) (line address : ℕ) → IsPastOf s p
    → IsPastOf (script_at_routine s address) (past_at_routine p line address (steps_before s.machine))
routine_called s p line address was =
    deed_noted s (script_at_routine s address) p line (deed.Routine address (psr_bits s.machine.cpu.psr + routine_end)) refl refl was refl

-- a routine that is called finds the machine halted as it was
routine_halt : (s : ScriptState) (address : ℕ) → (script_at_routine s address).machine.halt ≡ s.machine.halt
unfolding machine_with_register
routine_halt s address = refl

gosub_kept_by : (d : DebugModes) (labels : List ImageLabels) (g : RunGoal) (o : Option ℕ) (s : ScriptState) (address : ℕ)
    (p : PastState) (line : ℕ) (x : Option Stop) → stop_before_step_by s.machine.halt s.left ≡ x
    → IsUnhaltedWhereFresh s → IsPastOf s p
    → (let t = answer_unless o s (kind.Routine (caller_in s)) (steps_run d.steps labels g s.left o (script_at_routine s address)) x in
    IsKeptBy d s p line (stepping.Gosub address) t.now t.ending)
gosub_kept_by d labels g o s address p line (Some x) is up was =
    let now : ScriptState = script_with_last s x in
    let stubs = d.steps.stubs in
    let r : SteppingRun = steps_run d.steps labels g s.left o (script_at_routine s address) in
    let t : SteppingAnswer = answer_unless o s (kind.Routine (caller_in s)) r (Some x) in
    let n : SteppingNote = note_on s t.now t.ending in
    if_so now (is_idle n) (past_with_stubbed p line stubs n.taken n.has_faulted) (past_with_gosub p line address stubs n)
    (idle_stopped s.machine.halt s.left x is) (stopped_noted stubs s p line (Some x) up was)
gosub_kept_by d labels g o s address p line None is up was =
    let caller = caller_in s in
    let stubs = d.steps.stubs in
    let first : ScriptState = script_at_routine s address in
    let r : SteppingRun = steps_run d.steps labels g s.left o first in
    let t : SteppingAnswer = answer_unless o s (kind.Routine caller) r None in
    let enough : s.left ≤ s.left = omega arith in
    let can : stop_before_step_by first.machine.halt s.left ≡ None =
    ap (λ (h : Option Halt). stop_before_step_by h s.left) (routine_halt s address) ∙ is in
    let none = busy_on s t.now t.ending s.left is (routine_some s r.now r.ended s.left (steps_some d.steps labels g s.left o first enough can)) in
    let at : PastState = past_at_routine p line address (steps_before s.machine) in
    let ran = run_noted stubs first (left_by r) at line (routine_called s p line address was)
    (steps_are_run d.steps labels g s.left o first enough can) in
    let n : SteppingNote = note_on s t.now t.ending in
    if_not t.now (is_idle n) (past_with_stubbed p line stubs n.taken n.has_faulted) (past_with_gosub p line address stubs n) none
    (subst (λ (q : PastState). IsPastOf t.now (returned_past s q line t.ending)) (same_count stubs s r.now at line s.left r.ended)
    (routine_end_kept s r.now (past_with_stubbed at line stubs (s.left - (left_by r).left) (is_faulted (left_by r).machine.halt)) line r.ended ran))

-- EACH LINE

run_kept : (d : DebugModes) (labels : List ImageLabels) (o : Option ℕ) (s : ScriptState) (p : PastState) (line : ℕ) → IsUnhaltedWhereFresh s
    → IsPastOf s p → (let t = stepping_answer d.steps labels o s stepping.Run in IsKeptBy d s p line stepping.Run t.now t.ending)
unfolding stepping_answer
run_kept d labels o s p line up was =
    steps_kept_by d labels goal.Nowhere s.left o s false p line (stop_before_step_by s.machine.halt s.left) refl (omega arith) up was

pub steps_kept : (d : DebugModes) (labels : List ImageLabels) (o : Option ℕ) (s : ScriptState) (p : PastState) (line : ℕ)
    (r : stepping.SteppingRequest) → IsUnhaltedWhereFresh s → IsPastOf s p
    → (let t = stepping_answer d.steps labels o s r in IsKeptBy d s p line r t.now t.ending)
unfolding stepping_answer
steps_kept d labels o s p line stepping.Run up was = run_kept d labels o s p line up was
steps_kept d labels o s p line (stepping.Step count) up was =
    let most : ℕ = min count s.left in
    steps_kept_by d labels goal.Nowhere most o s (nat_le count s.left) p line (stop_before_step_by s.machine.halt most) refl
    (most_left count s.left) up was
steps_kept d labels o s p line (stepping.Call number) up was =
    outside_kept d labels (goal.Frames (length s.machine.tables.frames)) o s
    _
    (store_called s.images s.machine number) (deed.Call number) p line (stop_before_step_by s.machine.halt s.left) refl up was (is_call s number)
steps_kept d labels o s p line (stepping.Load text) up was =
    outside_kept d labels (goal.Frames (length s.machine.tables.frames)) o s
    _
    (module_loaded s.images s.machine text) (deed.Load text) p line (stop_before_step_by s.machine.halt s.left) refl up was (is_load s text)
steps_kept d labels o s p line stepping.Finish up was = finish_kept d labels o s p line (length s.machine.tables.frames) up was
steps_kept d labels o s p line (stepping.Gosub address) up was =
    gosub_kept_by d labels (goal.Routine (length s.machine.tables.frames)) o s address p line (stop_before_step_by s.machine.halt s.left) refl up was
steps_kept d labels o s p line (stepping.RunLast count) up was =
    let same = last_is_run d.steps labels o count s in
    subst (λ (ending : List ℕ). IsKeptBy d s p line (stepping.RunLast count) (stepping_answer d.steps labels o s (stepping.RunLast count)).now ending)
    (sym same.ending)
    (subst (λ (now : ScriptState). IsKeptBy d s p line (stepping.RunLast count) now (stepping_answer d.steps labels None s stepping.Run).ending)
    (sym same.now) (run_kept d labels None s p line up was))
