-- The lines CALL and LOAD: a store call or the loading of a module, made from outside, and then the
-- steps of the module code that it enters, until that code has come back.
use Rattle.std.specs.Prelude.{ℕ, zero, suc, false, ◌-◌, ◌==◌, List, length, Option, Some, None, if◌then◌else◌}
use Rattle.profile.specs.images.Entries.{Entry}
use Rattle.profile.specs.declared.stop.Stop.{Stop}
use Rattle.profile.specs.declared.stop.Stop.TheVariants as stop
use Rattle.debugger.specs.Halt.{Halt}
use Rattle.debugger.specs.Errors.{error_number}
use Rattle.debugger.specs.MachineState.{MachineState, StepOutcome, stop_of}
use Rattle.debugger.specs.Run.{count_after, is_among}
use Rattle.debugger.specs.Step.{machine_step, module_loaded, store_called}
use Rattle.command_shell.specs.Answers.{ok_text, call_error_text, stop_text}
use Rattle.command_shell.specs.Memory.{script_with_last}
use Rattle.command_shell.specs.State.{ScriptState, Answered, answer, then_answered}
use Rattle.command_shell.specs.declared.calls.CallEnd.{CallEnd}
use Rattle.command_shell.specs.declared.calls.CallEnd.TheVariants as end
use Rattle.command_shell.specs.declared.calls.OutsideCall.{OutsideCall}
use Rattle.command_shell.specs.declared.calls.OutsideCall.TheVariants as outside

-- Why no step can be taken, by what halts the machine and what is left of the budget.
abbrev pub stop_before_step_by : Option Halt → ℕ → Option Stop
stop_before_step_by (Some halt) left = Some (stop_of halt)
stop_before_step_by None left = if left == 0 then Some stop.Budget else None

abbrev pub stop_before_step : ScriptState → Option Stop
stop_before_step s = stop_before_step_by s.machine.halt s.left

-- what a call says that came back: V says whether it was refused, and R0 points to the error then
abbrev pub call_text : MachineState → List ℕ
call_text s = if s.cpu.psr.overflow then call_error_text (error_number s) else ok_text

-- a stop line, which is the last one then
abbrev pub stop_answer : ScriptState → Stop → Answered
stop_answer s stop = answer (script_with_last s stop) (stop_text stop s.machine.cpu.pc)

-- Why a call goes no further after a step, if so many frames were open before it. It is tested in
-- this order: the machine is halted; the call has come back; the program counter is among the
-- breaks; the budget is used up.
abbrev pub call_end_by : ScriptState → ℕ → Option Halt → Option CallEnd
call_end_by s frames (Some halt) = Some (end.Stopped (stop_of halt))
call_end_by s frames None =
    if length s.machine.tables.frames == frames then Some end.Returned else (
    if is_among s.breaks s.machine.cpu.pc then Some (end.Stopped (stop.Break s.machine.cpu.pc)) else (
    if s.left == 0 then Some (end.Stopped stop.Budget) else
    None))

unfoldable pub call_end : ScriptState → ℕ → Option CallEnd
call_end s frames = call_end_by s frames s.machine.halt

abbrev pub end_answer : ScriptState → CallEnd → Answered
end_answer s end.Returned = answer s (call_text s.machine)
end_answer s (end.Stopped stop) = stop_answer s stop

-- the state after a step, which counts unless it ended in a fault
abbrev pub step_made : ScriptState → StepOutcome → ScriptState
step_made s a = record s { machine = a.now; is_fresh = false; left = s.left - count_after a.now.halt }

-- a step, what it prints, and then what follows
abbrev pub step_then : ScriptState → StepOutcome → (ScriptState → Answered) → Answered
step_then s a next = then_answered (answer (step_made s a) a.printed) next

abbrev pub finished_by : ScriptState → Option CallEnd → Answered → Answered
finished_by s (Some e) more = end_answer s e
finished_by s None more = more

-- The rest of a call after a step of it, with so many steps left.
unfoldable pub answer_after_steps : ℕ → ℕ → ScriptState → Answered
answer_after_steps frames zero s = finished_by s (call_end s frames) (stop_answer s stop.Budget)
answer_after_steps frames (suc n) s =
    finished_by s (call_end s frames) (step_then s (machine_step s.images s.machine)
    (answer_after_steps frames n))

-- a call whose first step leaves this
abbrev pub call_done : ScriptState → StepOutcome → Answered
call_done s a = step_then s a (λ after. answer_after_steps (length s.machine.tables.frames) after.left after)

abbrev pub call_unless : ScriptState → StepOutcome → Option Stop → Answered
call_unless s a (Some stop) = stop_answer s stop
call_unless s a None = call_done s a

-- a call whose first step leaves this, unless no step can be taken
unfoldable pub call_made : ScriptState → StepOutcome → Answered
call_made s a = call_unless s a (stop_before_step s)

-- CALL makes a store call; LOAD loads a module.
abbrev pub outside_call_answer : ScriptState → ℕ → Answered
outside_call_answer s number = call_made s (store_called s.images s.machine number)

abbrev pub load_answer : ScriptState → List ℕ → Answered
load_answer s text = call_made s (module_loaded s.images s.machine text)

abbrev pub outside_called : List Entry → MachineState → OutsideCall → StepOutcome
outside_called images s (outside.Swi number) = store_called images s number
outside_called images s (outside.Load text) = module_loaded images s text.now

-- the first step of either
abbrev pub first_step : ScriptState → OutsideCall → StepOutcome
first_step s call = outside_called s.images s.machine call
