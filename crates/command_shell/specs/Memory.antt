-- What changes the machine from outside: the lines SET and POKE, and what a debugger may change
-- beside them.
use Rattle.std.specs.Prelude.{ℕ, false, [], Some, Result, Ok, Err}
use Rattle.profile.specs.FaultNames.{fault_name}
use Rattle.profile.specs.Outcome.{bind}
use Rattle.profile.specs.Sizes.{Sizes}
use Rattle.profile.specs.Fault.{Fault}
use Rattle.profile.specs.declared.stop.Stop.{Stop}
use Rattle.debugger.specs.MachineState.{MachineState}
use Rattle.debugger.specs.Writes.{machine_after_poke, machine_at, machine_unhalted, machine_with_bank_register, machine_with_register, machine_with_status}
use Rattle.debugger.specs.Mode.{Mode}
use Rattle.debugger.specs.Psr.{Psr}
use Rattle.command_shell.specs.Answers.{refused_text}
use Rattle.command_shell.specs.State.{ScriptState, Answered, answer, script_start_state}

-- a machine that was changed is fresh no more
abbrev pub script_with_machine : ScriptState → MachineState → ScriptState
script_with_machine s machine = record s { machine = machine; is_fresh = false }

-- another value of one of R0 to R14 of the present mode, or of a mode that is named
abbrev pub script_with_register : ScriptState → ℕ → ℕ → ScriptState
script_with_register s number value =
    script_with_machine s (machine_with_register s.machine number value)

abbrev pub script_with_bank_register : ScriptState → Mode → ℕ → ℕ → ScriptState
script_with_bank_register s mode number value =
    script_with_machine s (machine_with_bank_register s.machine mode number value)

-- another word at an address, as a guest's store would have it, or the fault of that store
abbrev pub script_after_poke : ScriptState → ℕ → ℕ → Result ScriptState Fault
script_after_poke s address value =
    bind (machine_after_poke s.machine address value) (λ machine. Ok (script_with_machine s machine))

-- SET changes a register of the present mode.
abbrev pub set_answer : ScriptState → ℕ → ℕ → Answered
set_answer s register value = answer (script_with_register s register value) []

-- POKE stores a word as a guest's store would.
abbrev pub poke_done : ScriptState → Result MachineState Fault → Answered
poke_done s (Ok machine) = answer (script_with_machine s machine) []
poke_done s (Err fault) = answer s (refused_text (fault_name fault))

abbrev pub poke_answer : ScriptState → ℕ → ℕ → Answered
poke_answer s address value = poke_done s (machine_after_poke s.machine address value)

-- another program counter
abbrev pub script_at : ScriptState → ℕ → ScriptState
script_at s address = script_with_machine s (machine_at s.machine address)

-- a machine that can take steps again, whatever has halted it
abbrev pub script_unhalted : ScriptState → ScriptState
script_unhalted s = script_with_machine s (machine_unhalted s.machine)

-- another status
abbrev pub script_with_status : ScriptState → Psr → ScriptState
script_with_status s status = script_with_machine s (machine_with_status s.machine status)

-- another budget for the lines that follow
abbrev pub script_with_budget : ScriptState → ℕ → ScriptState
script_with_budget s budget = record s { left = budget }

-- another last stop
abbrev pub script_with_last : ScriptState → Stop → ScriptState
script_with_last s stop = record s { last = Some stop }

-- A fresh machine, with the whole budget; images and breaks stay.
abbrev pub script_started_anew : ScriptState → Sizes → ℕ → ScriptState
script_started_anew s sizes budget =
    record (script_start_state sizes s.images budget) { breaks = s.breaks }
