-- How a step ended: whether there may be another, why the program stands then, and what it struck; and what is
-- shown of a machine that a fault has halted.
use Rattle.std.specs.Prelude.{ℕ, ◌/◌, ◌%◌, ◌==◌, ◌||◌, Bool, true, false, List, ◌++◌, codes, Option, Some, None, Result, Ok, Err, if◌then◌else◌}
use Rattle.profile.specs.Digits.{hex_number}
use Rattle.profile.specs.FaultNames.{fault_name}
use Rattle.profile.specs.Fault.{Fault}
use Rattle.profile.specs.declared.stop.Stop.{Stop}
use Rattle.profile.specs.declared.stop.Stop.TheVariants as stop
use Rattle.profile.specs.MemoryMap.{return_gate}
use Rattle.address_map.specs.Bytes.{Bytes, word_loaded}
use Rattle.arm_core.specs.State.{State}
use Rattle.trace_effects.specs.Cause.{cause_of, swi_of_cause}
use Rattle.gdb_packets.specs.declared.going.Going.{Going}
use Rattle.gdb_packets.specs.declared.going.Going.TheVariants as going
use Rattle.gdb_machine.specs.Stops.{signal_number_of}
use Rattle.gdb_machine.specs.declared.stops.GdbStop.{GdbStop}
use Rattle.gdb_machine.specs.declared.stops.GdbStop.TheVariants as reason
use Rattle.gdb_machine.specs.declared.watches.WatchedPlace.{WatchedPlace}

-- whether a step was taken after which there may be another
abbrev pub steps_further : GdbStop → Bool
steps_further (reason.Ran stop.Budget) = true
steps_further (reason.Ran stop.Exit) = false
steps_further (reason.Ran (stop.Break address)) = false
steps_further (reason.Ran (stop.Fault f)) = false
steps_further reason.Stepped = false
steps_further reason.Asked = false
steps_further (reason.Watched place) = false
steps_further reason.Library = false
steps_further (reason.Killed f) = false
steps_further (reason.WatchedBack place) = false
steps_further reason.Begin = false
steps_further reason.End = false

-- a step that was taken is no end of a run
abbrev pub stop_after_step : GdbStop → GdbStop
stop_after_step why = if steps_further why then reason.Stepped else why

-- why the machine itself stood after its last step
abbrev pub last_stop : Option Stop → GdbStop
last_stop None = reason.Stepped
last_stop (Some x) = stop_after_step (reason.Ran x)

-- what a step that ended so struck: one that met a fault has loaded and stored nothing
abbrev pub struck_after : GdbStop → Option WatchedPlace → Option WatchedPlace
struck_after (reason.Ran (stop.Fault f)) struck = None
struck_after why struck = struck

-- whether GDB was told of other modules
abbrev pub was_library : GdbStop → Bool
was_library reason.Library = true
was_library reason.Stepped = false
was_library reason.Asked = false
was_library (reason.Watched place) = false
was_library (reason.Ran x) = false
was_library (reason.Killed f) = false
was_library (reason.WatchedBack place) = false
was_library reason.Begin = false
was_library reason.End = false

-- A software interrupt is an instruction with bits 27 to 24 set.
abbrev pub is_interrupt : Result ℕ Fault → Bool
is_interrupt (Ok word) = word / 0x1000000 % 16 == 15
is_interrupt (Err fault) = false

-- Whether the next step may change which modules are there: where it begins at one, or where module code goes
-- back. Only where a run is to go on GDB wants to know of it at once.
abbrev pub may_change_list : Going → State → Bytes → Bool
may_change_list going.Once s b = false
may_change_list (going.Within places) s b = false
may_change_list going.On s b = s.pc == return_gate || is_interrupt (word_loaded b s.pc)

-- OS_Exit has the number &11, and with the X bit &20011 ("OS_Exit" in the RISC OS 3 Programmer's Reference Manual).
abbrev pub is_exit_number : Option ℕ → Bool
is_exit_number None = false
is_exit_number (Some number) = number == 0x11 || number == 0x20011

-- whether the instruction at the program counter calls it
abbrev pub is_exit_ahead : State → Bytes → Bool
is_exit_ahead s b = is_exit_number (swi_of_cause (cause_of s b))

-- where a fault has halted the machine, and what wakes it
abbrev pub halted_line : List ℕ → List ℕ → List ℕ
halted_line digits name = codes "rosm: halted at &" ++ (digits ++ (codes " by " ++ (name
    ++ codes "; BACK, RESET, load or another pc wakes it\n")))

abbrev pub halted_text : Fault → ℕ → List ℕ
halted_text f address = halted_line (hex_number address) (fault_name f)

abbrev pub is_own_signal : Option ℕ → Fault → Bool
is_own_signal None f = false
is_own_signal (Some signal) f = signal == signal_number_of f
