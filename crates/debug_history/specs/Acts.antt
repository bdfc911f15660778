-- What is done to a machine: steps, calls, and changes from outside.
use Rattle.std.specs.Prelude.{ℕ, zero, Bool, true, false, ◌&&◌, ◌+◌, ◌-◌, ◌==◌, length, nat_lt, List, [], ◌∷◌, Option, Some, None, Result, Ok, Err, if◌then◌else◌}
use Rattle.profile.specs.images.Entries.{Entry, bytes_of_image}
use Rattle.command_shell_lines.specs.declared.debug_words.stubs.Stub.{Stub}
use Rattle.profile.specs.Sizes.{Sizes}
use Rattle.profile.specs.Fault.{Fault}
use Rattle.debug_labels.specs.Boot.{machine_after_boot}
use Rattle.debug_labels.specs.BootError.{BootError}
use Rattle.debug_tables.specs.MachineState.{MachineState, machine_start}
use Rattle.debug_tables.specs.Step.{machine_step, module_loaded, store_called}
use Rattle.debug_labels.specs.Writes.{machine_after_poke, machine_at, machine_unhalted, machine_with_bank_register, machine_with_register, machine_with_status}
use Rattle.debug_tables.specs.State.{ScriptState}
use Rattle.debug_lines.specs.SteppingRequests.{SteppingRequest, Run, stepping_request_of}
use Rattle.debug_lines.specs.SteppingRequests as asked
use Rattle.debug_lines.specs.declared.stepping.SteppingCommand.{SteppingCommand}
use Rattle.debug_tables.specs.Stubs.{machine_with_bytes}
use Rattle.debug_tables.specs.byte_writes.Put.{put_fault}
use Rattle.debug_history.specs.Steps.{steps_after}
use Rattle.debug_history.specs.declared.act.Act.{Act}
use Rattle.debug_history.specs.declared.act.PastDeed.{PastDeed}
use Rattle.debug_history.specs.declared.act.PastDeed.TheVariants.{Steps, FaultingStep, Boot, Call, Load, Register, Word, Banked, Place, Routine, Status, Woken, Bytes, Anew}

-- a machine, and whether it still stands as it was made
pub record PastMoment : Type 0 where
  pub machine : MachineState
  pub is_fresh : Bool

abbrev pub moment_of_script : ScriptState → PastMoment
moment_of_script s = record { machine = s.machine; is_fresh = s.is_fresh }

-- a machine as it is made
abbrev pub fresh_moment : Sizes → PastMoment
fresh_moment sizes = record { machine = machine_start sizes; is_fresh = true }

abbrev pub changed_moment : MachineState → PastMoment
changed_moment machine = record { machine = machine; is_fresh = false }

abbrev pub moment_after_steps : List Stub → List Entry → ℕ → PastMoment → PastMoment
moment_after_steps stubs images count m = record {
  machine = steps_after stubs images count m.machine;
  is_fresh = m.is_fresh && (count == 0);
}

-- a word that can't be stored changes nothing
abbrev pub moment_after_word : PastMoment → Result MachineState Fault → PastMoment
moment_after_word m (Ok machine) = changed_moment machine
moment_after_word m (Err fault) = m

-- nor does a program that can't be booted, or that isn't there
abbrev pub moment_after_program : PastMoment → Result MachineState BootError → PastMoment
moment_after_program m (Ok machine) = changed_moment machine
moment_after_program m (Err error) = m

abbrev pub moment_after_boot : Sizes → PastMoment → Option (List ℕ) → PastMoment
moment_after_boot sizes m (Some program) =
    moment_after_program m (machine_after_boot sizes m.is_fresh m.machine program)
moment_after_boot sizes m None = m

-- nor do bytes that can't be written, or none
abbrev pub moment_unless_fault : PastMoment → Option Fault → MachineState → PastMoment
moment_unless_fault m None machine = changed_moment machine
moment_unless_fault m (Some fault) machine = m

abbrev pub moment_after_put : PastMoment → ℕ → List ℕ → PastMoment
moment_after_put m at [] = m
moment_after_put m at (byte ∷ bytes) =
    moment_unless_fault m (put_fault m.machine.store at (length (byte ∷ bytes)))
    (machine_with_bytes m.machine at (byte ∷ bytes))

-- one deed; a step that ends in a fault isn't counted
abbrev pub moment_after_deed : List Entry → Sizes → PastDeed → PastMoment → PastMoment
moment_after_deed images sizes (Steps stubs count) m = moment_after_steps stubs images count m
moment_after_deed images sizes FaultingStep m = changed_moment (machine_step images m.machine).now
moment_after_deed images sizes (Boot name) m = moment_after_boot sizes m (bytes_of_image images name)
moment_after_deed images sizes (Call number is_counted) m =
    changed_moment (store_called images m.machine number).now
moment_after_deed images sizes (Load text is_counted) m =
    changed_moment (module_loaded images m.machine text).now
moment_after_deed images sizes (Register number value) m =
    changed_moment (machine_with_register m.machine number value)
moment_after_deed images sizes (Word address value) m =
    moment_after_word m (machine_after_poke m.machine address value)
moment_after_deed images sizes (Banked mode number value) m =
    changed_moment (machine_with_bank_register m.machine mode number value)
moment_after_deed images sizes (Place address) m = changed_moment (machine_at m.machine address)
moment_after_deed images sizes (Routine address link) m =
    changed_moment (machine_at (machine_with_register m.machine 14 link) address)
moment_after_deed images sizes (Status status) m = changed_moment (machine_with_status m.machine status)
moment_after_deed images sizes Woken m = changed_moment (machine_unhalted m.machine)
moment_after_deed images sizes (Bytes address bytes) m = moment_after_put m address bytes
moment_after_deed images sizes Anew m = fresh_moment sizes

-- one act after another
unfoldable pub moment_after_acts : List Entry → Sizes → List Act → PastMoment → PastMoment
moment_after_acts images sizes [] m = m
moment_after_acts images sizes (act ∷ rest) m =
    moment_after_acts images sizes rest (moment_after_deed images sizes act.deed m)

-- whether it makes the machine anew
abbrev pub is_anew : PastDeed → Bool
is_anew Anew = true
is_anew _ = false

-- how many steps a deed counts
abbrev pub count_if : Bool → ℕ
count_if is_counted = if is_counted then 1 else 0

abbrev pub steps_of_deed : PastDeed → ℕ
steps_of_deed (Steps stubs count) = count
steps_of_deed (Call number is_counted) = count_if is_counted
steps_of_deed (Load text is_counted) = count_if is_counted
steps_of_deed _ = 0

-- how many steps were counted in all
unfoldable pub steps_of_acts : List Act → ℕ
steps_of_acts [] = 0
steps_of_acts (act ∷ rest) = steps_of_deed act.deed + steps_of_acts rest

-- the stubs with which the steps of a deed are taken
abbrev pub stubs_of_deed : PastDeed → List Stub
stubs_of_deed (Steps stubs count) = stubs
stubs_of_deed _ = []

-- so many steps, by a line, with stubs
abbrev pub steps_act : ℕ → List Stub → ℕ → Act
steps_act line stubs count = record { line = line; deed = Steps stubs count }

-- the line that takes the steps of a deed behind so many, and how many those are; a step that isn't counted
-- comes behind none
abbrev pub steps_behind : ℕ → PastDeed → Option (SteppingRequest × ℕ)
steps_behind skipped (Steps stubs count) = if nat_lt skipped count then Some (Run, count - skipped) else None
steps_behind zero FaultingStep = Some (Run, 1)
steps_behind zero (Call number is_counted) = Some (asked.Call number, 1)
steps_behind zero (Load text is_counted) = Some (asked.Load text, 1)
steps_behind skipped deed = None

abbrev pub taken_steps : (SteppingCommand × ℕ) → SteppingRequest × ℕ
taken_steps taken = (stepping_request_of taken.0, taken.1)
