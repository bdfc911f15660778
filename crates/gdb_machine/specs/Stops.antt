-- Why the program stands, and how GDB is told: by a signal of GDB's own numbers, by what reached it, and
-- by the registers that GDB asks for first; or that the program has exited, or was ended by a signal.
use Rattle.std.specs.Prelude.{ℕ, ◌++◌, Bool, true, false, List, [], ◌∷◌, Option, Some, None, codes, unwrap_or}
use Rattle.std.specs.Int.{to_be_bytes, w32}
use Rattle.hex.specs.Hex.{encode_lower}
use Rattle.profile.specs.Fault.{Fault}
use Rattle.profile.specs.Fault.TheVariants as fault
use Rattle.profile.specs.declared.stop.Stop.TheVariants as stop
use Rattle.arm_core.specs.State.{State}
use Rattle.gdb_machine.specs.declared.stops.GdbStop.{GdbStop}
use Rattle.gdb_machine.specs.declared.stops.GdbStop.TheVariants as reason
use Rattle.gdb_machine.specs.declared.stops.Signal.{Signal}
use Rattle.gdb_machine.specs.declared.watches.WatchKind.{WatchKind}
use Rattle.gdb_machine.specs.declared.watches.WatchKind.TheVariants as kind
use Rattle.gdb_machine.specs.declared.watches.WatchedPlace.{WatchedPlace}
use Rattle.gdb_machine.specs.declared.stops.Signal.TheVariants as signal
use Rattle.gdb_machine.specs.Registers.{register_shown, word_digits}

abbrev pub signal_number : Signal → ℕ
signal_number signal.Interrupt = 2
signal_number signal.Illegal = 4
signal_number signal.Trap = 5
signal_number signal.Abort = 6
signal_number signal.Bus = 10
signal_number signal.Segment = 11
signal_number signal.System = 12
signal_number signal.Steps = 24

abbrev pub signal_of_fault : Fault → Signal
signal_of_fault fault.FetchUnmapped = signal.Segment
signal_of_fault fault.DataUnmapped = signal.Segment
signal_of_fault fault.AddressException = signal.Bus
signal_of_fault fault.OwnedWord = signal.Bus
signal_of_fault fault.StackChanged = signal.Abort
signal_of_fault (fault.ErrorStop number) = signal.System
signal_of_fault fault.UndefinedInstruction = signal.Illegal
signal_of_fault fault.Unallocated = signal.Illegal
signal_of_fault fault.PcOperand = signal.Illegal
signal_of_fault fault.MultiplySame = signal.Illegal
signal_of_fault fault.EmptyList = signal.Illegal
signal_of_fault fault.UserBankWriteback = signal.Illegal

-- the number of the signal of a fault
abbrev pub signal_number_of : Fault → ℕ
signal_number_of f = signal_number (signal_of_fault f)

-- none where the program is no more
abbrev pub signal_of : GdbStop → Option Signal
signal_of reason.Stepped = Some signal.Trap
signal_of (reason.Watched place) = Some signal.Trap
signal_of reason.Library = Some signal.Trap
signal_of reason.Asked = Some signal.Interrupt
signal_of (reason.Ran (stop.Break address)) = Some signal.Trap
signal_of (reason.Ran stop.Budget) = Some signal.Steps
signal_of (reason.Ran (stop.Fault f)) = Some (signal_of_fault f)
signal_of (reason.Ran stop.Exit) = None
signal_of (reason.Killed f) = None
signal_of (reason.WatchedBack place) = Some signal.Trap
signal_of reason.Begin = Some signal.Trap
signal_of reason.End = Some signal.Trap

abbrev pub watch_word : WatchKind → List ℕ
watch_word kind.Store = codes "watch:"
watch_word kind.Load = codes "rwatch:"
watch_word kind.Access = codes "awatch:"

abbrev pub watch_reached : WatchedPlace → List ℕ
watch_reached place = watch_word place.kind ++ encode_lower (to_be_bytes w32 place.address) ++ codes ";"

-- what reached it: a break, a watch that was struck, by its kind and the address, the beginning of what is known
-- of its past, or its end ("replaylog" in GDB's manual); or that GDB has to ask for the list of libraries
abbrev pub reached_text : GdbStop → List ℕ
reached_text (reason.Ran (stop.Break address)) = codes "swbreak:;"
reached_text (reason.Watched place) = watch_reached place
reached_text (reason.WatchedBack place) = watch_reached place
reached_text reason.Begin = codes "replaylog:begin;"
reached_text reason.End = codes "replaylog:end;"
reached_text reason.Library = codes "library:;"
reached_text (reason.Ran stop.Budget) = []
reached_text (reason.Ran (stop.Fault f)) = []
reached_text (reason.Ran stop.Exit) = []
reached_text reason.Stepped = []
reached_text reason.Asked = []
reached_text (reason.Killed f) = []

abbrev pub shown_value : State → ℕ → List ℕ
shown_value s n = word_digits (unwrap_or (register_shown s n) 0)

-- R11, R13, R14, the program counter and the status
abbrev pub first_registers_text : State → List ℕ
first_registers_text s =
    codes "0b:" ++ shown_value s 11 ++ codes ";0d:" ++ shown_value s 13 ++ codes ";0e:" ++ shown_value s 14
    ++ codes ";0f:" ++ shown_value s 15 ++ codes ";10:" ++ shown_value s 16 ++ codes ";"

-- the program has exited, or was ended by the signal of its fault
abbrev pub gone_text : GdbStop → List ℕ
gone_text (reason.Killed f) = codes "X" ++ encode_lower (signal_number_of f ∷ [])
gone_text (reason.Ran x) = codes "W00"
gone_text reason.Stepped = codes "W00"
gone_text reason.Asked = codes "W00"
gone_text (reason.Watched place) = codes "W00"
gone_text reason.Library = codes "W00"
gone_text (reason.WatchedBack place) = codes "W00"
gone_text reason.Begin = codes "W00"
gone_text reason.End = codes "W00"

abbrev pub signalled_text : Option Signal → GdbStop → State → List ℕ
signalled_text None why s = gone_text why
signalled_text (Some signal) why s =
    codes "T" ++ encode_lower (signal_number signal ∷ []) ++ reached_text why ++ first_registers_text s

-- whether the program is no more
abbrev pub is_gone : GdbStop → Bool
is_gone (reason.Killed f) = true
is_gone (reason.Ran stop.Exit) = true
is_gone (reason.Ran stop.Budget) = false
is_gone (reason.Ran (stop.Break address)) = false
is_gone (reason.Ran (stop.Fault f)) = false
is_gone reason.Stepped = false
is_gone reason.Asked = false
is_gone (reason.Watched place) = false
is_gone reason.Library = false
is_gone (reason.WatchedBack place) = false
is_gone reason.Begin = false
is_gone reason.End = false

-- `T05swbreak:;0b:..`, `T0b0b:..`, `W00`, `X0b`
unfoldable pub stop_packet : State → GdbStop → List ℕ
stop_packet s why = signalled_text (signal_of why) why s
