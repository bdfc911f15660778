-- Requests that change what stands, without a step: a register, bytes, breaks and watches, and the end.
use Rattle.std.specs.Prelude.{ℕ, true, ◌==◌, List, codes, Option, Some, None, Result, Ok, Err, if◌then◌else◌}
use Rattle.hex.specs.Hex.{decode_of, decode_sized}
use Rattle.debug_session.specs.Memory.{script_at, script_unhalted, script_with_bank_register, script_with_register, script_with_status}
use Rattle.debug_session.specs.State.{ScriptState}
use Rattle.profile.specs.declared.stop.Stop.TheVariants as stop
use Rattle.debug_session.specs.PastNoted.{past_with_deed}
use Rattle.debug_session.specs.Past.{PastState}
use Rattle.debug_session.specs.PastDeed.TheVariants as deed
use Rattle.arm_core.specs.declared.breaks.breaks.BreakError.{BreakError}
use Rattle.gdb_machine.specs.ChangePackets.{break_refusal, bytes_of_pairs, watch_refusal, write_wanted}
use Rattle.gdb_machine.specs.Watches.{with_watch, without_watch}
use Rattle.gdb_machine.specs.declared.changes.RegisterWrite.{RegisterWrite}
use Rattle.gdb_machine.specs.declared.changes.RegisterWrite.TheVariants as change
use Rattle.gdb_machine.specs.declared.stops.GdbStop.TheVariants as reason
use Rattle.gdb_machine.specs.declared.watches.Watch.{Watch}
use Rattle.gdb_machine.specs.declared.watches.WatchError.{WatchError}
use Rattle.gdb_packets.specs.declared.requests.ByteRange.{ByteRange}
use Rattle.gdb_machine.specs.GdbBreaks.{with_gdb_break, without_gdb_break}
use Rattle.gdb_server.specs.session.State.{GdbState, GdbAnswered, gdb_line, packet_reply, with_past, with_script}
use Rattle.gdb_server.specs.session.Stores.{store_shown}

-- a register; at another place a machine that was halted takes steps again
abbrev pub script_with_change : ScriptState → RegisterWrite → ScriptState
script_with_change s (change.Present n value) = script_with_register s n value
script_with_change s (change.Place address) = script_unhalted (script_at s address)
script_with_change s (change.Status status) = script_with_status s status
script_with_change s (change.Banked mode n value) = script_with_bank_register s mode n value

-- what is kept of it
abbrev pub past_after_write : PastState → RegisterWrite → PastState
past_after_write p (change.Present n value) = past_with_deed p gdb_line (deed.Register n value)
past_after_write p (change.Place address) =
    past_with_deed (past_with_deed p gdb_line (deed.Place address)) gdb_line deed.Woken
past_after_write p (change.Status status) = past_with_deed p gdb_line (deed.Status status)
past_after_write p (change.Banked mode n value) = past_with_deed p gdb_line (deed.Banked mode n value)

abbrev pub with_change : GdbState → RegisterWrite → GdbState
with_change g c = with_past (with_script g (script_with_change g.debug.script c)) (past_after_write g.debug.past c)

abbrev pub register_changed : GdbState → Option RegisterWrite → GdbAnswered
register_changed g (Some c) = packet_reply (with_change g c) (codes "OK")
register_changed g None = packet_reply g (codes "E16")

-- `P n=v`
abbrev pub set_register_shown : GdbState → ℕ → List ℕ → GdbAnswered
set_register_shown g n pairs = register_changed g (write_wanted n (decode_sized pairs 4))

abbrev pub decoded_stored : GdbState → ByteRange → Option (List ℕ) → GdbAnswered
decoded_stored g range (Some bytes) = store_shown g range bytes
decoded_stored g range None = packet_reply g (codes "E16")

-- `M a,n:`
abbrev pub store_pairs_shown : GdbState → ByteRange → List ℕ → GdbAnswered
store_pairs_shown g range pairs = decoded_stored g range (bytes_of_pairs (decode_of pairs))

abbrev pub break_set : GdbState → Result (List ℕ) BreakError → GdbAnswered
break_set g (Ok breaks) = packet_reply (record g { breaks = breaks }) (codes "OK")
break_set g (Err error) = packet_reply g (break_refusal error)

-- `Z0 a,4`: an instruction has four bytes
abbrev pub add_break_shown : GdbState → ByteRange → GdbAnswered
add_break_shown g range =
    if range.count == 4 then break_set g (with_gdb_break g.breaks range.start)
    else packet_reply g (codes "E16")

-- `z0`; one that isn't there is gone
abbrev pub remove_break_shown : GdbState → ByteRange → GdbAnswered
remove_break_shown g range =
    packet_reply (record g { breaks = without_gdb_break g.breaks range.start }) (codes "OK")

abbrev pub watch_set : GdbState → Result (List Watch) WatchError → GdbAnswered
watch_set g (Ok watches) = packet_reply (record g { watches = watches }) (codes "OK")
watch_set g (Err error) = packet_reply g (watch_refusal error)

-- `Z2`, `Z3`, `Z4`, and `z2`, `z3`, `z4`
abbrev pub add_watch_shown : GdbState → Watch → GdbAnswered
add_watch_shown g watch = watch_set g (with_watch g.watches watch)

abbrev pub remove_watch_shown : GdbState → Watch → GdbAnswered
remove_watch_shown g watch = packet_reply (record g { watches = without_watch g.watches watch }) (codes "OK")

-- the program is no more, as after its exit
abbrev pub program_ended : GdbState → GdbState
program_ended g = record g { going = None; stop = reason.Ran stop.Exit }

-- the debugger goes
abbrev pub at_session_end : GdbState → GdbState
at_session_end g = record g { has_ended = true }
