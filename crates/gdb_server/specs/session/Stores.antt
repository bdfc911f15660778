-- Bytes stored by GDB: as a guest's stores of whole words would, each word with what stands beside the
-- bytes in it. Where one of the words can't be stored to, none is.
use Rattle.std.specs.Prelude.{ℕ, ◌==◌, List, [], ◌∷◌, length, codes, Result, Ok, Err, if◌then◌else◌}
use Rattle.profile.specs.Fault.{Fault}
use Rattle.gdb_machine.specs.ChangePackets.{store_refusal}
use Rattle.debug_session.specs.Past.{PastState}
use Rattle.debug_session.specs.PastDeed.TheVariants as deed
use Rattle.debug_session.specs.PastNoted.{past_with_deed}
use Rattle.debug_session.specs.Put.{script_after_put}
use Rattle.debug_session.specs.State.{ScriptState}
use Rattle.gdb_packets.specs.declared.requests.ByteRange.{ByteRange}
use Rattle.gdb_server.specs.session.State.{GdbState, GdbAnswered, gdb_line, packet_reply, with_past, with_script}

-- What is stored is kept in the past, unless it is no byte.
abbrev pub past_after_store : PastState → ℕ → List ℕ → PastState
past_after_store p address [] = p
past_after_store p address (byte ∷ bytes) = past_with_deed p gdb_line (deed.Bytes address (byte ∷ bytes))

abbrev pub with_bytes_noted : GdbState → ℕ → List ℕ → GdbState
with_bytes_noted g address bytes = with_past g (past_after_store g.debug.past address bytes)

abbrev pub bytes_stored : GdbState → ℕ → List ℕ → Result ScriptState Fault → GdbAnswered
bytes_stored g address bytes (Ok s) = packet_reply (with_bytes_noted (with_script g s) address bytes) (codes "OK")
bytes_stored g address bytes (Err f) = packet_reply g (store_refusal f)

-- as many bytes as were announced; none asks whether bytes can be sent as they are
abbrev pub store_shown : GdbState → ByteRange → List ℕ → GdbAnswered
store_shown g range bytes = if length bytes == range.count
    then bytes_stored g range.start bytes (script_after_put g.debug.script range.start bytes)
    else packet_reply g (codes "E16")
