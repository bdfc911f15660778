-- A `run`: the program begins anew, with what GDB's `load` sent last.
use Rattle.std.specs.Prelude.{ℕ, Bool, true, false, List, [], ◌∷◌, codes, if◌then◌else◌}
use Rattle.gdb_packets.specs.Ahead.{is_run_request}
use Rattle.gdb_packets.specs.Requests as request
use Rattle.gdb_packets.specs.Requests.{GdbRequest, packet_request}
use Rattle.gdb_server.specs.session.Requests.{gdb_answered}
use Rattle.gdb_server.specs.session.State.{GdbState, GdbAnswered, packet_reply}

-- the state after some packets, one after another
unfoldable pub after_packets : List (List ℕ) → GdbState → GdbState
after_packets [] g = g
after_packets (packet ∷ more) g = after_packets more (gdb_answered g (packet_request packet)).state

-- the packets of the load come once more, and then why the program stands is shown
abbrev pub run_answered : List (List ℕ) → GdbState → GdbAnswered
run_answered load g = gdb_answered (after_packets load (gdb_answered g request.RunProgram).state) request.Reason

-- where a file can't be read a `run` is an error
abbrev pub program_run_unless : Bool → List (List ℕ) → GdbState → GdbAnswered
program_run_unless true load g = packet_reply g (codes "E02")
program_run_unless false load g = run_answered load g

abbrev pub request_answered : Bool → List (List ℕ) → GdbState → GdbRequest → GdbAnswered
request_answered lacks load g asked =
    if is_run_request asked then program_run_unless lacks load g else gdb_answered g asked
