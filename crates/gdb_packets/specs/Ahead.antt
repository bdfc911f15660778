-- A `run` that has come whole, up to its sum: the files are read anew before the rest of it comes.
use Rattle.std.specs.Prelude.{Bool, true, false, ◌&&◌}
use Rattle.gdb_packets.specs.Reading.{Reading}
use Rattle.gdb_packets.specs.Requests as request
use Rattle.gdb_packets.specs.Requests.{GdbRequest, packet_request}
use Rattle.gdb_packets.specs.declared.reader.FramePlace.{FramePlace}
use Rattle.gdb_packets.specs.declared.reader.FramePlace.TheVariants as place

abbrev pub is_run_request : GdbRequest → Bool
is_run_request request.RunProgram = true
is_run_request other = false

-- behind the `#`
abbrev pub awaits_sum : FramePlace → Bool
awaits_sum place.FirstDigit = true
awaits_sum place.Between = false
awaits_sum place.Inside = false
awaits_sum place.Escaped = false
awaits_sum (place.LastDigit first) = false

abbrev pub is_run_ahead : Reading → Bool
is_run_ahead r = awaits_sum r.place && is_run_request (packet_request r.packet)
