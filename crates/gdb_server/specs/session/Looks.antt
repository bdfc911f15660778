-- The requests that only look, and the packet that each is answered with. Those of other requests are
-- none.
use Rattle.std.specs.Prelude.{ℕ, List, Option, Some}
use Rattle.gdb_packets.specs.Fixed.{fixed_reply, threads_text}
use Rattle.gdb_packets.specs.Requests as request
use Rattle.gdb_packets.specs.Requests.{GdbRequest}
use Rattle.gdb_machine.specs.Description.{description_text}
use Rattle.gdb_machine.specs.Libraries.{libraries_part}
use Rattle.gdb_machine.specs.Memory.{memory_reply}
use Rattle.gdb_machine.specs.Registers.{all_registers_text, register_reply}
use Rattle.gdb_machine.specs.Stops.{is_gone, stop_packet}
use Rattle.gdb_server.specs.session.State.{GdbState}

-- `?`, `g`, `p`, `m`, the description, the list of libraries and that of threads
abbrev pub look_reply : GdbState → GdbRequest → Option (List ℕ)
look_reply g request.Reason = Some (stop_packet g.debug.script.machine.cpu g.stop)
look_reply g request.Registers = Some (all_registers_text g.debug.script.machine.cpu)
look_reply g (request.Register n) = Some (register_reply g.debug.script.machine.cpu n)
look_reply g (request.Memory range) = Some (memory_reply g.debug.script.machine.store.bytes range)
look_reply g (request.Description range) = Some (description_text range)
look_reply g (request.Libraries range) = Some (libraries_part g.debug.script.machine.tables.modules range)
look_reply g request.FirstThreads = Some (threads_text (is_gone g.stop))
look_reply g other = fixed_reply other
