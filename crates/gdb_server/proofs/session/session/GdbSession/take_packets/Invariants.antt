use Rattle.std.proofs.Common.{◌≡◌, drop, map}
use Rattle.gdb_server.specs.session.Programs.{after_packets}
use Rattle.gdb_server.specs.session.Session.{gdb_state}
use Rattle.gdb_server.proofs.session.session.GdbSession.take_packets.Given as goal

-- What the packets that are left make of the session is what all make of it.
abbrev pub invariant-loop-packet : goal.invariant-loop-packet
invariant-loop-packet l = after_packets (map (λ p. p.items) (drop l.packet-index l.packets)) (gdb_state l.self l.images)
    ≡ after_packets (map (λ p. p.items) l.packets) (gdb_state l.fn.self l.fn.images)
