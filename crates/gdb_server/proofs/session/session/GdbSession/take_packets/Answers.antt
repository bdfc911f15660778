use Rattle.std.proofs.Common.{◌≤◌, length, ap, ◌∙◌, arith}
use Rattle.gdb_packets.specs.Requests.{packet_request}
use Rattle.gdb_server.proofs.SessionLemmas.ProgramLemmas.{packets_end, packets_on}
use Rattle.gdb_server.proofs.session.session.GdbSession.take_packets.Goals as goal

pub loop-packet-preserved : goal.loop-packet-preserved
loop-packet-preserved c =
    packets_on _ _ _ _ _ _ _ _ c.loop-packet-test.true c.packet-item.is (c.request_of.ensures ∙ ap packet_request c.as_slice.ensures.value)
    c.in_ok-answer.ensures.reported.state c.loop-packet.invariant

pub returns-clause-reported : goal.returns-clause-reported
returns-clause-reported c =
    let all : length c.args.packets.now ≤ c.loop-packet.packet-index = omega (arith, c.loop-packet-test.false) in
    packets_end _ _ _ _ _ all c.loop-packet.invariant
