use Rattle.std.proofs.Common.{◌≡◌, ℕ, Bool, List, ap, ◌∙◌}
use Rattle.gdb_machine.specs.Loads.{after_packet}
use Rattle.gdb_packets.specs.Fixed.{meant_in}
use Rattle.gdb_packets.specs.Requests.{GdbRequest, gdb_request, packet_request}
use Rattle.gdb_server.specs.Server.{server_state}
use Rattle.gdb_server.specs.Serving.{ServerState, acks_after, loads_now, request_now}
use Rattle.gdb_server.specs.session.Session.{gdb_state}
use Rattle.gdb_server.proofs.ServingLemmas.{acks_gone, acks_kept, packet_kept}
use Rattle.gdb_server.proofs.server.GdbServer.answer_packet.Goals as goal
use Rattle.gdb_server.proofs.server.GdbServer.answer_packet.Goals.{then-self, else-self}

pub returns-clause-state : goal.returns-clause-state
returns-clause-state c =
    let s : ServerState = server_state c.args.self.now c.args.images.now in
    let asked : GdbRequest = gdb_request c.request_in-request.result in
    let of_packet : asked ≡ request_now s =
    c.request_in-request.ensures ∙ ap (λ (packet : List ℕ). meant_in s.is_extended (packet_request packet)) c.packet.ensures in
    let acks : c.if-self.self ≡ acks_after s.has_acks asked = elim c.if-self.branch [
      | then-self w ↦ acks_kept _ _ _ w.if-self.true (w.self-is ∙ w.keeps_acks-self.ensures)
      | else-self w ↦ acks_gone _ _ _ w.if-self.false (w.self-is ∙ w.if-self.false)
    ] in
    packet_kept s _ _ _ _ _ c.in_ok-answer.answer asked _ of_packet
    (c.in_ok-note.ensures
    ∙ ap (λ (packet : List ℕ). after_packet s.loads packet c.pc.result) c.packet-2.ensures
    ∙ ap (λ (pc : ℕ). after_packet s.loads s.reading.packet pc) (c.pc.ensures c.args.images.now))
    c.kept.ensures acks c.extends-self.ensures c.in_ok-answer.ensures.reported c.in_ok-self.ensures.written
