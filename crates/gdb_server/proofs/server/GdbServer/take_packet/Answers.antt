use Rattle.std.proofs.Common.{◌≡◌, ℕ, List, ap, subst, ◌∙◌}
use Rattle.debug_session.proofs.FrontLemmas.{AddsFront-start}
use Rattle.debug_session.proofs.ImageLemmas.{at_err}
use Rattle.std.specs.Io.KnownBytes.{Appends}
use Rattle.profile.specs.Output.{AddsPart}
use Rattle.profile.proofs.OutputLemmas.{Appends-join}
use Rattle.gdb_server.specs.Server.{server_state}
use Rattle.gdb_server.specs.Serving.{ServerState, packet_served}
use Rattle.gdb_server.proofs.ServingLemmas.{front_after, front_of_more, front_of_part}
use Rattle.gdb_server.proofs.server.GdbServer.take_packet.Goals as goal

pub returns-in_err-acknowledge-clause-front : goal.returns-in_err-acknowledge-clause-front
returns-in_err-acknowledge-clause-front g c = at_err _ _ (front_of_more _ _ _ _ c.in_err-acknowledge.ensures.front)

pub returns-in_err-answer_packet-clause-front : goal.returns-in_err-answer_packet-clause-front
returns-in_err-answer_packet-clause-front g c =
    at_err _ _ (front_after _ _ _ _ _ c.in_ok-acknowledge.ensures.text (AddsFront-start _ _))

pub returns-in_err-push_all-clause-front : goal.returns-in_err-push_all-clause-front
returns-in_err-push_all-clause-front g c =
    let s : ServerState = server_state c.args.self.now c.args.images.now in
    let kept : List ℕ = (packet_served s).state.last in
    let is : c.as_slice.result.now ≡ kept =
    c.as_slice.ensures.value ∙ ap (λ (u : ServerState). u.last) c.in_ok-answer_packet.ensures.state in
    at_err _ _ (front_after _ _ _ _ kept c.in_ok-acknowledge.ensures.text
    (front_of_part _ _ kept (subst (λ (text : List ℕ). AddsPart (g.W.Sink.contents c.acknowledge.new.sink) (g.W.Sink.contents c.push_all.new.sink) text)
    is c.in_err-push_all.ensures.part)))

pub returns-clause-reported : goal.returns-clause-reported
returns-clause-reported g c =
    let s : ServerState = server_state c.args.self.now c.args.images.now in
    let kept : List ℕ = (packet_served s).state.last in
    let is : c.as_slice.result.now ≡ kept =
    c.as_slice.ensures.value ∙ ap (λ (u : ServerState). u.last) c.in_ok-answer_packet.ensures.state in
    record {
      text = Appends-join (g.W.Sink.contents c.args.sink.now) (g.W.Sink.contents c.acknowledge.new.sink) (g.W.Sink.contents c.push_all.new.sink)
          _ kept c.in_ok-acknowledge.ensures.text
          (subst (λ (text : List ℕ). Appends (g.W.Sink.contents c.acknowledge.new.sink) (g.W.Sink.contents c.push_all.new.sink) text)
          is c.in_ok-push_all.ensures.text);
      state = c.in_ok-answer_packet.ensures.state;
    }
