use Rattle.std.proofs.Common.{◌≡◌, ℕ, Bool, false, true, List, ap, subst, sym, ◌∙◌, arith}
use Rattle.std.specs.Prelude.{is_some}
use Rattle.debug_session.proofs.FrontLemmas.{AddsFront-start}
use Rattle.debug_session.proofs.ImageLemmas.{at_err}
use Rattle.std.specs.Io.KnownBytes.{Appends}
use Rattle.profile.specs.Output.{AddsFront, AddsPart}
use Rattle.gdb_server.specs.Server.{IsServed, server_state}
use Rattle.gdb_server.specs.Serving.{Served, ServerState, stop_served, unasked_served}
use Rattle.gdb_server.specs.session.Runs.{stop_asked}
use Rattle.gdb_server.proofs.ServingLemmas.{front_of_part, stands_served}
use Rattle.gdb_server.proofs.server.GdbServer.take_stop.Goals as goal

pub returns-then-not-is_running-clause-reported : goal.returns-then-not-is_running-clause-reported
returns-then-not-is_running-clause-reported g c images =
    let still : c.is_running.result ≡ false = grind arith in
    stands_served (server_state c.args.self.now images) (g.W.Sink.contents c.args.sink.now) (sym (c.is_running.ensures images) ∙ still)

pub returns-in_err-answer_stop-clause-front : goal.returns-in_err-answer_stop-clause-front
returns-in_err-answer_stop-clause-front g c images = at_err _ _ (AddsFront-start _ _)

pub returns-in_err-push_all-clause-front : goal.returns-in_err-push_all-clause-front
returns-in_err-push_all-clause-front g c images =
    let s : ServerState = server_state c.args.self.now images in
    let kept : List ℕ = (unasked_served s (stop_asked s.session)).text in
    let running : c.is_running.result ≡ true = grind arith in
    let runs : is_some s.session.going ≡ true = sym (c.is_running.ensures images) ∙ running in
    let is : c.as_slice.result.now ≡ kept =
    c.as_slice.ensures.value ∙ ap (λ (u : ServerState). u.last) (c.in_ok-answer_stop.ensures.state images) in
    at_err _ _ (subst (λ (b : Bool). AddsFront (g.W.Sink.contents c.args.sink.now) (g.W.Sink.contents c.push_all.new.sink) (stop_served s b).text)
    (sym runs) (front_of_part _ _ kept
    (subst (λ (text : List ℕ). AddsPart (g.W.Sink.contents c.args.sink.now) (g.W.Sink.contents c.push_all.new.sink) text)
    is c.in_err-push_all.ensures.part)))

pub returns-clause-reported : goal.returns-clause-reported
returns-clause-reported g c images =
    let s : ServerState = server_state c.args.self.now images in
    let kept : List ℕ = (unasked_served s (stop_asked s.session)).text in
    let running : c.is_running.result ≡ true = grind arith in
    let runs : is_some s.session.going ≡ true = sym (c.is_running.ensures images) ∙ running in
    let is : c.as_slice.result.now ≡ kept =
    c.as_slice.ensures.value ∙ ap (λ (u : ServerState). u.last) (c.in_ok-answer_stop.ensures.state images) in
    subst (λ (b : Bool). IsServed (g.W.Sink.contents c.args.sink.now) (g.W.Sink.contents c.push_all.new.sink)
    (server_state c.answer_stop.new.self images) (stop_served s b)) (sym runs) (record {
      text = subst (λ (text : List ℕ). Appends (g.W.Sink.contents c.args.sink.now) (g.W.Sink.contents c.push_all.new.sink) text)
          is c.in_ok-push_all.ensures.text;
      state = c.in_ok-answer_stop.ensures.state images;
    })
