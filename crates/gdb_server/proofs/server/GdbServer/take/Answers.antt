use Rattle.std.proofs.Common.{◌≡◌, ℕ, ◌+◌, false, true, List, ◌++◌, get_or, drop, ap, sym, ◌∙◌, arith}
use Rattle.std.proofs.lemmas.List.{drop_all}
use Rattle.debug_session.proofs.ImageLemmas.{at_err}
use Rattle.profile.proofs.OutputLemmas.{AddsAllBut-more}
use Rattle.gdb_server.specs.Server.{server_state}
use Rattle.gdb_server.specs.Serving.{ServerState, Served, byte_served, bytes_served}
use Rattle.debug_session.proofs.FailLemmas.{front_then}
use Rattle.gdb_server.proofs.ServingLemmas.{ends_served, served_ended, served_more, served_none}
use Rattle.gdb_server.proofs.server.GdbServer.take.Goals as goal

pub returns-then-has_ended-clause-reported : goal.returns-then-has_ended-clause-reported
returns-then-has_ended-clause-reported g c =
    let bytes = c.args.bytes.now in
    let s : ServerState = server_state c.loop-byte.self c.loop-byte.images in
    let ended : s.session.has_ended ≡ true = sym (c.has_ended.ensures c.loop-byte.images) ∙ c.if-has_ended.true in
    ends_served (drop c.loop-byte.byte-index bytes) s (g.W.Sink.contents c.args.sink.now)
    (g.W.Sink.contents c.loop-byte.sink) (bytes_served bytes (server_state c.args.self.now c.args.images.now))
    c.loop-byte.invariant.text c.loop-byte.invariant.state (served_ended (drop c.loop-byte.byte-index bytes) s ended)

pub loop-byte-preserved : goal.loop-byte-preserved
loop-byte-preserved g c =
    let bytes : List ℕ = c.args.bytes.now in
    let i = c.loop-byte.invariant in
    let index : ℕ = c.loop-byte.byte-index in
    let s : ServerState = server_state c.loop-byte.self c.loop-byte.images in
    let now : ServerState = server_state c.take_byte.new.self c.take_byte.new.images in
    let byte : ℕ = get_or bytes index 0 in
    let goes : s.session.has_ended ≡ false = sym (c.has_ended.ensures c.loop-byte.images) ∙ c.if-has_ended.false in
    let before = g.W.Sink.contents c.loop-byte.sink in
    let after = g.W.Sink.contents c.take_byte.new.sink in
    let reported = c.in_ok-take_byte.ensures.reported in
    let more = served_more bytes index s c.loop-byte-test.true goes in
    let first : Served = byte_served s byte in
    let rest = drop (index + 1) bytes in
    record {
      text = AddsAllBut-more (g.W.Sink.contents c.args.sink.now) before after (bytes_served (drop index bytes) s).text
          first.text (bytes_served rest now).text
          (bytes_served bytes (server_state c.args.self.now c.args.images.now)).text i.text reported.text
          (ap (λ (x : Served). x.text) more
          ∙ ap (λ (u : ServerState). first.text ++ (bytes_served rest u).text) (sym reported.state));
      state = ap (λ (u : ServerState). (bytes_served rest u).state) reported.state
          ∙ sym (ap (λ (x : Served). x.state) more) ∙ i.state;
      same_flag = c.in_ok-take_byte.ensures.same_flag ∙ i.same_flag;
    }

pub returns-clause-reported : goal.returns-clause-reported
returns-clause-reported g c =
    let bytes = c.args.bytes.now in
    let s : ServerState = server_state c.loop-byte.self c.loop-byte.images in
    let none = drop_all c.loop-byte.byte-index bytes (omega (arith, c.loop-byte-test.false)) in
    ends_served (drop c.loop-byte.byte-index bytes) s (g.W.Sink.contents c.args.sink.now)
    (g.W.Sink.contents c.loop-byte.sink) (bytes_served bytes (server_state c.args.self.now c.args.images.now))
    c.loop-byte.invariant.text c.loop-byte.invariant.state (served_none (drop c.loop-byte.byte-index bytes) s none)

pub returns-in_err-take_byte-clause-front : goal.returns-in_err-take_byte-clause-front
returns-in_err-take_byte-clause-front g c =
    let bytes : List ℕ = c.args.bytes.now in
    let i = c.loop-byte.invariant in
    let index : ℕ = c.loop-byte.byte-index in
    let s : ServerState = server_state c.loop-byte.self c.loop-byte.images in
    let byte : ℕ = get_or bytes index 0 in
    let goes : s.session.has_ended ≡ false = sym (c.has_ended.ensures c.loop-byte.images) ∙ c.if-has_ended.false in
    let before = g.W.Sink.contents c.loop-byte.sink in
    let after = g.W.Sink.contents c.take_byte.new.sink in
    let front = c.in_err-take_byte.ensures.front in
    let first : Served = byte_served s byte in
    at_err _ _ (front_then (g.W.Sink.contents c.args.sink.now) before after (bytes_served (drop index bytes) s).text
    first.text (bytes_served (drop (index + 1) bytes) first.state).text
    (bytes_served bytes (server_state c.args.self.now c.args.images.now)).text i.text
    (ap (λ (x : Served). x.text) (served_more bytes index s c.loop-byte-test.true goes)) front)
