use Rattle.std.proofs.Common.{◌≡◌, ℕ, List, [], ◌∷◌, ◌++◌, ◌+◌, get_or, take, drop, refl, sym, ap, subst, ◌∙◌, arith}
use Rattle.std.proofs.lemmas.List.{take_all, take_more, take-append-drop}
use Rattle.gdb_server.proofs.ImageLemmas.{at_err}
use Rattle.gdb_server.specs.Server.{server_state}
use Rattle.rosm_tools.specs.gdb.Streams.{AnswersBytes}
use Rattle.rosm_tools.proofs.GdbLemmas.StreamLemmas.{bytes_join, front_join, front_of_some, no_bytes, one_byte, one_byte_front}
use Rattle.rosm_tools.proofs.gdb.serve.take_piece.Goals as goal

pub loop-byte-init : goal.loop-byte-init
loop-byte-init g c = record { answers = no_bytes _ _ _ _; same_flag = refl }

pub loop-byte-preserved : goal.loop-byte-preserved
loop-byte-preserved g c =
    let i = c.loop-byte.invariant in
    let piece : List ℕ = c.args.piece.now in
    let n : ℕ = c.loop-byte.byte-index in
    let byte : ℕ = get_or piece n 0 in
    record {
      answers = subst (λ (bytes : List ℕ). AnswersBytes g.F.File.Read.remaining c.args.wanted.now bytes (g.W.Sink.contents c.args.sink.now)
          (g.W.Sink.contents c.take.new.sink) (server_state c.args.server.now c.args.images.now) (server_state c.take.new.self c.take.new.images))
          (sym (take_more piece n 0 c.loop-byte-test.true))
          (bytes_join _ _ (take n piece) (byte ∷ []) _ _ _ _ _ _ i.answers
          (one_byte _ _ byte _ _ _ _ _ c.renew.ensures c.in_ok-take.ensures.reported));
      same_flag = c.in_ok-take.ensures.same_flag ∙ i.same_flag;
    }

pub returns-clause-reported : goal.returns-clause-reported
returns-clause-reported g c =
    subst (λ (bytes : List ℕ). AnswersBytes g.F.File.Read.remaining c.args.wanted.now bytes (g.W.Sink.contents c.args.sink.now)
    (g.W.Sink.contents c.loop-byte.sink) (server_state c.args.server.now c.args.images.now)
    (server_state c.loop-byte.server c.loop-byte.images))
    (take_all c.loop-byte.byte-index c.args.piece.now (omega (arith, c.loop-byte-test.false))) c.loop-byte.invariant.answers

pub returns-in_err-take-clause-front : goal.returns-in_err-take-clause-front
returns-in_err-take-clause-front g c =
    let piece : List ℕ = c.args.piece.now in
    let n : ℕ = c.loop-byte.byte-index in
    let byte : ℕ = get_or piece n 0 in
    let split : (take n piece ++ byte ∷ []) ++ drop (n + 1) piece ≡ piece =
    ap (λ (xs : List ℕ). xs ++ drop (n + 1) piece) (sym (take_more piece n 0 c.loop-byte-test.true)) ∙ take-append-drop (n + 1) piece in
    at_err _ _ (front_of_some _ _ (take n piece ++ byte ∷ []) (drop (n + 1) piece) piece _ _ _ split
    (front_join _ _ (take n piece) (byte ∷ []) _ _ _ _ _ c.loop-byte.invariant.answers
    (one_byte_front _ _ byte _ _ _ _ c.renew.ensures c.in_err-take.ensures.front)))
