use Rattle.std.proofs.Common.{◌≡◌, ap, subst, ◌∙◌}
use Rattle.std.specs.Prelude.{codes, IfOk, Some, None}
use Rattle.hex.specs.Hex.{decode_of}
use Rattle.gdb_machine.specs.ChangePackets.{bytes_of_pairs}
use Rattle.gdb_server.specs.session.Runs.{line_decoded}
use Rattle.gdb_server.specs.session.Session.{gdb_state, IsGdbAnswered}
use Rattle.gdb_server.specs.session.State.{GdbState, GdbAnswered}
use Rattle.gdb_server.specs.declared.session.session.GdbAnswer.{GdbAnswer}
use Rattle.gdb_server.proofs.SessionLemmas.ChangeLemmas.{answer_known}
use Rattle.gdb_server.proofs.session.session.GdbSession.answer_line.Goals as goal

pub returns-in-Some-clause-reported : goal.returns-in-Some-clause-reported
returns-in-Some-clause-reported c =
    let g : GdbState = gdb_state c.args.self.now c.args.images.now in
    let there = rw c.in-Some.is at c.in_ok-line.ensures in
    let line : Some c.as_slice.result.now ≡ bytes_of_pairs (decode_of c.args.pairs.now) = ap Some c.as_slice.ensures.value ∙ there in
    subst (λ (a : GdbAnswered). IfOk c.answer_decoded.result
    (λ (answer : GdbAnswer). IsGdbAnswered (gdb_state c.answer_decoded.new.self c.answer_decoded.new.images) answer a))
    (ap (line_decoded g) line)
    c.answer_decoded.ensures.reported

pub returns-in-None-clause-reported : goal.returns-in-None-clause-reported
returns-in-None-clause-reported c =
    let g : GdbState = gdb_state c.args.self.now c.args.images.now in
    let there : None ≡ bytes_of_pairs (decode_of c.args.pairs.now) = rw c.in-None.is at c.in_ok-line.ensures in
    answer_known g c.with_reply.result (Some (codes "E16")) _ c.with_reply.ensures.reported c.with_reply.ensures.reply (ap (line_decoded g) there)
