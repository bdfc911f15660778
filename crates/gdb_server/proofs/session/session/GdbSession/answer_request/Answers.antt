use Rattle.std.proofs.Common.{◌≡◌, false, true, sym, ◌∙◌, arith}
use Rattle.std.specs.Prelude.{map}
use Rattle.gdb_server.specs.session.Session.{gdb_state}
use Rattle.gdb_server.specs.session.State.{GdbState}
use Rattle.gdb_server.proofs.SessionLemmas.ProgramLemmas.{has_program, lacks_program, other_asked, run_asked}
use Rattle.gdb_server.proofs.session.session.GdbSession.answer_request.Goals as goal

pub returns-then-not-is_run_request-clause-reported : goal.returns-then-not-is_run_request-clause-reported
returns-then-not-is_run_request-clause-reported c =
    let other : c.is_run_request.result ≡ false = grind arith in
    other_asked _ _ _ _ _ _ (sym c.is_run_request.ensures ∙ other) c.answer.ensures.reported

pub returns-then-lacks-clause-reported : goal.returns-then-lacks-clause-reported
returns-then-lacks-clause-reported c =
    let runs : c.is_run_request.result ≡ true = grind arith in
    let load = map (λ p. p.items) c.args.load.now in
    let g : GdbState = gdb_state c.args.self.now c.args.images.now in
    run_asked c.args.lacks load g _ _ _ (sym c.is_run_request.ensures ∙ runs)
    (lacks_program c.args.lacks load _ _ c.if-lacks.true c.with_reply.ensures.reported c.with_reply.ensures.reply)

pub returns-clause-reported : goal.returns-clause-reported
returns-clause-reported c =
    let runs : c.is_run_request.result ≡ true = grind arith in
    let load = map (λ p. p.items) c.args.load.now in
    let g : GdbState = gdb_state c.args.self.now c.args.images.now in
    run_asked c.args.lacks load g _ _ _ (sym c.is_run_request.ensures ∙ runs) (has_program c.args.lacks load g _ _ c.if-lacks.false c.run.ensures.reported)
