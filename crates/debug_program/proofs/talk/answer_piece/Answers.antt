-- By what is shown before the piece is taken.
use Rattle.std.proofs.Common.{◌≡◌, ℕ, List, ap, subst, ◌∙◌}
use Rattle.std.specs.Prelude.{OnOk}
use Rattle.debug_program.specs.Typing.{IsTaken}
use Rattle.debug_session.specs.declared.session.DebugSession.{DebugSession}
use Rattle.debug_program.proofs.ResultLemmas.{fails_in}
use Rattle.debug_program.proofs.TalkLemmas.{takes_failed, takes_nothing, takes_so}
use Rattle.debug_program.proofs.talk.answer_piece.Goals as goal

pub returns-clause-taken : goal.returns-clause-taken
returns-clause-taken g c =
    takes_so c.answer.result c.args.typing.now c.answer.new.self c.args.images.now c.answer.new.images
    (g.W.Sink.contents c.args.sink.now) (g.W.Sink.contents c.print_missing_ends.new.sink) (g.W.Sink.contents c.answer.new.sink)
    c.args.piece.now
    (λ answers. c.in_ok-print_missing_ends.ensures.plain
    (ap (λ (x : DebugSession). x.setting.form) c.session.ensures ∙ answers))
    (subst (λ (xs : List ℕ). OnOk c.answer.result (IsTaken c.args.typing.now c.answer.new.self c.args.images.now
    c.answer.new.images (g.W.Sink.contents c.print_missing_ends.new.sink) (g.W.Sink.contents c.answer.new.sink) xs))
    c.in_ok-read.ensures.text c.answer.ensures.taken)

pub returns-in_err-read-clause-front : goal.returns-in_err-read-clause-front
returns-in_err-read-clause-front g c =
    fails_in c.from_residual.result _ (takes_nothing c.args.typing.now c.args.images.now
    (g.W.Sink.contents c.args.sink.now) c.args.piece.now)

pub returns-clause-front : goal.returns-clause-front
returns-clause-front g c =
    takes_failed c.answer.result g.W.Sink.contents c.args.typing.now c.args.images.now (g.W.Sink.contents c.args.sink.now)
    c.print_missing_ends.new.sink c.answer.new.sink c.args.piece.now c.in_ok-read.read.text.items
    (λ answers. c.in_ok-print_missing_ends.ensures.plain
    (ap (λ (x : DebugSession). x.setting.form) c.session.ensures ∙ answers))
    c.in_ok-read.ensures.text c.answer.ensures.errors c.answer.ensures.memory (λ is. (c.answer.ensures.nothing is).0)
