-- By the answer to all lines of what waits.
use Rattle.std.proofs.Common.{◌≡◌, List, ℕ, ap, subst, ◌∙◌}
use Rattle.std.specs.Prelude.{OnOk}
use Rattle.std.specs.Str.Lines.{lines}
use Rattle.profile.specs.Output.{AddsFront}
use Rattle.profile.specs.text_lines.Lines.{ReadingPlace}
use Rattle.debug_session.specs.DebugScript.{debug_lines_answer}
use Rattle.debug_session.specs.DebugState.{IsDebugged}
use Rattle.debug_session.specs.Session.{debug_state}
use Rattle.debug_program.proofs.typing.DebugTyping.answer_waiting.Goals as goal

pub returns-clause-reported : goal.returns-clause-reported
returns-clause-reported g c =
    let t = c.args.self.now in
    let place = c.after-lines.ensures
    ∙ ap (λ (xs : List ℕ). let p : ReadingPlace = record { left = lines xs; number = t.number } in p) c.as_slice.ensures.value in
    subst (λ (p : ReadingPlace). OnOk c.answer_lines.result (IsDebugged (g.W.Sink.contents c.args.sink.now)
    (g.W.Sink.contents c.answer_lines.new.sink) (debug_state c.answer_lines.new.self c.answer_lines.new.images)
    (debug_lines_answer t.session.setting p.number (debug_state t.session c.args.images.now) p.left)))
    place c.answer_lines.ensures.reported

pub returns-clause-memory : goal.returns-clause-memory
returns-clause-memory g c = λ is.
    let t = c.args.self.now in
    let place = c.after-lines.ensures
    ∙ ap (λ (xs : List ℕ). let p : ReadingPlace = record { left = lines xs; number = t.number } in p) c.as_slice.ensures.value in
    subst (λ (p : ReadingPlace). AddsFront (g.W.Sink.contents c.args.sink.now) (g.W.Sink.contents c.answer_lines.new.sink)
    (debug_lines_answer t.session.setting p.number (debug_state t.session c.args.images.now) p.left).text)
    place (c.answer_lines.ensures.memory is)
