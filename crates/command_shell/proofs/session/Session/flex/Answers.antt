use Rattle.std.proofs.Common.{◌≡◌, false, List, ℕ, [], sym, ◌∙◌, refl, subst}
use Rattle.std.specs.Prelude.{codes, is_some}
use Rattle.std.specs.Io.KnownBytes.{Appends}
use Rattle.debugger.specs.Flex.{flex_text}
use Rattle.command_shell.specs.Answers.{refused_text}
use Rattle.command_shell.specs.Session.{script_state}
use Rattle.command_shell.specs.State.{answer}
use Rattle.command_shell.specs.Views.{flex_answer}
use Rattle.command_shell.proofs.AnswerLemmas.{shows_then, shows_same, shows_text}
use Rattle.command_shell.proofs.ViewLemmas.{flex_missing, nothing}
use Rattle.command_shell.proofs.session.Session.flex.Goals as goal

pub returns-clause-reported : goal.returns-clause-reported
returns-clause-reported g c images =
    let s = script_state c.args.self.now images in
    let text = flex_text s.machine.store.bytes s.machine.tables.flex in
    let shown = c.in_ok-show_flex.ensures in
    let from = g.W.Sink.contents c.args.sink.now in
    let between = g.W.Sink.contents c.show_flex.new.sink in
    let to = g.W.Sink.contents c.print_refused.new.sink in
    let none : is_some text ≡ false = sym shown.found ∙ c.if-branch.false in
    let empty : Appends from between [] =
    subst (λ (shown : List ℕ). Appends from between shown) (nothing text none) shown.writes.text in
    shows_same c.print_refused.result from to s (answer s (refused_text (codes "NoFlex"))) (flex_answer s)
    (flex_missing s none)
    (shows_then c.print_refused.result from between to s s (answer s [])
    (λ after. answer after (refused_text (codes "NoFlex"))) empty refl
    (shows_text c.print_refused.result between to s (refused_text (codes "NoFlex")) c.print_refused.ensures.text))
