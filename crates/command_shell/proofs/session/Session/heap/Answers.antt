use Rattle.std.proofs.Common.{◌≡◌, ℕ, false, List, [], sym, ◌∙◌, refl, subst}
use Rattle.std.specs.Prelude.{codes, is_some}
use Rattle.std.specs.Io.KnownBytes.{Appends}
use Rattle.debugger.specs.Heap.{heap_blocks_text}
use Rattle.command_shell.specs.Answers.{refused_text}
use Rattle.command_shell.specs.Session.{script_state}
use Rattle.command_shell.specs.State.{answer}
use Rattle.command_shell.specs.Views.{heap_answer}
use Rattle.command_shell.proofs.AnswerLemmas.{shows_then, shows_same, shows_text}
use Rattle.command_shell.proofs.ViewLemmas.{heap_missing, nothing_shown}
use Rattle.command_shell.proofs.session.Session.heap.Goals as goal

pub returns-clause-reported : goal.returns-clause-reported
returns-clause-reported g c images =
    let s = script_state c.args.self.now images in
    let shown = c.in_ok-show_blocks.ensures in
    let from = g.W.Sink.contents c.args.sink.now in
    let between = g.W.Sink.contents c.show_blocks.new.sink in
    let to = g.W.Sink.contents c.print_refused.new.sink in
    let none : is_some (heap_blocks_text s.machine.store c.args.address) ≡ false = sym shown.found ∙ c.if-branch.false in
    let nothing : Appends from between [] =
    subst (λ (text : List ℕ). Appends from between text) (nothing_shown s c.args.address none) shown.writes.text in
    shows_same c.print_refused.result from to s (answer s (refused_text (codes "NoHeap"))) (heap_answer s c.args.address)
    (heap_missing s c.args.address none)
    (shows_then c.print_refused.result from between to s s (answer s [])
    (λ after. answer after (refused_text (codes "NoHeap"))) nothing refl
    (shows_text c.print_refused.result between to s (refused_text (codes "NoHeap")) c.print_refused.ensures.text))
