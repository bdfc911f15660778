use Rattle.std.proofs.Common.{ℕ, List, Option, ap, subst, sym, ◌∙◌}
use Rattle.std.specs.Prelude.{OnOk, option_map}
use Rattle.command_shell_lines.specs.Blocks.{block_lines}
use Rattle.debug_lines.specs.Repeats.{count_and_line}
use Rattle.debug_session.specs.DebugScript.{tidy_line_answer_by}
use Rattle.profile.specs.Output.{AddsFront}
use Rattle.debug_session.specs.DebugState.{IsDebugged}
use Rattle.debug_session.specs.Session.{debug_state}
use Rattle.debug_session.proofs.FailLemmas.{front_start, unwritten}
use Rattle.debug_session.proofs.session.DebugSession.tidy_line.Goals as goal

pub returns-in-Some-clause-reported : goal.returns-in-Some-clause-reported
returns-in-Some-clause-reported g c =
    subst (λ (o : Option (ℕ × List ℕ)). OnOk c.repeat.result (IsDebugged (g.W.Sink.contents c.args.sink.now)
    (g.W.Sink.contents c.repeat.new.sink) (debug_state c.repeat.new.self c.repeat.new.images)
    (tidy_line_answer_by o c.args.self.now.setting (debug_state c.args.self.now c.args.images.now)
    c.args.script.now.number c.args.words.now (block_lines c.args.script.now.left))))
    (ap (option_map count_and_line) (sym c.in-Some.is) ∙ c.in_ok-repeated.ensures.reported c.args.images.now) c.repeat.ensures.reported

pub returns-in-None-clause-reported : goal.returns-in-None-clause-reported
returns-in-None-clause-reported g c =
    subst (λ (o : Option (ℕ × List ℕ)). OnOk c.simple_line.result (IsDebugged (g.W.Sink.contents c.args.sink.now)
    (g.W.Sink.contents c.simple_line.new.sink) (debug_state c.simple_line.new.self c.simple_line.new.images)
    (tidy_line_answer_by o c.args.self.now.setting (debug_state c.args.self.now c.args.images.now)
    c.args.script.now.number c.args.words.now (block_lines c.args.script.now.left))))
    (ap (option_map count_and_line) (sym c.in-None.is) ∙ c.in_ok-repeated.ensures.reported c.args.images.now) c.simple_line.ensures.reported

pub returns-in_err-repeated-clause-memory : goal.returns-in_err-repeated-clause-memory
returns-in_err-repeated-clause-memory g c = λ is. front_start _ _

pub returns-in-Some-clause-memory : goal.returns-in-Some-clause-memory
returns-in-Some-clause-memory g c = λ is.
    subst (λ (o : Option (ℕ × List ℕ)). AddsFront (g.W.Sink.contents c.args.sink.now) (g.W.Sink.contents c.repeat.new.sink)
    (tidy_line_answer_by o c.args.self.now.setting (debug_state c.args.self.now c.args.images.now)
    c.args.script.now.number c.args.words.now (block_lines c.args.script.now.left)).text)
    (ap (option_map count_and_line) (sym c.in-Some.is) ∙ c.in_ok-repeated.ensures.reported c.args.images.now)
    (c.repeat.ensures.memory is)

pub returns-in-None-clause-memory : goal.returns-in-None-clause-memory
returns-in-None-clause-memory g c = λ is.
    unwritten g.W.Sink.contents c.args.sink.now c.simple_line.new.sink _ (c.simple_line.ensures.ends.memory is)
