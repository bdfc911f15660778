use Rattle.std.proofs.Common.{◌≡◌, ◌+◌, ◌-◌, Bool, ◌∙◌, ap, sym, arith, rules}
use Rattle.command_shell_lines.specs.Blocks.{block_lines, lines_after, lines_taken}
use Rattle.debug_session.specs.DebugScript.{repeated_answer, simple_line_answer}
use Rattle.debug_session.specs.DebugState.{DebugAnswered}
use Rattle.debug_session.specs.Session.{debug_state}
use Rattle.profile.proofs.OutputLemmas.{AddsAllBut-more, Appends-from_all_but}
use Rattle.debug_session.proofs.FailLemmas.{unwritten_then}
use Rattle.debug_session.proofs.RepeatLemmas.{repeat_none, repeat_quit, repeat_state, repeat_text, answer_there}
use Rattle.debug_session.proofs.session.DebugSession.repeat.Goals as goal

pub loop-left-preserved : goal.loop-left-preserved
loop-left-preserved g c =
    let before = debug_state c.loop-left.self c.loop-left.images in
    let after = debug_state c.simple_line.new.self c.simple_line.new.images in
    let setting = c.args.self.now.setting in
    let number = c.args.script.now.number in
    let block = block_lines c.args.script.now.left in
    let line = c.args.line.now in
    let n = c.loop-left.left in
    let i = c.loop-left.invariant in
    let own = c.in_ok-simple_line.ensures in
    let reported = answer_there (g.W.Sink.contents c.loop-left.sink) (g.W.Sink.contents c.simple_line.new.sink) after before
    setting c.loop-left.self.setting number c.loop-left.script.number line block (block_lines c.loop-left.script.left)
    i.setting i.number (ap block_lines i.lines) own.reported in
    let next : n ≡ (n - 1) + 1 = omega (arith, c.loop-left-test.true) in
    let first = simple_line_answer setting before number line block in
    let text = repeat_text n (n - 1) setting number line block before after next c.if-self.false reported.state in
    let state = repeat_state n (n - 1) setting number line block before after next c.if-self.false reported.state in
    let alone = c.requires in
    let taken = own.number ∙ ap (λ (b : Bool). c.loop-left.script.number + lines_taken b c.loop-left.script.left) alone in
    record {
      text = AddsAllBut-more (g.W.Sink.contents c.args.sink.now) (g.W.Sink.contents c.loop-left.sink)
          (g.W.Sink.contents c.simple_line.new.sink) (repeated_answer n setting number line block before).text first.text
          (repeated_answer (n - 1) setting number line block after).text _ i.text reported.text text;
      state = sym state ∙ i.state;
      setting = own.setting ∙ i.setting;
      same_flag = own.ends.same_flag ∙ i.same_flag;
      lines = own.left ∙ ap (λ (b : Bool). lines_after b c.loop-left.script.left) alone ∙ i.lines;
      number = omega (arith, taken, i.number);
    }

pub returns-then-self-clause-reported : goal.returns-then-self-clause-reported
returns-then-self-clause-reported g c =
    let quit = repeat_quit c.loop-left.left c.args.self.now.setting c.args.script.now.number c.args.line.now
    (block_lines c.args.script.now.left) (debug_state c.loop-left.self c.loop-left.images) c.if-self.true in
    record {
      text = Appends-from_all_but (g.W.Sink.contents c.args.sink.now) (g.W.Sink.contents c.loop-left.sink) _ _
          c.loop-left.invariant.text (ap (λ (a : DebugAnswered). a.text) quit);
      state = sym (ap (λ (a : DebugAnswered). a.state) quit) ∙ c.loop-left.invariant.state;
    }

pub returns-clause-reported : goal.returns-clause-reported
returns-clause-reported g c =
    let done : c.loop-left.left ≡ 0 = omega (arith, c.loop-left-test.false) in
    let none = repeat_none c.loop-left.left c.args.self.now.setting c.args.script.now.number c.args.line.now
    (block_lines c.args.script.now.left) (debug_state c.loop-left.self c.loop-left.images) done in
    record {
      text = Appends-from_all_but (g.W.Sink.contents c.args.sink.now) (g.W.Sink.contents c.loop-left.sink) _ _
          c.loop-left.invariant.text (ap (λ (a : DebugAnswered). a.text) none);
      state = sym (ap (λ (a : DebugAnswered). a.state) none) ∙ c.loop-left.invariant.state;
    }

pub returns-in_err-simple_line-clause-memory : goal.returns-in_err-simple_line-clause-memory
returns-in_err-simple_line-clause-memory g c = λ is.
    unwritten_then g.W.Sink.contents (g.W.Sink.contents c.args.sink.now) c.loop-left.sink c.simple_line.new.sink _ _
    c.loop-left.invariant.text (c.in_err-simple_line.ensures.ends.memory (search rules))
