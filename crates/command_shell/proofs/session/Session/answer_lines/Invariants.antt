use Rattle.std.proofs.Common.{◌≡◌, ◌+◌, None, length}
use Rattle.profile.specs.Output.{AddsAllBut}
use Rattle.command_shell.specs.Fronts.{IsFront}
use Rattle.command_shell.specs.Script.{lines_answer}
use Rattle.command_shell.specs.Session.{script_state}
use Rattle.command_shell.proofs.session.Session.answer_lines.Given as goal

-- What stands written, and the answers to the lines that are left, are the answers to all lines;
-- and no image is gone.
abbrev pub invariant-loop-line : goal.invariant-loop-line
invariant-loop-line g l = record {
  text : AddsAllBut (g.W.Sink.contents l.fn.sink) (g.W.Sink.contents l.sink)
      (lines_answer l.script.number (script_state l.self l.images) None l.script.left).text
      (lines_answer l.fn.script.number (script_state l.fn.self l.fn.images) None l.fn.script.left).text;
  state : (lines_answer l.script.number (script_state l.self l.images) None l.script.left).state
      ≡ (lines_answer l.fn.script.number (script_state l.fn.self l.fn.images) None l.fn.script.left).state;
  number : l.script.number + length l.script.left ≡ l.fn.script.number + length l.fn.script.left;
  images : IsFront l.fn.images l.images;
  same_flag : g.W.Sink.has_failed l.sink ≡ g.W.Sink.has_failed l.fn.sink;
}

abbrev pub decreases-loop-line : goal.decreases-loop-line
decreases-loop-line g l = length l.script.left
