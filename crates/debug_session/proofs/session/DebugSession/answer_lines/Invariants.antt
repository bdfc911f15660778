use Rattle.std.proofs.Common.{◌≡◌, ◌+◌, length}
use Rattle.profile.specs.Output.{AddsAllBut}
use Rattle.debug_session.specs.DebugScript.{debug_lines_answer}
use Rattle.debug_session.specs.Session.{debug_state}
use Rattle.debug_session.proofs.session.DebugSession.answer_lines.Given as goal

-- What stands written, and the answers to the lines that are left, are the answers to all lines.
abbrev pub invariant-loop-self : goal.invariant-loop-self
invariant-loop-self g l = record {
  text : AddsAllBut (g.W.Sink.contents l.fn.sink) (g.W.Sink.contents l.sink)
      (debug_lines_answer l.fn.self.setting l.script.number (debug_state l.self l.images) l.script.left).text
      (debug_lines_answer l.fn.self.setting l.fn.script.number (debug_state l.fn.self l.fn.images) l.fn.script.left).text;
  state : (debug_lines_answer l.fn.self.setting l.script.number (debug_state l.self l.images) l.script.left).state
      ≡ (debug_lines_answer l.fn.self.setting l.fn.script.number (debug_state l.fn.self l.fn.images) l.fn.script.left).state;
  counted : l.script.number + length l.script.left ≡ l.fn.script.number + length l.fn.script.left;
  setting : l.self.setting ≡ l.fn.self.setting;
  same_flag : g.W.Sink.has_failed l.sink ≡ g.W.Sink.has_failed l.fn.sink;
}

abbrev pub decreases-loop-self : goal.decreases-loop-self
decreases-loop-self g l = length l.script.left
