use Rattle.std.proofs.Common.{◌≡◌}
use Rattle.profile.specs.Output.{AddsAllBut}
use Rattle.command_shell_lines.specs.Blocks.{block_lines}
use Rattle.debug_session.specs.DebugScript.{repeated_answer}
use Rattle.debug_session.specs.Session.{debug_state}
use Rattle.debug_session.proofs.session.DebugSession.repeat.Given as goal

-- What stands written, and the answers to the times that are left, are the answers to all times.
abbrev pub invariant-loop-left : goal.invariant-loop-left
invariant-loop-left g l = record {
  text : AddsAllBut (g.W.Sink.contents l.fn.sink) (g.W.Sink.contents l.sink)
      (repeated_answer l.left l.fn.self.setting l.fn.script.number l.fn.line (block_lines l.fn.script.left) (debug_state l.self l.images)).text
      (repeated_answer l.fn.count l.fn.self.setting l.fn.script.number l.fn.line (block_lines l.fn.script.left) (debug_state l.fn.self l.fn.images)).text;
  state : (repeated_answer l.left l.fn.self.setting l.fn.script.number l.fn.line (block_lines l.fn.script.left) (debug_state l.self l.images)).state
      ≡ (repeated_answer l.fn.count l.fn.self.setting l.fn.script.number l.fn.line (block_lines l.fn.script.left) (debug_state l.fn.self l.fn.images)).state;
  setting : l.self.setting ≡ l.fn.self.setting;
  same_flag : g.W.Sink.has_failed l.sink ≡ g.W.Sink.has_failed l.fn.sink;
  lines : l.script.left ≡ l.fn.script.left;
  number : l.script.number ≡ l.fn.script.number;
}

abbrev pub decreases-loop-left : goal.decreases-loop-left
decreases-loop-left g l = l.left
