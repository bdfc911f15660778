use Rattle.std.proofs.Common.{◌≡◌, drop}
use Rattle.arm_step.specs.Memory.{bytes_of}
use Rattle.profile.specs.Output.{AddsAllBut}
use Rattle.trace_effects.specs.word_text.Stored.{stored_lines}
use Rattle.trace_effects.proofs.word_text.stored.push_lines.Given as goal

-- what stands written, and the lines that are left, is all
abbrev pub invariant-loop-word : goal.invariant-loop-word
invariant-loop-word g l = record {
  text : AddsAllBut (g.W.Sink.contents l.fn.sink) (g.W.Sink.contents l.sink)
      (stored_lines (bytes_of l.memory) l.at (drop l.word-index l.old)) (stored_lines (bytes_of l.memory) l.first l.fn.old);
  same_flag : g.W.Sink.has_failed l.sink ≡ g.W.Sink.has_failed l.fn.sink;
}
