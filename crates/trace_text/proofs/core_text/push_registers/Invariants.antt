use Rattle.std.proofs.Common.{◌≡◌, ◌≤◌, ◌-◌}
use Rattle.std.specs.List.{flat_map}
use Rattle.std.specs.Io.KnownBytes.{Appends}
use Rattle.trace_effects.specs.changes.Registers.{changes_below}
use Rattle.trace_text.specs.Core.{register_word}
use Rattle.trace_text.proofs.core_text.push_registers.Given as goal

-- the registers up to a place stand written
abbrev pub invariant-loop-change : goal.invariant-loop-change
invariant-loop-change g l = record {
  text : Appends (g.W.Sink.contents l.fn.sink) (g.W.Sink.contents l.sink)
      (flat_map (register_word l.after.psr.mode) (changes_below l.before.file l.after.file l.from));
  same_flag : g.W.Sink.has_failed l.sink ≡ g.W.Sink.has_failed l.fn.sink;
  inside : l.from ≤ 26;
}

abbrev pub decreases-loop-change : goal.decreases-loop-change
decreases-loop-change g l = 26 - l.from
