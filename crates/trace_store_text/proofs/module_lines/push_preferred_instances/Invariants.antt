use Rattle.std.proofs.Common.{◌≡◌, drop}
use Rattle.std.specs.List.{flat_map}
use Rattle.profile.specs.Output.{AddsAllBut}
use Rattle.trace_store_text.specs.ModuleLines.{preferred_lines}
use Rattle.trace_store_text.proofs.module_lines.push_preferred_instances.Given as goal

-- what stands written, and the lines of what is left, is all
abbrev pub invariant-loop-mark : goal.invariant-loop-mark
invariant-loop-mark g l = record {
  text : AddsAllBut (g.W.Sink.contents l.fn.sink) (g.W.Sink.contents l.sink)
      (flat_map (preferred_lines l.before) (drop l.mark-index l.marks)) (flat_map (preferred_lines l.before) l.fn.marks);
  same_flag : g.W.Sink.has_failed l.sink ≡ g.W.Sink.has_failed l.fn.sink;
}
