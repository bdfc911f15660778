use Rattle.std.proofs.Common.{◌≡◌, drop}
use Rattle.std.specs.List.{flat_map}
use Rattle.profile.specs.Output.{AddsAllBut}
use Rattle.trace_store_text.specs.ItemLines.{item_line}
use Rattle.trace_store_text.proofs.item_lines.push_first_items.Given as goal

-- what stands written, and the lines of what is left, is all
abbrev pub invariant-loop-change : goal.invariant-loop-change
invariant-loop-change g l = record {
  text : AddsAllBut (g.W.Sink.contents l.fn.sink) (g.W.Sink.contents l.sink)
      (flat_map (item_line l.heap) (drop l.change-index l.changes)) (flat_map (item_line l.heap) l.fn.changes);
  same_flag : g.W.Sink.has_failed l.sink ≡ g.W.Sink.has_failed l.fn.sink;
}
