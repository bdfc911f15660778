use Rattle.std.proofs.Common.{◌≡◌, drop}
use Rattle.std.specs.List.{flat_map}
use Rattle.store_copies.specs.Store.{store_of}
use Rattle.profile.specs.Output.{AddsAllBut}
use Rattle.trace_store_text.specs.HeapLines.{kept_heap_lines, lines_of_region}
use Rattle.trace_store_text.proofs.heap_lines.push_kept_heaps.Given as goal

-- what stands written, and the lines of what is left, is all
abbrev pub invariant-loop-region : goal.invariant-loop-region
invariant-loop-region g l = record {
  text : AddsAllBut (g.W.Sink.contents l.fn.sink) (g.W.Sink.contents l.sink)
      (flat_map (lines_of_region (kept_heap_lines (store_of l.before) (store_of l.after))) (drop l.region-index l.regions))
      (flat_map (lines_of_region (kept_heap_lines (store_of l.before) (store_of l.after))) l.fn.regions);
  same_flag : g.W.Sink.has_failed l.sink ≡ g.W.Sink.has_failed l.fn.sink;
}
