use Rattle.std.proofs.Common.{◌≡◌, drop}
use Rattle.std.specs.List.{flat_map}
use Rattle.profile.specs.Output.{AddsAllBut}
use Rattle.trace_store_text.specs.FrameWords.{marked_name_if}
use Rattle.trace_store_text.proofs.frame_words.push_names.Given as goal

-- what stands written, and the names that are left, is all
abbrev pub invariant-loop-mark : goal.invariant-loop-mark
invariant-loop-mark g l = record {
  text : AddsAllBut (g.W.Sink.contents l.fn.sink) (g.W.Sink.contents l.sink)
      (flat_map (marked_name_if l.slot) (drop l.mark-index l.marks)) (flat_map (marked_name_if l.slot) l.fn.marks);
  same_flag : g.W.Sink.has_failed l.sink ≡ g.W.Sink.has_failed l.fn.sink;
}
