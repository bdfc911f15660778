use Rattle.std.proofs.Common.{◌≡◌, length}
use Rattle.std.specs.List.{flat_map}
use Rattle.profile.specs.Output.{AddsAllBut}
use Rattle.store_copies.specs.Listed.{all_listed}
use Rattle.store_copies.specs.State.{flex_in}
use Rattle.trace_store_text.specs.FlexLines.{gone_block_lines}
use Rattle.trace_store_text.proofs.flex_lines.push_gone_blocks.Given as goal

-- what stands written, and the lines of the blocks that are left, is all
abbrev pub invariant-loop-block : goal.invariant-loop-block
invariant-loop-block g l = record {
  text : AddsAllBut (g.W.Sink.contents l.fn.sink) (g.W.Sink.contents l.sink)
      (flat_map (gone_block_lines (all_listed (flex_in l.after l.new.extent))) l.rest)
      (flat_map (gone_block_lines (all_listed (flex_in l.after l.new.extent))) (all_listed (flex_in l.before l.old.extent)));
  same_flag : g.W.Sink.has_failed l.sink ≡ g.W.Sink.has_failed l.fn.sink;
}

abbrev pub decreases-loop-block : goal.decreases-loop-block
decreases-loop-block g l = length l.rest
