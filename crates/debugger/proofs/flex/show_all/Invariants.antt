use Rattle.std.proofs.Common.{◌≡◌, length}
use Rattle.std.specs.List.{flat_map}
use Rattle.swi_dispatch_guest.specs.Output.{AddsAllBut}
use Rattle.swi_dispatch_guest.specs.Listed.{all_listed}
use Rattle.swi_dispatch_guest.specs.State.{flex_in}
use Rattle.debugger.specs.Flex.{flex_block_text, flex_blocks_text}
use Rattle.debugger.proofs.flex.show_all.Given as goal

-- what stands written, and the lines of the blocks that are left, is all
abbrev pub invariant-loop-block : goal.invariant-loop-block
invariant-loop-block g l = record {
  text : AddsAllBut (g.W.Sink.contents l.fn.sink) (g.W.Sink.contents l.sink)
      (flat_map (flex_block_text (all_listed (flex_in l.memory l.flex.extent))) l.rest) (flex_blocks_text (all_listed (flex_in l.memory l.flex.extent)));
  same_flag : g.W.Sink.has_failed l.sink ≡ g.W.Sink.has_failed l.fn.sink;
}

abbrev pub decreases-loop-block : goal.decreases-loop-block
decreases-loop-block g l = length l.rest
