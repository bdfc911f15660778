use Rattle.std.proofs.Common.{◌≡◌}
use Rattle.profile.specs.Output.{AddsAllBut}
use Rattle.debugger.specs.AddressMapMemory.{bytes_of}
use Rattle.debug_labels.specs.place_views.Stack.{stack_words_text_at}
use Rattle.debug_labels.proofs.place_views.stack.show_from.Given as goal

-- what stands written, and the words that are left, is all
abbrev pub invariant-loop-left : goal.invariant-loop-left
invariant-loop-left g l = record {
  text : AddsAllBut (g.W.Sink.contents l.fn.sink) (g.W.Sink.contents l.sink)
      (stack_words_text_at l.names (bytes_of l.memory) l.at l.left) (stack_words_text_at l.names (bytes_of l.memory) l.top l.count);
  same_flag : g.W.Sink.has_failed l.sink ≡ g.W.Sink.has_failed l.fn.sink;
}

abbrev pub decreases-loop-left : goal.decreases-loop-left
decreases-loop-left g l = l.left
