use Rattle.std.proofs.Common.{◌≡◌}
use Rattle.swi_dispatch_guest.specs.Output.{AddsAllBut}
use Rattle.swi_dispatch_guest.specs.Bytes.{word_start}
use Rattle.swi_dispatch_guest.specs.AddressMapMemory.{bytes_of}
use Rattle.debugger.specs.views.Words.{memory_words_text_at}
use Rattle.debugger.proofs.views.words.show_words.Given as goal

-- what stands written, and the lines that are left, is all
abbrev pub invariant-loop-left : goal.invariant-loop-left
invariant-loop-left g l = record {
  text : AddsAllBut (g.W.Sink.contents l.fn.sink) (g.W.Sink.contents l.sink)
      (memory_words_text_at (bytes_of l.memory) l.at l.left)
      (memory_words_text_at (bytes_of l.memory) (word_start l.address) l.count);
  same_flag : g.W.Sink.has_failed l.sink ≡ g.W.Sink.has_failed l.fn.sink;
}

abbrev pub decreases-loop-left : goal.decreases-loop-left
decreases-loop-left g l = l.left
