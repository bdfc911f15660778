use Rattle.std.proofs.Common.{◌≡◌, ◌-◌}
use Rattle.swi_dispatch_guest.specs.Output.{AddsAllBut}
use Rattle.swi_dispatch_guest.specs.AddressMapMemory.{bytes_of}
use Rattle.debugger.specs.Code.{code_text}
use Rattle.debugger.proofs.code.show_words.Given as goal

-- what stands written, and the lines that are left, is all
abbrev pub invariant-loop-words : goal.invariant-loop-words
invariant-loop-words g l = record {
  text : AddsAllBut (g.W.Sink.contents l.fn.sink) (g.W.Sink.contents l.sink)
      (code_text (bytes_of l.memory) l.at (l.count - l._words)) (code_text (bytes_of l.memory) l.address l.count);
  same_flag : g.W.Sink.has_failed l.sink ≡ g.W.Sink.has_failed l.fn.sink;
}
