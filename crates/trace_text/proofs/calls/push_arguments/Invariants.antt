use Rattle.std.proofs.Common.{◌≡◌, drop}
use Rattle.std.specs.List.{flat_map}
use Rattle.profile.specs.Output.{AddsAllBut}
use Rattle.trace_text.specs.Calls.{argument_word}
use Rattle.trace_text.proofs.calls.push_arguments.Given as goal

-- what stands written, and the registers that are left, is all
abbrev pub invariant-loop-number : goal.invariant-loop-number
invariant-loop-number g l = record {
  text : AddsAllBut (g.W.Sink.contents l.fn.sink) (g.W.Sink.contents l.sink)
      (flat_map (argument_word l.cpu) (drop l.number-index l.numbers)) (flat_map (argument_word l.cpu) l.fn.numbers);
  same_flag : g.W.Sink.has_failed l.sink ≡ g.W.Sink.has_failed l.fn.sink;
}
