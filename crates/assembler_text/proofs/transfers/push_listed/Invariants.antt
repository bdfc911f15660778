use Rattle.std.proofs.Common.{◌≡◌}
use Rattle.arm_decode.specs.Output.{AddsAllBut}
use Rattle.assembler_text.specs.Transfers.{listed_text}
use Rattle.assembler_text.proofs.Listed.{listed_rest}
use Rattle.assembler_text.proofs.transfers.push_listed.Given as goal

-- what stands written, and the registers that are left, is all
abbrev pub invariant-loop-number : goal.invariant-loop-number
invariant-loop-number g l = record {
  text : AddsAllBut (g.W.Sink.contents l.fn.sink) (g.W.Sink.contents l.sink) (listed_rest l.list l.number l.is_first) (listed_text l.list);
  same_flag : g.W.Sink.has_failed l.sink ≡ g.W.Sink.has_failed l.fn.sink;
}
