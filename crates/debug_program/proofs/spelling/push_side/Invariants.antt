use Rattle.std.proofs.Common.{◌≡◌, drop, true}
use Rattle.profile.specs.Output.{AddsAllBut}
use Rattle.debug_program.specs.Spelling.{spelt_from}
use Rattle.debug_program.proofs.spelling.push_side.Given as goal

-- what stands written, and the bytes that are left, is all
abbrev pub invariant-loop-byte : goal.invariant-loop-byte
invariant-loop-byte g l = record {
  text : AddsAllBut (g.W.Sink.contents l.fn.sink) (g.W.Sink.contents l.sink)
      (spelt_from l.side l.is_first (drop l.byte-index l.text)) (spelt_from l.side true l.fn.text);
  same_flag : g.W.Sink.has_failed l.sink ≡ g.W.Sink.has_failed l.fn.sink;
}
