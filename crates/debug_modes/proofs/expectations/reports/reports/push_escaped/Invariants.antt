use Rattle.std.proofs.Common.{◌≡◌, drop}
use Rattle.std.specs.List.{flat_map}
use Rattle.profile.specs.Output.{AddsAllBut}
use Rattle.debug_modes.specs.expectations.reports.Reports.{tap_byte_text}
use Rattle.debug_modes.proofs.expectations.reports.reports.push_escaped.Given as goal

-- what stands written, and the bytes that are left, is all
abbrev pub invariant-loop-byte : goal.invariant-loop-byte
invariant-loop-byte g l = record {
  text : AddsAllBut (g.W.Sink.contents l.fn.sink) (g.W.Sink.contents l.sink)
      (flat_map tap_byte_text (drop l.byte-index l.text)) (flat_map tap_byte_text l.fn.text);
  same_flag : g.W.Sink.has_failed l.sink ≡ g.W.Sink.has_failed l.fn.sink;
}
