use Rattle.std.proofs.Common.{◌≡◌, length}
use Rattle.std.specs.List.{flat_map}
use Rattle.std.specs.Str.Lines.{lines}
use Rattle.profile.specs.Output.{AddsAllBut}
use Rattle.debug_modes.specs.expectations.reports.Reports.{tap_remark}
use Rattle.debug_modes.proofs.expectations.reports.reports.push_remarks.Given as goal

-- what stands written, and the lines that are left, is all
abbrev pub invariant-loop-line : goal.invariant-loop-line
invariant-loop-line g l = record {
  text : AddsAllBut (g.W.Sink.contents l.fn.sink) (g.W.Sink.contents l.sink)
      (flat_map tap_remark l.lines.left) (flat_map tap_remark (lines l.text));
  same_flag : g.W.Sink.has_failed l.sink ≡ g.W.Sink.has_failed l.fn.sink;
}

abbrev pub decreases-loop-line : goal.decreases-loop-line
decreases-loop-line g l = length l.lines.left
