use Rattle.std.proofs.Common.{◌≡◌, length}
use Rattle.profile.specs.text_lines.WholeLines.{whole_lines}
use Rattle.debug_lines.specs.BlockEnds.{blocks_after_lines, blocks_read, blocks_read_from, is_in_block}
use Rattle.debug_lines.proofs.WholeDebugRequestLemmas.{HasReadDebug}
use Rattle.debug_lines.proofs.whole_requests.read_requests.Given as goal

-- how far requests are whole; and what is read, and the lines that are left, are all lines
abbrev pub invariant-loop-line : goal.invariant-loop-line
invariant-loop-line l = record {
  requests : HasReadDebug l.text l.rest (is_in_block l.reading.place) l.whole;
  lines : blocks_after_lines (blocks_read l.reading) (whole_lines l.rest)
      ≡ blocks_after_lines (blocks_read_from l.number) (whole_lines l.text);
}

abbrev pub decreases-loop-line : goal.decreases-loop-line
decreases-loop-line l = length l.rest
