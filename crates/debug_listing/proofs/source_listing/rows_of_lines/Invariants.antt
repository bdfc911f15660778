use Rattle.std.proofs.Common.{◌≡◌, ◌++◌, length}
use Rattle.std.specs.Str.Lines.{lines}
use Rattle.debug_listing.specs.SourceListing.{rows_behind}
use Rattle.debug_listing.proofs.source_listing.rows_of_lines.Given as goal

-- what stands written, and the lines that are left, is all
abbrev pub invariant-loop-line : goal.invariant-loop-line
invariant-loop-line l = l.text.items ++ rows_behind l.counts l.places l.start l.bytes l.lines.number l.lines.left
    ≡ rows_behind l.counts l.places l.start l.bytes 0 (lines l.source)

abbrev pub decreases-loop-line : goal.decreases-loop-line
decreases-loop-line l = length l.lines.left
