use Rattle.std.proofs.Common.{◌≡◌, ◌++◌, length}
use Rattle.std.specs.Str.Lines.{lines}
use Rattle.debug_listing.specs.SourceListing.{labelled_lines}
use Rattle.debug_listing.proofs.source_listing.labelled_lines.Given as goal

-- what stands written, and the lines that are left, is all
abbrev pub invariant-loop-line : goal.invariant-loop-line
invariant-loop-line l = l.labelled.items ++ labelled_lines l.lines.number l.lines.left ≡ labelled_lines 0 (lines l.text)

abbrev pub decreases-loop-line : goal.decreases-loop-line
decreases-loop-line l = length l.lines.left
