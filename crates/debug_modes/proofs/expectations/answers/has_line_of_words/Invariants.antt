use Rattle.std.proofs.Common.{◌≡◌, length}
use Rattle.std.specs.List.{list_any}
use Rattle.std.specs.Str.Lines.{lines}
use Rattle.debug_modes.specs.expectations.Checks.{is_line_of_words}
use Rattle.debug_modes.proofs.expectations.answers.has_line_of_words.Given as goal

-- none of the lines that were read is the text
abbrev pub invariant-loop-line : goal.invariant-loop-line
invariant-loop-line l =
    list_any (is_line_of_words l.text) l.lines.left ≡ list_any (is_line_of_words l.text) (lines l.answer)

abbrev pub decreases-loop-line : goal.decreases-loop-line
decreases-loop-line l = length l.lines.left
