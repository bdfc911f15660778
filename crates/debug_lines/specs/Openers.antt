-- Which lines may open a block: those that begin, behind blanks, with the first letter of a word that
-- opens one, which are HEX and ASM. Of any other line that is known without reading it.
use Rattle.std.specs.Prelude.{ℕ, Bool, false, ◌==◌, ◌||◌, List, [], ◌∷◌, if◌then◌else◌}
use Rattle.debug_lines.specs.Tidy.{is_blank}

-- H (72) and A (65), in either case
abbrev pub is_opener_letter : ℕ → Bool
is_opener_letter b = (b == 72 || b == 104) || (b == 65 || b == 97)

abbrev pub may_open_block : List ℕ → Bool
may_open_block [] = false
may_open_block (b ∷ rest) = if is_blank b then may_open_block rest else is_opener_letter b
