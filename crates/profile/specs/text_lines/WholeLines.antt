-- The lines of a text that have their end, and what stands after the last of them.
use Rattle.std.specs.Prelude.{ℕ, List, [], ◌∷◌, ◌==◌, length, if◌then◌else◌}
use Rattle.std.specs.List.{slice_split}
use Rattle.std.specs.Str.Lines.{strip_carriage_return}

-- Of the parts between line feeds, all but the last are lines that have their end.
abbrev pub whole_lines_of_parts : List (List ℕ) → List (List ℕ)
whole_lines_of_parts [] = []
whole_lines_of_parts (part ∷ []) = []
whole_lines_of_parts (part ∷ next ∷ more) = strip_carriage_return part ∷ whole_lines_of_parts (next ∷ more)

abbrev pub last_part : List (List ℕ) → List ℕ
last_part [] = []
last_part (part ∷ []) = part
last_part (part ∷ next ∷ more) = last_part (next ∷ more)

-- the lines that have their end
unfoldable pub whole_lines : List ℕ → List (List ℕ)
whole_lines text = whole_lines_of_parts (slice_split (λ b. b == 10) text)

-- the bytes after the last line feed, which are all of them where there is none
unfoldable pub unended_line : List ℕ → List ℕ
unended_line text = last_part (slice_split (λ b. b == 10) text)

-- a line without its end, if it has a byte
abbrev pub line_of_some : List ℕ → List (List ℕ)
line_of_some line = if length line == 0 then [] else line ∷ []
