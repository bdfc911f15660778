-- The first lines of a text, where it is cut behind one of them.
use Rattle.std.specs.Prelude.{◌≡◌, ◌≤◌, ℕ, List, ◌++◌, length, take}
use Rattle.std.specs.Str.Lines.{lines}

-- Whatever follows such a text, its lines stay as they are: it is empty, or ends with a line's end.
abbrev pub EndsItsLines : List ℕ → Type 0
EndsItsLines text = (more : List ℕ) → lines (text ++ more) ≡ lines text ++ lines more

-- a place in a text behind its first line, which has its end
pub record IsBehindLine (text : List ℕ) (place : ℕ) : Type 0 where
  pub within : place ≤ length text
  pub ended : EndsItsLines (take place text)
  pub one : length (lines (take place text)) ≡ 1
