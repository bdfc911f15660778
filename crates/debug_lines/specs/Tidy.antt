-- A line made tidy, in one pass over its bytes. A comment goes, with all after it: a semicolon that
-- stands at the start or after a blank, outside double quotes. Blanks, which are spaces and tabs,
-- become one space between words, and none stands at either end. Between double quotes each byte
-- stands as it is; a backslash there takes the byte after it with it, so `\"` ends no quotes.
use Rattle.std.specs.Prelude.{ℕ, Bool, false, ◌==◌, ◌||◌, List, [], ◌∷◌, ◌++◌, if◌then◌else◌}
use Rattle.debug_lines.specs.declared.tidy.TidyState.{TidyState}
use Rattle.debug_lines.specs.declared.tidy.TidyState.TheVariants.{AtStart, AfterBlank, InWord, InQuotes, AfterBackslash}

-- a space or a tab
abbrev pub is_blank : ℕ → Bool
is_blank b = b == 32 || b == 9

-- whether a byte begins a comment
abbrev pub is_comment_start : TidyState → ℕ → Bool
is_comment_start AtStart b = b == 59
is_comment_start AfterBlank b = b == 59
is_comment_start InWord b = false
is_comment_start InQuotes b = false
is_comment_start AfterBackslash b = false

-- what stands in the tidy line for a byte
abbrev pub tidy_bytes : TidyState → ℕ → List ℕ
tidy_bytes AtStart b = if is_blank b then [] else b ∷ []
tidy_bytes AfterBlank b = if is_blank b then [] else 32 ∷ b ∷ []
tidy_bytes InWord b = if is_blank b then [] else b ∷ []
tidy_bytes InQuotes b = b ∷ []
tidy_bytes AfterBackslash b = b ∷ []

-- A byte of a word: `"` (34) opens quotes.
abbrev pub state_in_word : ℕ → TidyState
state_in_word b = if b == 34 then InQuotes else InWord

-- where the pass stands after a byte
abbrev pub tidy_state_after : TidyState → ℕ → TidyState
tidy_state_after AtStart b = if is_blank b then AtStart else state_in_word b
tidy_state_after AfterBlank b = if is_blank b then AfterBlank else state_in_word b
tidy_state_after InWord b = if is_blank b then AfterBlank else state_in_word b
tidy_state_after InQuotes b = if b == 34 then InWord else (if b == 92 then AfterBackslash else InQuotes)
tidy_state_after AfterBackslash b = InQuotes

abbrev pub tidied_from : TidyState → List ℕ → List ℕ
tidied_from state [] = []
tidied_from state (b ∷ rest) = if is_comment_start state b then []
    else tidy_bytes state b ++ tidied_from (tidy_state_after state b) rest

unfoldable pub tidied_line : List ℕ → List ℕ
tidied_line line = tidied_from AtStart line
