-- What each line needs, from a table: by its first word, or by its second behind SET and EXPECT.
use Rattle.std.specs.Prelude.{ℕ, Bool, false, ◌||◌, codes, List, [], ◌∷◌, Option, Some, None, if◌then◌else◌}
use Rattle.std.specs.Option.{option_or}
use Rattle.assembler_text.specs.WholeLines.{whole_lines}
use Rattle.command_shell_lines.specs.Requests.{is_same_word, words}
use Rattle.command_shell_lines.specs.declared.debug_words.forms.TheConstants.{FORMS}

abbrev pub is_first_word : List (List ℕ) → List ℕ → Bool
is_first_word [] word = false
is_first_word (first ∷ others) word = is_same_word word first

-- whether a form is that of the lines that begin with a word, in either case
abbrev pub begins_with_word : List ℕ → List ℕ → Bool
begins_with_word form word = is_first_word (words form) word

-- the first of some forms that is
abbrev pub form_with_word : List (List ℕ) → List ℕ → Option (List ℕ)
form_with_word [] word = None
form_with_word (form ∷ rest) word = if begins_with_word form word then Some form else form_with_word rest word

unfoldable pub form_of_word : List ℕ → Option (List ℕ)
form_of_word word = form_with_word (whole_lines FORMS.now) word

-- words of the table stand behind these
abbrev pub has_second_word : List ℕ → Bool
has_second_word word = is_same_word word (codes "SET") || is_same_word word (codes "EXPECT")

-- what a line lacks that means nothing, by its words
abbrev pub form_of_line : List (List ℕ) → Option (List ℕ)
form_of_line [] = None
form_of_line (word ∷ []) = form_of_word word
form_of_line (word ∷ second ∷ others) =
    if has_second_word word then option_or (form_of_word second) (form_of_word word) else form_of_word word
