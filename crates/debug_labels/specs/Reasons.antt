-- Why a line means nothing: by the first word that is no number where a number or a place may stand, or by
-- what such a line needs.
use Rattle.std.specs.Prelude.{ℕ, Bool, false, ◌==◌, ◌||◌, List, [], ◌∷◌, ◌++◌, codes, Option, Some, None, if◌then◌else◌}
use Rattle.std.specs.Int.{is_in_range}
use Rattle.command_shell_lines.specs.Requests.{words}
use Rattle.debug_labels.specs.Labels.{ImageLabels}
use Rattle.debug_labels.specs.Lines.{LineNaming, line_with_numbers, unnumbered_word}
use Rattle.debug_labels.specs.Views.{no_label_text}
use Rattle.command_shell_lines.specs.debug_words.Forms.{form_of_line}

-- A word that is meant as a number begins with a digit, `&` (38), `-` (45), `$` (36) or `#` (35).
abbrev pub is_meant_as_number : List ℕ → Bool
is_meant_as_number [] = false
is_meant_as_number (b ∷ rest) =
    is_in_range 48 57 b || (b == 38 || (b == 45 || (b == 36 || b == 35)))

-- One that is meant as a label begins with a letter or `_` (95).
abbrev pub is_meant_as_label : List ℕ → Bool
is_meant_as_label [] = false
is_meant_as_label (b ∷ rest) = is_in_range 65 90 b || (is_in_range 97 122 b || b == 95)

-- what such a line needs, if there is such a line
abbrev pub form_text : Option (List ℕ) → List ℕ
form_text (Some form) = form
form_text None = codes "no such line; HELP lists them"

-- by the first word, if any, that is no number where a number or a place may stand
abbrev pub reason_by_word : List ImageLabels → List ℕ → Option (List ℕ) → List ℕ
reason_by_word labels form None = form
reason_by_word labels form (Some word) =
    if is_meant_as_number word then word ++ codes ": numbers are 16 or &10, below 2^32" else (
    if is_meant_as_label word then no_label_text labels word else
    form)

-- why a tidy line is none of the language
abbrev pub refusal_reason : LineNaming → List ℕ → List ℕ
refusal_reason n line =
    reason_by_word n.names.labels (form_text (form_of_line (words line)))
    (unnumbered_word (words (line_with_numbers n line)))
