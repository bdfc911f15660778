-- The words of the program: its own, which are those that ask for a form, the name of a script,
-- `--script` with the path that follows it, and `-i`; and all others, which are the words of `rosm`.
use Rattle.std.specs.Prelude.{ℕ, ◌==◌, ◌||◌, ◌&&◌, not, Bool, true, false, List, [], ◌∷◌, Option, Some, None, codes, if◌then◌else◌}
use Rattle.std.specs.List.{ends_with, starts_with}
use Rattle.std.specs.Str.{bytes_eq}
use Rattle.debug_records.specs.DebugChecksReportForm.TheVariants as form
use Rattle.rosm_tools.specs.declared.debug.options.WantedForm.{WantedForm}
use Rattle.rosm_tools.specs.declared.debug.options.WantedForm.TheVariants as wanted
use Rattle.rosm_tools.specs.declared.debug.options.WordKind.{WordKind}
use Rattle.rosm_tools.specs.declared.debug.options.WordKind.TheVariants as kind

-- whether all words after one are files
abbrev pub is_dashes : List ℕ → Bool
is_dashes word = bytes_eq word (codes "--")

-- the form that a word asks for
abbrev pub form_named : List ℕ → Option WantedForm
form_named word =
    if bytes_eq word (codes "--tap") then Some (wanted.Lines form.Tap) else (
    if bytes_eq word (codes "--transcript") then Some wanted.Transcript else (
    if bytes_eq word (codes "--json") then Some wanted.Records else None))

-- whether a word names a script by its end, and is no option
abbrev pub is_script_name : List ℕ → Bool
is_script_name word =
    ends_with (λ a b. a == b) word (codes ".script") && not (starts_with (λ a b. a == b) word (codes "-"))

abbrev pub kind_of_other : List ℕ → WordKind
kind_of_other word =
    if bytes_eq word (codes "--script") then kind.Script else (
    if bytes_eq word (codes "-i") then kind.GoingOn else (
    if is_script_name word then kind.Path else kind.Other))

abbrev pub kind_by_form : Option WantedForm → List ℕ → WordKind
kind_by_form (Some wanted_form) word = kind.Form wanted_form
kind_by_form None word = kind_of_other word

abbrev pub kind_of_word : List ℕ → WordKind
kind_of_word word = kind_by_form (form_named word) word

-- what a word is, by whether `--` came before it, and whether the word before it was `--script`
abbrev pub kind_at : Bool → Bool → List ℕ → WordKind
kind_at are_files true word = kind.Path
kind_at are_files false word = if are_files then kind.Other else kind_of_word word

-- words by what they are, each list in order; whether a path is missing after the last, and whether
-- standard input is answered behind the script
pub record DebugWords : Type 0 where
  pub forms : List WantedForm
  pub paths : List (List ℕ)
  pub others : List (List ℕ)
  pub lacks_path : Bool
  pub goes_on : Bool

abbrev pub is_script_word : WordKind → Bool
is_script_word kind.Script = true
is_script_word _ = false

abbrev pub are_files_after : Bool → WordKind → List ℕ → Bool
are_files_after are_files kind.Other word = are_files || is_dashes word
are_files_after are_files _ word = are_files

abbrev pub with_debug_word : WordKind → List ℕ → DebugWords → DebugWords
with_debug_word (kind.Form wanted_form) word more = record more { forms = wanted_form ∷ more.forms }
with_debug_word kind.Script word more = more
with_debug_word kind.GoingOn word more = record more { goes_on = true }
with_debug_word kind.Path word more = record more { paths = word ∷ more.paths }
with_debug_word kind.Other word more = record more { others = word ∷ more.others }

unfoldable pub words_from : Bool → Bool → List (List ℕ) → DebugWords
words_from are_files after_script [] =
    record { forms = []; paths = []; others = []; lacks_path = after_script; goes_on = false }
words_from are_files after_script (word ∷ rest) =
    with_debug_word (kind_at are_files after_script word) word
    (words_from (are_files_after are_files (kind_at are_files after_script word) word)
    (is_script_word (kind_at are_files after_script word)) rest)

abbrev pub words_shown : List (List ℕ) → DebugWords
words_shown words = words_from false false words

-- the form that is wanted: one at most is asked for
abbrev pub form_of_all : List WantedForm → Option WantedForm
form_of_all [] = Some (wanted.Lines form.Answers)
form_of_all (asked ∷ []) = Some asked
form_of_all (asked ∷ again ∷ more) = None

-- whether standard input may be answered behind a script: there is one, and answers are written line by
-- line
abbrev pub may_go_on : WantedForm → Bool → Bool
may_go_on (wanted.Lines report_form) has_script = has_script
may_go_on wanted.Transcript has_script = false
may_go_on wanted.Records has_script = false
