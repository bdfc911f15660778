-- The program's command line: `rosm [--pages N] [--app N] [--rma N] [--budget N] [FILE...]`, and
-- what it asks for. Which words go to which option, and which are files, is clap's definition of
-- the matches of a command.
use Rattle.std.specs.Prelude.{ℕ, ◌^◌, ◌&&◌, Bool, true, false, List, [], ◌∷◌, length, nat_lt, Option, Some, None, Result, Ok, Err, if◌then◌else◌, codes, unwrap_or, option_and_then}
use Rattle.std.specs.List.{list_all}
use Rattle.std.specs.Option.{ok_or}
use Rattle.std.specs.Char.{digit_value}
use Rattle.std.specs.Str.Parse.{digits_value, without_leading_plus}
use Rattle.profile.specs.Outcome.{bind}
use Rattle.profile.specs.Sizes.{config_of}
use Rattle.clap.specs.Words.{App, Kinds, Row, Rule, all_of, fault_of, first_of, matches_of, new_app, new_rule, with_rule}
use Rattle.clap.specs.declared.builder.action.ArgAction.TheVariants.{Append}
use Rattle.clap.specs.declared.error.kind.ErrorKind.{ErrorKind}
use Rattle.clap.specs.declared.error.kind.ErrorKind.TheVariants.{OutOfMemory}
use Rattle.rosm_settings.specs.declared.command_line.options.Settings.{Settings}
use Rattle.rosm_settings.specs.declared.command_line.options.SettingsError.{SettingsError}
use Rattle.rosm_settings.specs.declared.command_line.options.SettingsError.TheVariants as refused

-- `--name N`, once at most, with a default; N is the one name of its value
abbrev pub option_rule : List ℕ → List ℕ → Rule
option_rule name default = record (new_rule name) {
  long = Some name;
  value_names = 1;
  defaults = default ∷ [];
}

-- a word that belongs to no option, as often as one likes
abbrev pub file_rule : Rule
file_rule = record (new_rule (codes "file")) { action = Some Append }

unfoldable pub rosm : App
rosm = with_rule (with_rule (with_rule (with_rule (with_rule (new_app (codes "rosm"))
    (option_rule (codes "pages") (codes "256")))
    (option_rule (codes "app") (codes "64")))
    (option_rule (codes "rma") (codes "16")))
    (option_rule (codes "budget") (codes "1000000")))
    file_rule

-- what the words give to each option and to the files; the first word is the program's name
unfoldable pub rows_for : List (List ℕ) → List Row
rows_for words = matches_of rosm words

abbrev pub is_empty : Kinds → Bool
is_empty [] = true
is_empty (kind ∷ more) = false

-- the words name only what there is, no option twice and none without its value, and ask for no
-- help
unfoldable pub is_line : List (List ℕ) → Bool
is_line words = is_empty (fault_of rosm words)

-- clap's refusals but for want of memory are all one here
abbrev pub is_memory : ErrorKind → Bool
is_memory OutOfMemory = true
is_memory _ = false

abbrev pub refusal_of : ErrorKind → SettingsError
refusal_of kind = if is_memory kind then refused.Memory else refused.Line

-- decimal digits of a number below 2 to the power of `bits`
abbrev pub is_numeral : ℕ → List ℕ → Bool
is_numeral bits digits =
    nat_lt 0 (length digits) && list_all (λ d. nat_lt (digit_value d) 10) digits
    && nat_lt (digits_value 10 digits) (2 ^ bits)

-- the number that a text spells, perhaps with a plus before it
unfoldable pub number_of_option : ℕ → List ℕ → Option ℕ
number_of_option bits text =
    let digits = without_leading_plus text in
    if is_numeral bits digits then Some (digits_value 10 digits) else None

-- the number of an option: that of its word, or of its default where the words don't have the
-- option
unfoldable pub option_number : ℕ → List Row → List ℕ → Option ℕ
option_number bits rows name = option_and_then (number_of_option bits) (first_of name rows)

-- the files, in the order of the words
unfoldable pub files_in : List Row → List (List ℕ)
files_in rows = unwrap_or (all_of (codes "file") rows) []

-- the sizes are looked at once all four numbers are read
unfoldable pub settings_in : List Row → Result Settings SettingsError
settings_in rows =
    bind (ok_or (option_number 32 rows (codes "pages")) refused.Line) (λ pages.
    bind (ok_or (option_number 32 rows (codes "app")) refused.Line) (λ app.
    bind (ok_or (option_number 32 rows (codes "rma")) refused.Line) (λ rma.
    bind (ok_or (option_number 64 rows (codes "budget")) refused.Line) (λ budget.
    bind (ok_or (config_of pages app rma) refused.Sizes) (λ sizes.
    Ok (record { config = sizes; budget = budget; files = files_in rows }))))))

-- what the words ask for, or why they are refused
unfoldable pub settings_for : List (List ℕ) → Result Settings SettingsError
settings_for words = if is_line words then settings_in (rows_for words) else Err refused.Line
