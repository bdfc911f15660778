-- What the user is shown of a command line whose options are there, but have no number, or sizes
-- that no machine can have.
use Rattle.std.specs.Prelude.{ℕ, ◌+◌, ◌-◌, ◌^◌, ◌==◌, nat_lt, List, [], ◌++◌, is_none, codes, if◌then◌else◌, unwrap_or, IfSome, ◌≡◌}
use Rattle.std.specs.Fmt.{debug_str, decimal}
use Rattle.clap.specs.Words.{Row, first_of}
use Rattle.rosm_settings.specs.command_line.Settings.{option_number}

-- too few pages: those of app and rma, and three of the system's own
abbrev pub few_pages_text : ℕ → ℕ → ℕ → List ℕ
few_pages_text pages app rma =
    codes "--pages is at least app + rma + " ++ (decimal 3 ++ (codes ", " ++ (decimal (app + rma + 3)
    ++ (codes " by --app " ++ (decimal app ++ (codes " and --rma "
    ++ (decimal rma ++ (codes ", not " ++ decimal pages))))))))

-- the first size that can't be, and by what rule
abbrev pub bad_size_text : ℕ → ℕ → ℕ → List ℕ
bad_size_text pages app rma =
    if app == 0 then codes "--app is at least 1, not 0" else (
    if rma == 0 then codes "--rma is at least 1, not 0" else (
    if nat_lt 1024 pages then codes "--pages is at most "
    ++ (decimal 1024 ++ (codes ", not " ++ decimal pages)) else
    few_pages_text pages app rma))

-- the number of an option, or 0 where it has none
abbrev pub size_or_0 : List Row → List ℕ → ℕ
size_or_0 rows name = unwrap_or (option_number 32 rows name) 0

abbrev pub sizes_text : List Row → List ℕ
sizes_text rows = bad_size_text (size_or_0 rows (codes "pages")) (size_or_0 rows (codes "app"))
    (size_or_0 rows (codes "rma"))

-- the text of an option, or nothing where it has none
abbrev pub option_text_of : List Row → List ℕ → List ℕ
option_text_of rows name = unwrap_or (first_of name rows) []

-- An option whose text is no number of at most so much; the text is quoted, where it is of ASCII
-- characters alone.
abbrev pub ShowsBadNumber : List Row → List ℕ → ℕ → List ℕ → Type 0
ShowsBadNumber rows name most reported = IfSome (debug_str (option_text_of rows name)) (λ quoted.
    reported ≡ codes "--" ++ (name ++ (codes " takes a number N of at most "
    ++ (decimal most ++ (codes ", not " ++ quoted)))))

-- an option by its name, and the largest number that it takes
pub record Limit : Type 0 where
  pub name : List ℕ
  pub most : ℕ

abbrev pub size_limit : List ℕ → Limit
size_limit name = record { name = name; most = 2 ^ 32 - 1 }

-- the first of the options that has no number
abbrev pub wrong_option : List Row → Limit
wrong_option rows =
    if is_none (option_number 32 rows (codes "pages")) then size_limit (codes "pages") else (
    if is_none (option_number 32 rows (codes "app")) then size_limit (codes "app") else (
    if is_none (option_number 32 rows (codes "rma")) then size_limit (codes "rma") else
    record { name = codes "budget"; most = 2 ^ 64 - 1 }))

abbrev pub ShowsNumber : List Row → List ℕ → Type 0
ShowsNumber rows reported = ShowsBadNumber rows (wrong_option rows).name (wrong_option rows).most reported
