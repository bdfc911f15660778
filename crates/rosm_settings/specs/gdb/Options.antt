-- The words of the subcommand: `--script` with the path that follows it, `--stay`, and all others, which are the
-- words of `rosm`.
use Rattle.std.specs.Prelude.{ℕ, ◌-◌, ◌^◌, take, Bool, true, false, not, ◌&&◌, ◌||◌, List, [], ◌∷◌, Option, Some, None, codes, if◌then◌else◌}
use Rattle.std.specs.Str.{bytes_eq}
use Rattle.rosm_settings.specs.declared.gdb.options.GdbWord.{GdbWord}
use Rattle.rosm_settings.specs.declared.gdb.options.GdbWord.TheVariants as taken

abbrev pub asks_start : List ℕ → Bool
asks_start word = bytes_eq word (codes "--script")

-- what the word after one is taken for; after a word `--` all are files
abbrev pub gdb_word_after : GdbWord → List ℕ → GdbWord
gdb_word_after taken.Option word =
    if asks_start word then taken.Path else (if bytes_eq word (codes "--") then taken.File else taken.Option)
gdb_word_after taken.Path word = taken.Option
gdb_word_after taken.File word = taken.File

-- whether a word is one of `rosm`'s
abbrev pub is_machine_word : GdbWord → List ℕ → Bool
is_machine_word taken.Option word = not (asks_start word) && not (bytes_eq word (codes "--stay"))
is_machine_word taken.Path word = false
is_machine_word taken.File word = true

-- whether a word asks that the program's end be stayed at, and whether one of some does
abbrev pub asks_to_stay : GdbWord → List ℕ → Bool
asks_to_stay taken.Option word = bytes_eq word (codes "--stay")
asks_to_stay taken.Path word = false
asks_to_stay taken.File word = false

abbrev pub stays_from : GdbWord → List (List ℕ) → Bool
stays_from t [] = false
stays_from t (word ∷ rest) = asks_to_stay t word || stays_from (gdb_word_after t word) rest

abbrev pub stays_wanted : List (List ℕ) → Bool
stays_wanted words = stays_from taken.Option words

abbrev pub and_machine_word : Bool → List ℕ → List (List ℕ) → List (List ℕ)
and_machine_word true word more = word ∷ more
and_machine_word false word more = more

-- the words of `rosm`, in order
abbrev pub machine_words_from : GdbWord → List (List ℕ) → List (List ℕ)
machine_words_from t [] = []
machine_words_from t (word ∷ rest) =
    and_machine_word (is_machine_word t word) word (machine_words_from (gdb_word_after t word) rest)

abbrev pub and_start_path : GdbWord → List ℕ → List (List ℕ) → List (List ℕ)
and_start_path taken.Path word more = word ∷ more
and_start_path taken.Option word more = more
and_start_path taken.File word more = more

-- whether a word is the path of a script
abbrev pub is_start_path : GdbWord → Bool
is_start_path taken.Path = true
is_start_path taken.Option = false
is_start_path taken.File = false

-- the paths of scripts, in order
abbrev pub start_paths_from : GdbWord → List (List ℕ) → List (List ℕ)
start_paths_from t [] = []
start_paths_from t (word ∷ rest) = and_start_path t word (start_paths_from (gdb_word_after t word) rest)

-- what a word after the last one would be taken for
abbrev pub last_gdb_word : GdbWord → List (List ℕ) → GdbWord
last_gdb_word t [] = t
last_gdb_word t (word ∷ rest) = last_gdb_word (gdb_word_after t word) rest

abbrev pub machine_words : List (List ℕ) → List (List ℕ)
machine_words words = machine_words_from taken.Option words

abbrev pub start_paths : List (List ℕ) → List (List ℕ)
start_paths words = start_paths_from taken.Option words

-- the script of the first lines, where there is one; none is wrong, and so is one after another
abbrev pub one_start_path : List (List ℕ) → Option (Option (List ℕ))
one_start_path [] = Some None
one_start_path (path ∷ []) = Some (Some path)
one_start_path (path ∷ again ∷ more) = None

-- a path is missing after a last word `--script`
abbrev pub unless_path_lacks : GdbWord → Option (Option (List ℕ)) → Option (Option (List ℕ))
unless_path_lacks taken.Path path = None
unless_path_lacks taken.Option path = path
unless_path_lacks taken.File path = path

-- the path of the script that is asked for; none where the words can't be
abbrev pub start_path_wanted : List (List ℕ) → Option (Option (List ℕ))
start_path_wanted words = unless_path_lacks (last_gdb_word taken.Option words)
    (one_start_path (start_paths words))

-- whether one of the words before `--` sets the budget
abbrev pub sets_budget : List ℕ → Bool
sets_budget word = bytes_eq (take 8 word) (codes "--budget")

abbrev pub any_sets_budget : List (List ℕ) → Bool
any_sets_budget [] = false
any_sets_budget (word ∷ rest) =
    if bytes_eq word (codes "--") then false else (if sets_budget word then true else any_sets_budget rest)

-- How many steps a run may take: as many as can be counted, unless the words set a budget.
abbrev pub most_wanted : List (List ℕ) → ℕ → ℕ
most_wanted words budget = if any_sets_budget words then budget else 2 ^ 64 - 1
