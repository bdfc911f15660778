-- A tidy line with numbers in place of words that name places, or SWIs of loaded modules. Words are parted
-- by single spaces.
use Rattle.std.specs.Prelude.{ℕ, Bool, not, ◌+◌, ◌-◌, ◌||◌, nat_lt, List, [], ◌∷◌, ◌++◌, ◌&&◌, ◌==◌, codes, Option, Some, None, is_some, option_map, if◌then◌else◌}
use Rattle.std.specs.List.{join_with_byte}
use Rattle.profile.specs.Digits.{hex_number}
use Rattle.debugger.specs.Bytes.{Bytes}
use Rattle.assembler_text.specs.naming.Words.{after_word, is_same_name, word}
use Rattle.command_shell_lines.specs.Numbers.{script_number}
use Rattle.command_shell_lines.specs.Requests.{words}
use Rattle.command_shell_lines.specs.debug_words.Texts.{text_behind}
use Rattle.debug_labels.specs.ModuleSwis.{swi_of_modules}
use Rattle.debug_labels.specs.Words.{Naming, place_of_word}

-- lines of this word have places behind it
abbrev pub is_place_word : List ℕ → Bool
is_place_word word =
    is_same_name word (codes "BREAK") || is_same_name word (codes "UNBREAK")
    || is_same_name word (codes "MEM") || is_same_name word (codes "CODE")
    || is_same_name word (codes "HEAP") || is_same_name word (codes "POKE")
    || is_same_name word (codes "STEP") || is_same_name word (codes "WORDS")
    || is_same_name word (codes "GOSUB") || is_same_name word (codes "WATCH")
    || is_same_name word (codes "UNWATCH") || is_same_name word (codes "DUMP")
    || is_same_name word (codes "FILL") || is_same_name word (codes "FIND")

-- behind EXPECT, these have no places behind them
abbrev pub is_text_check : List ℕ → Bool
is_text_check word =
    is_same_name word (codes "FLAGS") || is_same_name word (codes "ANSWER")
    || is_same_name word (codes "LINE") || is_same_name word (codes "ERROR")
    || is_same_name word (codes "OUTPUT")

-- lines of these two words have places behind them
abbrev pub has_places_behind : List ℕ → List ℕ → Bool
has_places_behind word second =
    if is_same_name word (codes "SET") then not (is_same_name second (codes "PSR")) else (
    if is_same_name word (codes "EXPECT") then not (is_text_check second) else
    is_same_name word (codes "PUT"))

-- lines of these two words look for a place in the past, before which its size may stand
abbrev pub looks_back : List ℕ → List ℕ → Bool
looks_back word second =
    if is_same_name word (codes "BACK") then is_same_name second (codes "UNTIL") else (
    is_same_name word (codes "LAST") && (is_same_name second (codes "CHANGE")
    || is_same_name second (codes "CLAIM") || is_same_name second (codes "FREE")))

-- how many words stand as they are there
abbrev pub kept_by_size : List (List ℕ) → ℕ
kept_by_size (third ∷ others) =
    if is_same_name third (codes "WORD") || is_same_name third (codes "BYTE") then 3 else 2
kept_by_size [] = 2

-- a stub names a SWI, and behind AT a place
abbrev pub kept_by_at : List (List ℕ) → Option ℕ
kept_by_at (third ∷ others) = if is_same_name third (codes "AT") then Some 3 else None
kept_by_at [] = None

-- how many words stand as they are before those that may name places, if any may
abbrev pub kept_untraced : List (List ℕ) → Option ℕ
kept_untraced (word ∷ second ∷ others) =
    if is_place_word word then Some 1 else (
    if has_places_behind word second then Some 2 else (
    if looks_back word second then Some (kept_by_size others) else (
    if is_same_name word (codes "STUB") then kept_by_at others else
    None)))
kept_untraced _ = None

-- the same where TRACE may stand before the line
abbrev pub kept_words : List (List ℕ) → Option ℕ
kept_words [] = None
kept_words (word ∷ others) =
    if is_same_name word (codes "TRACE") then option_map (λ n. n + 1) (kept_untraced others)
    else kept_untraced (word ∷ others)

-- `&8004` in place of a word that names a place
abbrev pub number_or_word : List ℕ → Option ℕ → List ℕ
number_or_word word (Some value) = codes "&" ++ hex_number value
number_or_word word None = word

abbrev pub numbered_word : Naming → List ℕ → List ℕ
numbered_word n word = number_or_word word (place_of_word n word)

-- a word behind so many that stand as they are
abbrev pub word_behind : Naming → ℕ → List ℕ → List ℕ
word_behind n kept word = if nat_lt 0 kept then word else numbered_word n word

-- words, of which so many stand as they are
abbrev pub numbered_words : Naming → ℕ → List (List ℕ) → List (List ℕ)
numbered_words n kept [] = []
numbered_words n kept (word ∷ others) = word_behind n kept word ∷ numbered_words n (kept - 1) others

abbrev pub numbered_behind : Naming → List ℕ → Option ℕ → List ℕ
numbered_behind n line None = line
numbered_behind n line (Some kept) = join_with_byte 32 (numbered_words n kept (words line))

-- what lines are read by: what words are read by, and memory
pub record LineNaming : Type 0 where
  pub names : Naming
  pub bytes : Bytes

-- what stands before the name of a SWI, with `&`, and the name with what stands behind it
abbrev pub behind_front : List ℕ → Option (List ℕ) → Option (List ℕ × List ℕ) → Option (List ℕ × List ℕ)
behind_front front (Some named) others = Some (front, named)
behind_front front None others = others

abbrev pub before_swi : List ℕ → Option (List ℕ × List ℕ)
before_swi line =
    behind_front (codes "CALL &") (text_behind (codes "CALL ") line) (
    behind_front (codes "TRACE CALL &") (text_behind (codes "TRACE CALL ") line) (
    behind_front (codes "STUB &") (text_behind (codes "STUB ") line) (
    behind_front (codes "UNSTUB &") (text_behind (codes "UNSTUB ") line) None)))

-- the number of the SWI that a loaded module names so, and what stands behind the name
abbrev pub numbered_swi : List ℕ → List ℕ → List ℕ → Option ℕ → List ℕ
numbered_swi front named line (Some swi) = front ++ (hex_number swi ++ after_word named)
numbered_swi front named line None = line

abbrev pub swi_by_parts : LineNaming → List ℕ → Option (List ℕ × List ℕ) → List ℕ
swi_by_parts n line None = line
swi_by_parts n line (Some parts) =
    numbered_swi parts.0 parts.1 line (swi_of_modules n.bytes n.names.modules (word parts.1))

abbrev pub line_with_swi : LineNaming → List ℕ → List ℕ
line_with_swi n line = swi_by_parts n line (before_swi line)

-- a line with the numbers of the places that it names
abbrev pub line_with_places : Naming → List ℕ → List ℕ
line_with_places n line = numbered_behind n line (kept_words (words line))

-- what a line means: the line with the numbers
abbrev pub line_with_numbers : LineNaming → List ℕ → List ℕ
line_with_numbers n line = line_with_places n.names (line_with_swi n line)

-- BYTES stands before numbers.
abbrev pub is_number_or_bytes : List ℕ → Bool
is_number_or_bytes word = is_some (script_number word) || is_same_name word (codes "BYTES")

-- the first word behind so many that is no number
abbrev pub unnumbered_behind : ℕ → List (List ℕ) → Option (List ℕ)
unnumbered_behind kept [] = None
unnumbered_behind kept (word ∷ others) =
    if kept == 0 && not (is_number_or_bytes word) then Some word else unnumbered_behind (kept - 1) others

abbrev pub unnumbered_if : Option ℕ → List (List ℕ) → Option (List ℕ)
unnumbered_if None line = None
unnumbered_if (Some kept) line = unnumbered_behind kept line

-- the first word of a line that is no number where a number or a place may stand
abbrev pub unnumbered_word : List (List ℕ) → Option (List ℕ)
unnumbered_word line = unnumbered_if (kept_words line) line
