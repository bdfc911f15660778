-- Words behind a command's name: a space (32) parts them, but for one between double quotes (34).
use Rattle.std.specs.Prelude.{ℕ, Bool, not, ◌+◌, ◌==◌, ◌&&◌, ◌||◌, List, [], ◌∷◌, if◌then◌else◌}

abbrev pub parts_words : Bool → ℕ → Bool
parts_words in_quotes byte = byte == 32 && not in_quotes

abbrev pub quotes_behind : Bool → ℕ → Bool
quotes_behind in_quotes byte = if byte == 34 then not in_quotes else in_quotes

-- 1 where a word begins at a byte
abbrev pub words_begun : Bool → Bool → ℕ → ℕ
words_begun in_word in_quotes byte = if in_word || parts_words in_quotes byte then 0 else 1

-- how many begin in a text that goes on within a word or not, and between quotes or not
unfoldable pub tail_words : Bool → Bool → List ℕ → ℕ
tail_words in_word in_quotes [] = 0
tail_words in_word in_quotes (byte ∷ rest) = words_begun in_word in_quotes byte
    + tail_words (not (parts_words in_quotes byte)) (quotes_behind in_quotes byte) rest
