-- Bytes that a line names: those of a word by its value, `5`, the lowest first; those of a text, `"Heap\n"`;
-- or bytes one by one, `BYTES 1 2 &FF`. At least one byte is named.
use Rattle.std.specs.Prelude.{ℕ, zero, suc, ◌%◌, ◌==◌, List, [], ◌∷◌, ◌++◌, codes, length, slice_index, Option, Some, None, option_map, if◌then◌else◌}
use Rattle.std.specs.Int.{to_le_bytes, w32}
use Rattle.command_shell_lines.specs.HexPairs.{onto_bytes}
use Rattle.command_shell_lines.specs.Requests.{words}
use Rattle.command_shell_lines.specs.debug_words.Spelling.{spelt_bytes}
use Rattle.command_shell_lines.specs.debug_words.Texts.{between_quotes, byte_value, text_behind}
use Rattle.command_shell_lines.specs.debug_words.Values.{value_shown}

-- words that are numbers below 256, as bytes
abbrev pub bytes_of_words : List (List ℕ) → Option (List ℕ)
bytes_of_words [] = Some []
bytes_of_words (word ∷ rest) = onto_bytes (byte_value word) (bytes_of_words rest)

-- a text between quotes that has a byte at least
abbrev pub bytes_of_text : List ℕ → Option (List ℕ)
bytes_of_text [] = None
bytes_of_text (first ∷ rest) = spelt_bytes (first ∷ rest)

abbrev pub named_by : Option (List ℕ) → Option (List ℕ) → List ℕ → Option (List ℕ)
named_by (Some raw) list text = bytes_of_text raw
named_by None (Some list) text = bytes_of_words (words list)
named_by None None text = option_map (to_le_bytes w32) (value_shown text)

-- the bytes that a text names, if it names any
unfoldable pub named_bytes : List ℕ → Option (List ℕ)
named_bytes text = named_by (between_quotes text) (text_behind (codes "BYTES ") text) text

abbrev pub or_no_bytes : Option (List ℕ) → List ℕ
or_no_bytes (Some bytes) = bytes
or_no_bytes None = []

-- So many bytes: those of a pattern, again and again.
unfoldable pub fill_bytes : List ℕ → ℕ → List ℕ
fill_bytes pattern zero = []
fill_bytes pattern (suc n) = fill_bytes pattern n ++ slice_index pattern (n % length pattern) ∷ []

-- the bytes that a line writes: those that it names, or so many, by these again and again
abbrev pub bytes_written : Option ℕ → List ℕ → List ℕ
bytes_written count [] = []
bytes_written None (first ∷ rest) = first ∷ rest
bytes_written (Some count) (first ∷ rest) = fill_bytes (first ∷ rest) count
