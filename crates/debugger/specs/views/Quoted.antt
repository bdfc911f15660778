-- Bytes as a text between double quotes: characters from a space to `~` stand for themselves, but
-- `"` and a backslash have a backslash before them; a line feed is `\n`, a carriage return `\r`, a
-- tab `\t`, and any other byte `\x` with its two hexadecimal digits.
use Rattle.std.specs.Prelude.{ℕ, ◌==◌, ◌||◌, List, [], ◌∷◌, ◌++◌, codes, if◌then◌else◌}
use Rattle.std.specs.List.{flat_map}
use Rattle.std.specs.Int.{is_in_range}
use Rattle.debugger.specs.Memory.{hex_byte}

abbrev pub quoted_byte_text : ℕ → List ℕ
quoted_byte_text byte =
    if byte == 10 then codes "\\n" else (
    if byte == 13 then codes "\\r" else (
    if byte == 9 then codes "\\t" else (
    if byte == 34 || byte == 92 then 92 ∷ byte ∷ [] else (
    if is_in_range 32 126 byte then byte ∷ [] else
    codes "\\x" ++ hex_byte byte))))

abbrev pub quoted_text : List ℕ → List ℕ
quoted_text bytes = codes "\"" ++ (flat_map quoted_byte_text bytes ++ codes "\"")
