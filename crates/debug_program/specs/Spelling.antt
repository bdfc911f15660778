-- The text of a transcript, which a program can run again and compare.
use Rattle.std.specs.Prelude.{ℕ, ◌/◌, ◌%◌, ◌==◌, ◌&&◌, ◌||◌, Bool, nat_lt, List, [], ◌∷◌, ◌++◌, codes, if◌then◌else◌}
use Rattle.profile.specs.Digits.{hex_digit}
use Rattle.debug_program.specs.declared.spelling.Side.{Side}
use Rattle.debug_program.specs.declared.spelling.Side.TheVariants as side

-- a line feed, and the characters from a space to `~`
abbrev pub is_shown : ℕ → Bool
is_shown byte = (byte == 10) || (nat_lt 31 byte && nat_lt byte 127)

-- `\\` `\r` `\t` `\x1B`, and a character to show or a line feed as it is
abbrev pub spelt_byte : ℕ → List ℕ
spelt_byte byte =
    if byte == 92 then codes "\\\\" else (
    if byte == 13 then codes "\\r" else (
    if byte == 9 then codes "\\t" else (
    if is_shown byte then byte ∷ [] else
    92 ∷ 120 ∷ hex_digit (byte / 16) ∷ hex_digit (byte % 16) ∷ [])))

-- `#`, `$`, `>`, `=` and `!`, which mean something at the front of a line
abbrev pub has_meaning : ℕ → Bool
has_meaning byte = (byte == 35) || ((byte == 36) || ((byte == 62) || ((byte == 61) || (byte == 33))))

-- what stands before the first byte of a line
abbrev pub first_sign : Side → ℕ → List ℕ
first_sign side.Typed byte = if byte == 10 then codes ">" else codes "> "
first_sign side.Reported byte = if has_meaning byte then codes "\\" else []

-- what stands before a byte
abbrev pub sign_of : Side → Bool → ℕ → List ℕ
sign_of s is_first byte = if is_first then first_sign s byte else []

abbrev pub spelt_in : Side → Bool → ℕ → List ℕ
spelt_in s is_first byte = sign_of s is_first byte ++ spelt_byte byte

-- after a line without an end
abbrev pub end_text : Bool → List ℕ
end_text is_first = if is_first then [] else codes "\\\n"

-- a text from a byte on, which is the first of its line or isn't
abbrev pub spelt_from : Side → Bool → List ℕ → List ℕ
spelt_from s is_first [] = end_text is_first
spelt_from s is_first (byte ∷ rest) = spelt_in s is_first byte ++ spelt_from s (byte == 10) rest
