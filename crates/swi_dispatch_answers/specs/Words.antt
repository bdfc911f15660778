-- A string of a name and a text: the name ends before the first space, and the text is what follows
-- all spaces there (RISC OS 3 Programmer's Reference Manual, "OS_Module", reasons 0, 1, 3 and 14).
use Rattle.std.specs.Prelude.{ℕ, Bool, not, ◌==◌, nat_lt, nat_le, List, [], length, take, drop, Option, Some, None, if◌then◌else◌}
use Rattle.std.specs.List.{position}

abbrev pub is_space : ℕ → Bool
is_space byte = byte == 32

abbrev pub is_byte_of_word : ℕ → Bool
is_byte_of_word byte = not (is_space byte)

-- what stands before a place, and what stands from it on; where there is no place, all and nothing
abbrev pub before_place : List ℕ → Option ℕ → List ℕ
before_place words None = words
before_place words (Some place) = take place words

abbrev pub from_place : List ℕ → Option ℕ → List ℕ
from_place words None = []
from_place words (Some place) = drop place words

abbrev pub without_spaces : List ℕ → List ℕ
without_spaces words = from_place words (position is_byte_of_word words)

abbrev pub name_part : List ℕ → List ℕ
name_part words = before_place words (position is_space words)

abbrev pub text_part : List ℕ → List ℕ
text_part words = without_spaces (from_place words (position is_space words))

-- A string that a host gives ends before its first control byte, and has 255 bytes at most.
abbrev pub is_control : ℕ → Bool
is_control byte = nat_lt byte 32

abbrev pub up_to_control : List ℕ → List ℕ
up_to_control text = before_place text (position is_control text)

abbrev pub host_string : List ℕ → Option (List ℕ)
host_string text = if nat_le (length (up_to_control text)) 255 then Some (up_to_control text) else None
