-- Bytes as they stand in XML, and how they are read back from there.
use Rattle.std.specs.Prelude.{ℕ, suc, zero, ◌+◌, ◌-◌, ◌*◌, ◌/◌, ◌%◌, ◌==◌, ◌||◌, ◌&&◌, Bool, not, nat_lt, List, [], ◌∷◌, length, drop, if◌then◌else◌}
use Rattle.std.specs.List.{flat_map, list_all}
use Rattle.profile.specs.Digits.{hex_digit}

-- a line feed, and the characters from a space to `~`
abbrev pub is_shown : ℕ → Bool
is_shown byte = (byte == 10) || (nat_lt 31 byte && nat_lt byte 127)

-- `<`, `>`, `&` and `"`, which XML would take for its own
abbrev pub is_markup : ℕ → Bool
is_markup byte = (byte == 60) || ((byte == 62) || ((byte == 38) || (byte == 34)))

-- `&#x3C;`
abbrev pub reference : ℕ → List ℕ
reference byte = 38 ∷ 35 ∷ 120 ∷ hex_digit (byte / 16) ∷ hex_digit (byte % 16) ∷ 59 ∷ []

-- `&lang;1B&rang;`
abbrev pub mark : ℕ → List ℕ
mark byte = 38 ∷ 108 ∷ 97 ∷ 110 ∷ 103 ∷ 59 ∷ hex_digit (byte / 16) ∷ hex_digit (byte % 16)
    ∷ 38 ∷ 114 ∷ 97 ∷ 110 ∷ 103 ∷ 59 ∷ []

abbrev pub escaped_byte : ℕ → List ℕ
escaped_byte byte = if is_markup byte then reference byte
    else (if is_shown byte then byte ∷ [] else mark byte)

abbrev pub escaped_bytes : List ℕ → List ℕ
escaped_bytes bytes = flat_map escaped_byte bytes

-- no `<` stands there
abbrev pub has_no_tag : List ℕ → Bool
has_no_tag text = list_all (λ c. not (c == 60)) text

-- the value of a digit in hexadecimal, in capitals
abbrev pub hex_value : ℕ → ℕ
hex_value digit = if nat_lt digit 58 then digit - 48 else digit - 55

abbrev pub first_byte : List ℕ → ℕ
first_byte [] = 0
first_byte (c ∷ rest) = c

-- the byte whose two digits stand that far on
abbrev pub byte_of_digits_at : ℕ → List ℕ → ℕ
byte_of_digits_at place text = 16 * hex_value (first_byte (drop place text)) + hex_value
    (first_byte (drop (place + 1) text))

-- The bytes that a text of so many characters at most shows, where every `&` begins a reference by
-- a number or a mark.
unfoldable pub shown_in : ℕ → List ℕ → List ℕ
shown_in zero text = []
shown_in (suc most) [] = []
shown_in (suc most) (c ∷ rest) =
    if c == 38 then (
    if first_byte rest == 35 then byte_of_digits_at 2 rest ∷ shown_in most (drop 5 rest) else
    byte_of_digits_at 5 rest ∷ shown_in most (drop 13 rest))
    else c ∷ shown_in most rest

unfoldable pub unescaped_bytes : List ℕ → List ℕ
unescaped_bytes text = shown_in (length text) text

-- numbers that bytes can be
abbrev pub are_bytes : List ℕ → Bool
are_bytes bytes = list_all (λ b. nat_lt b 256) bytes
