-- Parts of a line: what follows an opening, a text between quotes, the value of a byte.
use Rattle.std.specs.Prelude.{ℕ, ◌-◌, ◌==◌, ◌&&◌, nat_le, nat_lt, List, [], length, take, drop, slice_index, Option, Some, None, if◌then◌else◌}
use Rattle.std.specs.List.{position}
use Rattle.command_shell_lines.specs.Numbers.{script_number}
use Rattle.command_shell_lines.specs.Requests.{is_same_word}

-- what follows an opening, if a byte does; the opening's letters may be in either case
abbrev pub text_behind : List ℕ → List ℕ → Option (List ℕ)
text_behind opening line =
    if nat_lt (length opening) (length line) && is_same_word (take (length opening) line) opening
    then Some (drop (length opening) line) else None

-- a text in double quotes (34): what stands between the first byte and the last
abbrev pub between_quotes : List ℕ → Option (List ℕ)
between_quotes text =
    if nat_le 2 (length text) && (slice_index text 0 == 34 && slice_index text (length text - 1) == 34)
    then Some (take (length text - 2) (drop 1 text)) else None

abbrev pub of_a_byte : Option ℕ → Option ℕ
of_a_byte (Some n) = if nat_lt n 256 then Some n else None
of_a_byte None = None

-- the value of a byte
abbrev pub byte_value : List ℕ → Option ℕ
byte_value word = of_a_byte (script_number word)

-- what stands before the first double quote (34) of a line, and the rest from it on
abbrev pub front_before : Option ℕ → List ℕ → List ℕ
front_before (Some place) line = take place line
front_before None line = line

abbrev pub quote_onward : Option ℕ → List ℕ → List ℕ
quote_onward (Some place) line = drop place line
quote_onward None line = []

abbrev pub before_quote : List ℕ → List ℕ
before_quote line = front_before (position (λ b. b == 34) line) line

abbrev pub from_quote : List ℕ → List ℕ
from_quote line = quote_onward (position (λ b. b == 34) line) line
