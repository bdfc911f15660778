-- What the words after a command stand for: a register that a script can set, the address of a
-- word, a count.
use Rattle.std.specs.Prelude.{ℕ, ◌-◌, ◌%◌, ◌^◌, ◌==◌, ◌&&◌, nat_le, nat_lt, List, [], ◌∷◌, Option, Some, None, if◌then◌else◌}
use Rattle.std.specs.Int.{is_in_range}
use Rattle.command_shell_lines.specs.Numbers.{script_number}

-- `R0` to `R14`, with a capital letter (82) and no leading zero
abbrev pub cpu_register_named : List ℕ → Option ℕ
cpu_register_named (letter ∷ digit ∷ []) = if letter == 82 && is_in_range 48 57 digit then Some (digit - 48)
    else None
cpu_register_named (letter ∷ one ∷ digit ∷ []) =
    if letter == 82 && (one == 49 && is_in_range 48 52 digit) then Some (digit - 38) else None
cpu_register_named _ = None

abbrev pub of_a_word : Option ℕ → Option ℕ
of_a_word (Some a) = if a % 4 == 0 then Some a else None
of_a_word None = None

-- the address of a word, a multiple of 4
abbrev pub word_address : List ℕ → Option ℕ
word_address text = of_a_word (script_number text)

abbrev pub of_an_origin : Option ℕ → Option ℕ
of_an_origin (Some a) = if nat_lt a (2 ^ 26) then Some a else None
of_an_origin None = None

-- where a program can be assembled: the address of a word below 2^26
abbrev pub origin_of : List ℕ → Option ℕ
origin_of text = of_an_origin (word_address text)

abbrev pub of_a_count : ℕ → Option ℕ → Option ℕ
of_a_count most (Some n) = if nat_le 1 n && nat_le n most then Some n else None
of_a_count most None = None

-- a number from 1 to the most
abbrev pub count_up_to : ℕ → List ℕ → Option ℕ
count_up_to most text = of_a_count most (script_number text)
