-- Numbers that words of a line stand for beside those of a script: `-1`, and a SWI's by its name.
use Rattle.std.specs.Prelude.{ℕ, ◌-◌, ◌%◌, ◌^◌, ◌==◌, List, [], ◌∷◌, Option, None, option_map, if◌then◌else◌}
use Rattle.std.specs.Option.{option_or}
use Rattle.assembler_text.specs.naming.SwiNames.{swi_named}
use Rattle.command_shell_lines.specs.Numbers.{script_number}

-- a number, or one with `-` (45) before it, modulo 2^32
abbrev pub value_shown : List ℕ → Option ℕ
value_shown [] = None
value_shown (c ∷ rest) =
    if c == 45 then option_map (λ n. (2 ^ 32 - n) % 2 ^ 32) (script_number rest) else script_number (c ∷ rest)

-- a SWI's number, or the name of a store call, with X before it or without
abbrev pub swi_shown : List ℕ → Option ℕ
swi_shown word = option_or (script_number word) (swi_named word)
