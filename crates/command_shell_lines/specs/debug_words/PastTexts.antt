-- Texts of what was done before.
use Rattle.std.specs.Prelude.{ℕ, ◌-◌, ◌++◌, nat_lt, length, take, List, [], codes, if◌then◌else◌}
use Rattle.std.specs.Fmt.{decimal}
use Rattle.assembler_text.specs.Digits.{hex_word}

abbrev pub no_history_text : List ℕ
no_history_text = codes "refused NoHistory\n"

-- where the machine stands, without its end, and the step that comes next
abbrev pub text_with_step : List ℕ → ℕ → List ℕ
text_with_step place step =
    take (length place - 1) place ++ (codes " step " ++ (decimal step ++ codes "\n"))

-- `step 36`, or `step 36 of 39` where three steps lie ahead
abbrev pub when_text : ℕ → ℕ → List ℕ
when_text steps all = codes "step " ++ (decimal steps
    ++ ((if nat_lt steps all then codes " of " ++ decimal all else []) ++ codes "\n"))

-- `undone line 14, at step 0`
abbrev pub undone_text : ℕ → ℕ → List ℕ
undone_text line steps =
    codes "undone line " ++ (decimal line ++ (codes ", at step " ++ (decimal steps ++ codes "\n")))

-- `[00009020]=`
abbrev pub address_text : ℕ → List ℕ
address_text address = codes "[" ++ (hex_word address ++ codes "]=")
