-- The line of what is done from outside.
use Rattle.std.specs.Prelude.{ℕ, List, ◌++◌, codes}
use Rattle.profile.specs.Digits.{hex_number}
use Rattle.trace_effects.specs.Columns.{columns_text}

-- A call from outside: `CALL &1D` and the call's words, `LOAD name text` and those of OS_Module 1.
abbrev pub outside_line : List ℕ → List ℕ → List ℕ
outside_line text words = columns_text (codes "-------- -------- ") text words

abbrev pub calling_text : ℕ → List ℕ
calling_text number = codes "CALL &" ++ hex_number number

abbrev pub loading_text : List ℕ → List ℕ
loading_text words = codes "LOAD " ++ words
