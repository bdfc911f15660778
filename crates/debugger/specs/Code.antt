-- Memory as instructions: a line for each word, with its address, its eight digits and its text; or
-- a word that isn't mapped. Addresses count modulo 2^32.
use Rattle.std.specs.Prelude.{ℕ, zero, suc, ◌+◌, ◌%◌, ◌^◌, List, [], ◌++◌, codes, Result, Ok, Err}
use Rattle.assembler_text.specs.Digits.{hex_word}
use Rattle.swi_dispatch_guest.specs.Fault.{Fault}
use Rattle.swi_dispatch_guest.specs.Bytes.{Bytes, word_loaded}
use Rattle.assembler_text.specs.Printing.{print}

abbrev pub line_address_text : ℕ → List ℕ
line_address_text a = hex_word a ++ codes " "

-- `E3A00001 MOV R0,#&1`
abbrev pub word_text : ℕ → ℕ → List ℕ
word_text a w = hex_word w ++ (codes " " ++ (print w a ++ codes "\n"))

abbrev pub word_or_unmapped : ℕ → Result ℕ Fault → List ℕ
word_or_unmapped a (Ok w) = word_text a w
word_or_unmapped a (Err f) = codes "-------- unmapped\n"

abbrev pub code_line : Bytes → ℕ → List ℕ
code_line b a = line_address_text a ++ word_or_unmapped a (word_loaded b a)

-- the lines of so many words from an address on
abbrev pub code_text : Bytes → ℕ → ℕ → List ℕ
code_text b a zero = []
code_text b a (suc n) = code_line b a ++ code_text b ((a + 4) % 2 ^ 32) n
