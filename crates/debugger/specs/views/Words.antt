-- Memory as words: lines of four, each line with the address of its first word. A word is eight
-- hexadecimal digits after a space, or `--------` where no memory is mapped. The first word is the
-- one that holds the byte at an address. Addresses count modulo 2^32.
use Rattle.std.specs.Prelude.{ℕ, zero, suc, ◌+◌, ◌-◌, ◌/◌, ◌++◌, min, List, [], codes, Result, Ok, Err}
use Rattle.assembler_text.specs.Digits.{hex_word}
use Rattle.swi_dispatch_guest.specs.Fault.{Fault}
use Rattle.swi_dispatch_guest.specs.Bytes.{Bytes, word_loaded, word_start}
use Rattle.swi_dispatch_guest.specs.Sums.{address_further}

abbrev pub word_or_dashes : Result ℕ Fault → List ℕ
word_or_dashes (Ok word) = hex_word word
word_or_dashes (Err fault) = codes "--------"

abbrev pub spaced_word_text : Bytes → ℕ → List ℕ
spaced_word_text b address = codes " " ++ word_or_dashes (word_loaded b address)

-- so many words, the first of them at the address
unfoldable pub spaced_words_text : Bytes → ℕ → ℕ → List ℕ
spaced_words_text b address zero = []
spaced_words_text b address (suc count) =
    spaced_word_text b address ++ spaced_words_text b (address_further address 4) count

-- `00008008: 00000000 00000000 E2800001 EAFFFFFD`
abbrev pub words_line : Bytes → ℕ → ℕ → List ℕ
words_line b address count =
    hex_word address ++ (codes ":" ++ (spaced_words_text b address count ++ codes "\n"))

-- so many lines, the last of them with what is left of the words
unfoldable pub words_lines : ℕ → Bytes → ℕ → ℕ → List ℕ
words_lines zero b address count = []
words_lines (suc lines) b address count =
    words_line b address (min count 4) ++ words_lines lines b (address_further address 16) (count - 4)

-- `count` words, the first of them at the address
unfoldable pub memory_words_text_at : Bytes → ℕ → ℕ → List ℕ
memory_words_text_at b address count = words_lines ((count + 3) / 4) b address count

-- `count` words from the one that holds the byte at the address on
abbrev pub memory_words_text : Bytes → ℕ → ℕ → List ℕ
memory_words_text b address count = memory_words_text_at b (word_start address) count
