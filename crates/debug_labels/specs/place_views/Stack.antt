-- The stack as text: the words from R13 of the present mode on, a line for each with its address,
-- up to the first that isn't mapped. R13's two lowest bits are left out, and addresses count modulo
-- 2^32. Behind a word stands what its bits 25 to 2 are the address of: the return gate, or a place
-- with a label in memory that is mapped.
use Rattle.std.specs.Prelude.{ℕ, zero, suc, ◌*◌, ◌/◌, ◌%◌, ◌^◌, ◌==◌, ◌++◌, List, [], codes, Result, Ok, Err, if◌then◌else◌}
use Rattle.profile.specs.Digits.{hex_word}
use Rattle.profile.specs.MemoryMap.{return_gate}
use Rattle.profile.specs.Fault.{Fault}
use Rattle.debugger.specs.Bytes.{Bytes, word_loaded, word_start}
use Rattle.debugger.specs.State.{State, register_of}
use Rattle.debug_labels.specs.Places.{place_of}
use Rattle.debug_labels.specs.Views.{spaced_place_text}
use Rattle.debug_labels.specs.Words.{Naming}
use Rattle.profile.specs.Sums.{address_further}

-- the address in a word's bits 25 to 2
abbrev pub stacked_address : ℕ → ℕ
stacked_address word = word / 4 % 2 ^ 24 * 4

-- a place with its label, where memory is mapped
abbrev pub label_if_mapped : Naming → ℕ → Result ℕ Fault → List ℕ
label_if_mapped n address (Ok word) = spaced_place_text (place_of n address)
label_if_mapped n address (Err fault) = []

-- what an address is of
abbrev pub stacked_place_text : Naming → Bytes → ℕ → List ℕ
stacked_place_text n b address = if address == return_gate then codes " return gate"
    else label_if_mapped n address (word_loaded b address)

-- `01C01FFC: 03800003 return gate`, `01C01FF8: 20008008 main:start+8`
abbrev pub stacked_word_text : Naming → Bytes → ℕ → ℕ → List ℕ
stacked_word_text n b address word = hex_word address ++ (codes ": " ++ (hex_word word
    ++ (stacked_place_text n b (stacked_address word) ++ codes "\n")))

-- `01C02FFC: --------`
abbrev pub stack_end_text : ℕ → List ℕ
stack_end_text address = hex_word address ++ codes ": --------\n"

-- a word and what follows on it, or the end of what is mapped
abbrev pub word_and_more : Naming → Bytes → ℕ → Result ℕ Fault → List ℕ → List ℕ
word_and_more n b address (Ok word) more = stacked_word_text n b address word ++ more
word_and_more n b address (Err fault) more = stack_end_text address

-- at most so many words, the first of them at the address
unfoldable pub stack_words_text_at : Naming → Bytes → ℕ → ℕ → List ℕ
stack_words_text_at n b address zero = []
stack_words_text_at n b address (suc count) = word_and_more n b address (word_loaded b address)
    (stack_words_text_at n b (address_further address 4) count)

-- at most so many words from R13 on
abbrev pub stack_words_text : Naming → State → Bytes → ℕ → List ℕ
stack_words_text n s b count = stack_words_text_at n b (word_start (register_of s 13)) count
