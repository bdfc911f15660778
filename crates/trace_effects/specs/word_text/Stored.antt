-- The words that an instruction stored to, as words of a line: where each stands, its new value and
-- its old one. One is shown on the instruction's line, more each on a line below.
use Rattle.std.specs.Prelude.{ℕ, zero, suc, ◌==◌, List, [], ◌∷◌, ◌++◌, codes, length, slice_index, Result, Ok, Err, if◌then◌else◌}
use Rattle.profile.specs.Digits.{hex_word}
use Rattle.profile.specs.Fault.{Fault}
use Rattle.arm_step.specs.Bytes.{Bytes, word_loaded}
use Rattle.profile.specs.Sums.{address_further}

-- a word where no memory is mapped counts as 0
abbrev pub word_or_zero : Result ℕ Fault → ℕ
word_or_zero (Ok word) = word
word_or_zero (Err fault) = 0

-- so many words from an address on; addresses count modulo 2^32
unfoldable pub word_values_from : Bytes → ℕ → ℕ → List ℕ
word_values_from b at zero = []
word_values_from b at (suc count) = word_or_zero (word_loaded b at) ∷ word_values_from b
    (address_further at 4) count

-- ` [00008014]=00000000 was 00000005`
abbrev pub stored_word : Bytes → ℕ → ℕ → List ℕ
stored_word b at old = codes " [" ++ (hex_word at ++ (codes "]="
    ++ (hex_word (word_or_zero (word_loaded b at)) ++ (codes " was " ++ hex_word old))))

abbrev pub stored_line : Bytes → ℕ → ℕ → List ℕ
stored_line b at old = codes "                 " ++ (stored_word b at old ++ codes "\n")

-- a line for each of the words from an address on, whose old values these are
unfoldable pub stored_lines : Bytes → ℕ → List ℕ → List ℕ
stored_lines b at [] = []
stored_lines b at (old ∷ rest) = stored_line b at old ++ stored_lines b (address_further at 4) rest

abbrev pub stored_here : Bytes → ℕ → List ℕ → List ℕ
stored_here b at olds = if length olds == 1 then stored_word b at (slice_index olds 0) else []

abbrev pub stored_below : Bytes → ℕ → List ℕ → List ℕ
stored_below b at olds = if length olds == 1 then [] else stored_lines b at olds
