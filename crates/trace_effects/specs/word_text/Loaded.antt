-- What an instruction loaded, as words of its line: where the first of its words stands, and how many
-- there are where they are more. Where LDR leaves its register as it was, which then isn't shown, what
-- stands in memory is.
use Rattle.std.specs.Prelude.{ℕ, Bool, ◌&&◌, ◌==◌, nat_lt, List, [], ◌++◌, codes, Option, Some, None, if◌then◌else◌}
use Rattle.std.specs.Fmt.{decimal}
use Rattle.profile.specs.Digits.{hex_word}
use Rattle.arm_step.specs.Bytes.{Bytes, word_loaded}
use Rattle.arm_core.specs.State.{State, register_of}
use Rattle.trace_effects.specs.declared.stored.StoredWords.{StoredWords}
use Rattle.trace_effects.specs.word_text.Stored.{word_or_zero}

-- the register is one of R0 to R14, and is what it was
abbrev pub is_same_register : State → State → ℕ → Bool
is_same_register s s' number = nat_lt number 15 && register_of s number == register_of s' number

-- `=0000002A`
abbrev pub value_word : State → State → Bytes → ℕ → Option ℕ → List ℕ
value_word s s' b at None = []
value_word s s' b at (Some number) =
    if is_same_register s s' number then codes "=" ++ hex_word (word_or_zero (word_loaded b at)) else []

-- ` 4 words`
abbrev pub count_word : ℕ → List ℕ
count_word count = if count == 1 then [] else codes " " ++ (decimal count ++ codes " words")

-- ` from [00009010]`
abbrev pub place_word : ℕ → List ℕ
place_word at = codes " from [" ++ (hex_word at ++ codes "]")

-- by the cores before and after, the memory, the words, and the register that LDR loads
unfoldable pub loaded_words_text : State → State → Bytes → StoredWords → Option ℕ → List ℕ
loaded_words_text s s' b words target = if words.count == 0 then [] else
    place_word words.at ++ (value_word s s' b words.at target ++ count_word words.count)
