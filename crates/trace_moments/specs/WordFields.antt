-- The fields of a record that say which words of memory were written: each with its address, its old value
-- and its new one, 4,096 of them, and how many there are more.
use Rattle.std.specs.Prelude.{◌≡◌, ℕ, ◌-◌, ◌%◌, ◌<◌, ◌^◌, nat_lt, List, [], ◌∷◌, ◌++◌, codes, map, take, length, if◌then◌else◌}
use Rattle.std.specs.Fmt.{decimal}
use Rattle.trace_effects.specs.declared.record_text.text.RecordText.{RecordText}
use Rattle.trace_effects.specs.declared.shown_words.words.ShownWord.{ShownWord}
use Rattle.trace_effects.specs.shown_words.Replay.{words_after}
use Rattle.trace_moments.specs.Fields.{HasMore, field_text, list_text, unless_empty}

abbrev pub word_numbers : ShownWord → List (List ℕ)
word_numbers w = decimal w.at ∷ (decimal w.old ∷ (decimal w.new ∷ []))

-- `[32796,255,6]`
abbrev pub word_text : ShownWord → List ℕ
word_text w = list_text (word_numbers w)

-- `"mem":[[32796,255,6]]`
abbrev pub some_words : List ShownWord → List (List ℕ)
some_words ws = unless_empty (map word_text ws) (field_text (codes "mem") (list_text (map word_text ws)))

-- `"more":904`
abbrev pub more_words : ℕ → List (List ℕ)
more_words count = if nat_lt 4096 count then field_text (codes "more") (decimal (count - 4096)) ∷ [] else []

abbrev pub word_fields : List ShownWord → List (List ℕ)
word_fields ws = some_words (take 4096 ws) ++ more_words (length ws)

-- Whoever has the words before, by their addresses, and gives each that is listed its new value, has the
-- words after.
abbrev pub AreWordChanges : (ℕ → ℕ) → (ℕ → ℕ) → List ShownWord → Type 0
AreWordChanges before after ws = (a : ℕ) → a % 4 ≡ 0 → a < 2 ^ 26 → words_after ws before a ≡ after a

-- Such words were written.
pub record ShowsWords (before after : ℕ → ℕ) (old new : RecordText) : Type 0 where
  pub words : List ShownWord
  pub are : AreWordChanges before after words
  pub written : HasMore old new (word_fields words)
