-- The words that an instruction stores to, as lists (ARM2 data sheet, "Single data transfer" and "Block data
-- transfer"): each word of memory that it may change is listed, with what stands there now.
use Rattle.std.specs.Prelude.{◌≡◌, ℕ, ◌*◌, ◌%◌, ◌<◌, ◌^◌, ◌==◌, Bool, true, false, List, [], ◌∷◌, if◌then◌else◌}
use Rattle.address_map.specs.Bytes.{in_range, word_start}
use Rattle.trace_effects.specs.declared.shown_words.words.ShownWord.{ShownWord}
use Rattle.trace_effects.specs.declared.stored.StoredWords.{StoredWords}

-- whether the word at an address is listed
abbrev pub is_listed : ℕ → List ShownWord → Bool
is_listed a [] = false
is_listed a (w ∷ ws) = if a == w.at then true else is_listed a ws

-- each of some words is, where they begin at a whole word
abbrev pub AreListed : StoredWords → List ShownWord → Type 0
AreListed words ws = words.at % 4 ≡ 0 → (a : ℕ) → a % 4 ≡ 0 → a < 2 ^ 26
    → in_range words.at (4 * words.count) a ≡ true → is_listed a ws ≡ true

-- a word that was listed, with what stands there now
abbrev pub renewed : (ℕ → ℕ) → ShownWord → ShownWord
renewed now w = record { at = w.at; old = w.old; new = now (word_start w.at) }
