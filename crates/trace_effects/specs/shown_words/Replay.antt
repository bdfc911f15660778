-- Words that were shown, replayed on a memory: each takes its new value.
use Rattle.std.specs.Prelude.{◌≡◌, ℕ, ◌*◌, ◌<◌, ◌≤◌, ◌==◌, List, [], ◌∷◌, if◌then◌else◌}
use Rattle.trace_effects.specs.declared.shown_words.words.ShownWord.{ShownWord}

-- the words by their addresses, where one was shown
abbrev pub word_after : ShownWord → (ℕ → ℕ) → ℕ → ℕ
word_after c words a = if a == c.at then c.new else words a

abbrev pub words_after : List ShownWord → (ℕ → ℕ) → ℕ → ℕ
words_after [] words = words
words_after (c ∷ cs) words = words_after cs (word_after c words)

-- replayed, they are the new words up to a number, and the old ones from it on
pub record AreShownBelow (old new : ℕ → ℕ) (n : ℕ) (reported : List ShownWord) : Type 0 where
  pub lower : (k : ℕ) → k < n → words_after reported old (4 * k) ≡ new (4 * k)
  pub upper : (k : ℕ) → n ≤ k → words_after reported old (4 * k) ≡ old (4 * k)
