-- A line's words, up to four of them.
use Rattle.std.specs.Prelude.{◌≡◌, ◌<◌, ℕ, List, [], ◌∷◌, length}
use Rattle.debug_lines.specs.declared.few_words.FewWords.{FewWords}
use Rattle.debug_lines.specs.declared.few_words.FewWords.TheVariants.{One, Two, Three, Four, More}

-- these words are those of a list
abbrev pub AreWordsOf : FewWords → List (List ℕ) → Type 0
AreWordsOf (One word) list = list ≡ word.now ∷ []
AreWordsOf (Two word other) list = list ≡ word.now ∷ other.now ∷ []
AreWordsOf (Three word first second) list = list ≡ word.now ∷ first.now ∷ second.now ∷ []
AreWordsOf (Four word first second third) list = list ≡ word.now ∷ first.now ∷ second.now ∷ third.now ∷ []
AreWordsOf More list = 4 < length list
