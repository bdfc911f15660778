-- Words that are listed, one more, and replayed.
use Rattle.std.proofs.Common.{◌≡◌, ◌∙◌, ℕ, ◌+◌, ◌-◌, ◌*◌, ◌%◌, ◌<◌, ◌≤◌, ◌^◌, ◌==◌, Bool, true, false, List, [], ◌∷◌, ◌++◌, map, refl, sym, ap, arith, inl, inr, if◌then◌else◌}
use Rattle.std.proofs.lemmas.Bool.{cases_Bool, cases_lt, eq-eqb, eqb-true, false≢true}
use Rattle.std.proofs.lemmas.Bool.Decides.{nat_tests}
use Rattle.address_map.specs.Bytes.{in_range, word_start}
use Rattle.trace_effects.specs.declared.shown_words.words.ShownWord.{ShownWord}
use Rattle.trace_effects.specs.declared.stored.StoredWords.{StoredWords}
use Rattle.trace_effects.specs.shown_words.Replay.{word_after, words_after}
use Rattle.trace_moments.specs.Stored.{AreListed, is_listed, renewed}

listed_before : (ws : List ShownWord) (w : ShownWord) (a : ℕ) → is_listed a ws ≡ true → is_listed a (ws ++ w ∷ []) ≡ true
listed_before [] w a is = absurd (false≢true is)
listed_before (x ∷ xs) w a is = elim (cases_Bool (a == x.at)) [
  | inl here ↦ rw here refl
  | inr other ↦ rw other (listed_before xs w a (rw other at is))
]

listed_last : (ws : List ShownWord) (w : ShownWord) (a : ℕ) → a ≡ w.at → is_listed a (ws ++ w ∷ []) ≡ true
listed_last [] w a is = rw (eq-eqb a w.at is) refl
listed_last (x ∷ xs) w a is = elim (cases_Bool (a == x.at)) [
  | inl here ↦ rw here refl
  | inr other ↦ rw other (listed_last xs w a is)
]

-- so many first words are listed
abbrev pub AreFirstListed : StoredWords → ℕ → List ShownWord → Type 0
AreFirstListed words n ws = AreListed (record { at = words.at; count = n }) ws

pub none_listed : (words : StoredWords) (ws : List ShownWord) → AreFirstListed words 0 ws
none_listed words ws aligned a whole below is = absurd (grind (arith, nat_tests, is))

pub one_listed : (words : StoredWords) (n : ℕ) (ws : List ShownWord) (at old new : ℕ)
    → at ≡ (words.at - words.at % 4 + 4 * n) % 2 ^ 32 → AreFirstListed words n ws
    → AreFirstListed words (n + 1) (ws ++ record { at = at; old = old; new = new } ∷ [])
one_listed words n ws at old new is so_far aligned a whole below within =
    let w : ShownWord = record { at = at; old = old; new = new } in
    elim (cases_Bool (in_range words.at (4 * n) a)) [
      | inl before ↦ listed_before ws w a (so_far aligned a whole below before)
      | inr past ↦
          let here : a ≡ words.at + 4 * n = grind (arith, nat_tests, within, past, aligned, whole) in
          listed_last ws w a (omega (arith, here, is, aligned, below))
    ]

-- replayed, those that are listed are as they are, and others as they were
pub renewed_after : (now : ℕ → ℕ) (ws : List ShownWord) (before : ℕ → ℕ) (a : ℕ) → a % 4 ≡ 0
    → words_after (map (renewed now) ws) before a ≡ (if is_listed a ws then now a else before a)
renewed_after now [] before a whole = refl
renewed_after now (w ∷ ws) before a whole =
    renewed_after now ws (word_after (renewed now w) before) a whole
    ∙ elim (cases_Bool (a == w.at)) [
      | inl here ↦
          let same : now (word_start w.at) ≡ now a = ap now (let e : a ≡ w.at = eqb-true a w.at here in omega (arith, e, whole)) in
          elim (cases_Bool (is_listed a ws)) [
            | inl later ↦ rw (here, later) refl
            | inr last ↦ rw (here, last) same
          ]
      | inr other ↦ rw other refl
    ]
