-- One word more, shown or as it was, and a page of words that are as they were.
use Rattle.std.proofs.Common.{◌≡◌, ◌≢◌, ℕ, ◌+◌, ◌-◌, ◌*◌, ◌/◌, ◌%◌, ◌^◌, ◌<◌, ◌≤◌, List, [], ◌∷◌, ◌++◌, refl, sym, ◌∙◌, ap, arith, inl, inr}
use Rattle.std.proofs.lemmas.Bool.{cases_lt, eq-eqb, ne_eqb}
use Rattle.trace_effects.specs.declared.shown_words.words.ShownWord.{ShownWord}
use Rattle.trace_effects.specs.shown_words.Replay.{AreShownBelow, word_after, words_after}

after_more : (cs : List ShownWord) (c : ShownWord) (w : ℕ → ℕ) (a : ℕ) → words_after (cs ++ c ∷ []) w a ≡ word_after c (words_after cs w) a
after_more [] c w a = refl
after_more (d ∷ cs) c w a = after_more cs c (word_after d w) a

at_it : (cs : List ShownWord) (c : ShownWord) (w : ℕ → ℕ) (a : ℕ) → a ≡ c.at → words_after (cs ++ c ∷ []) w a ≡ c.new
at_it cs c w a is = after_more cs c w a ∙ rw (eq-eqb a c.at is) refl

elsewhere : (cs : List ShownWord) (c : ShownWord) (w : ℕ → ℕ) (a : ℕ) → a ≢ c.at → words_after (cs ++ c ∷ []) w a ≡ words_after cs w a
elsewhere cs c w a other = after_more cs c w a ∙ rw (ne_eqb a c.at other) refl

pub none_shown : (w w' : ℕ → ℕ) → AreShownBelow w w' 0 []
none_shown w w' = record {
  lower = λ k below. absurd (omega (arith, below));
  upper = λ k above. refl;
}

pub one_shown : (w w' : ℕ → ℕ) (n old new : ℕ) (cs : List ShownWord) → new ≡ w' (4 * n) → AreShownBelow w w' n cs
    → AreShownBelow w w' (n + 1) (cs ++ record { at = 4 * n; old = old; new = new } ∷ [])
one_shown w w' n old new cs is t =
    let c : ShownWord = record { at = 4 * n; old = old; new = new } in
    record {
      lower = λ k below. elim (cases_lt k n) [
        | inl lower ↦ elsewhere cs c w (4 * k) (λ e. absurd (omega (arith, lower, e))) ∙ t.lower k lower
        | inr upper ↦
            let same : k ≡ n = omega arith in
            at_it cs c w (4 * k) (ap (λ i. 4 * i) same) ∙ (is ∙ ap (λ i. w' (4 * i)) (sym same))
      ];
      upper = λ k above. elsewhere cs c w (4 * k) (λ e. absurd (omega (arith, above, e))) ∙ t.upper k (omega (arith, above));
    }

pub none_more : (w w' : ℕ → ℕ) (n : ℕ) (cs : List ShownWord) → w (4 * n) ≡ w' (4 * n) → AreShownBelow w w' n cs → AreShownBelow w w' (n + 1) cs
none_more w w' n cs alike t = record {
  lower = λ k below. elim (cases_lt k n) [
    | inl lower ↦ t.lower k lower
    | inr upper ↦
        let same : k ≡ n = omega arith in
        t.upper k upper ∙ (ap (λ i. w (4 * i)) same ∙ (alike ∙ ap (λ i. w' (4 * i)) (sym same)))
  ];
  upper = λ k above. t.upper k (omega (arith, above));
}

pub page_more : (w w' : ℕ → ℕ) (page : ℕ) (cs : List ShownWord) → ((j : ℕ) → j < 1024 → w (4096 * page + 4 * j) ≡ w' (4096 * page + 4 * j))
    → AreShownBelow w w' (1024 * page) cs → AreShownBelow w w' (1024 * (page + 1)) cs
page_more w w' page cs alike t = record {
  lower = λ k below. elim (cases_lt k (1024 * page)) [
    | inl lower ↦ t.lower k lower
    | inr upper ↦ t.upper k upper ∙ here k upper below
  ];
  upper = λ k above. t.upper k (omega (arith, above));
} where
  here : (k : ℕ) → 1024 * page ≤ k → k < 1024 * (page + 1) → w (4 * k) ≡ w' (4 * k)
  here k above below =
      let j = k - 1024 * page in
      let e : 4 * k ≡ 4096 * page + 4 * j = omega (arith, above) in
      ap w e ∙ (alike j (omega (arith, above, below)) ∙ ap w' (sym e))

pub all_shown : (w w' : ℕ → ℕ) (cs : List ShownWord) (a : ℕ) → ((a : ℕ) → 2 ^ 26 ≤ a → a % 4 ≡ 0 → w a ≡ w' a) → AreShownBelow w w' 16777216 cs → a % 4 ≡ 0
    → words_after cs w a ≡ w' a
all_shown w w' cs a past t aligned =
    let e : a ≡ 4 * (a / 4) = omega arith in
    ap (words_after cs w) e ∙ (elim (cases_lt (a / 4) 16777216) [
      | inl lower ↦ t.lower (a / 4) lower
      | inr upper ↦ t.upper (a / 4) upper ∙ past (4 * (a / 4)) (omega (arith, upper)) (omega arith)
    ] ∙ ap w' (sym e))
