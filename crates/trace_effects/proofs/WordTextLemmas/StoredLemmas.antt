-- How the words that were stored go on, and their lines.
use Rattle.std.proofs.Common.{◌≡◌, ℕ, suc, ◌+◌, ◌-◌, ◌<◌, ◌≤◌, List, [], ◌∷◌, ◌++◌, length, get_or, drop, ap, ◌∙◌, sym, arith, refl, append_assoc, drop-cons}
use Rattle.std.proofs.lemmas.List.{append-nil, drop_all}
use Rattle.profile.proofs.OutputLemmas.{AddsAllBut-start, AddsAllBut-more, AddsAllBut-same, Appends-from_all_but}
use Rattle.arm_step.specs.Bytes.{Bytes, word_loaded}
use Rattle.profile.specs.Sums.{address_further}
use Rattle.trace_effects.specs.word_text.Stored.{stored_line, stored_lines, word_or_zero, word_values_from}

no_words : (b : Bytes) (at : ℕ) → word_values_from b at 0 ≡ []
unfolding word_values_from
no_words b at = refl

one_word : (b : Bytes) (at more : ℕ) → word_values_from b at (suc more) ≡ word_or_zero (word_loaded b at) ∷ word_values_from b (address_further at 4) more
unfolding word_values_from
one_word b at more = refl

-- some words that are there and those that are left, with one more there
pub word_more : (b : Bytes) (at next count i word : ℕ) (there all : List ℕ) → i < count → word ≡ word_or_zero (word_loaded b at)
    → next ≡ address_further at 4 → there ++ word_values_from b at (count - i) ≡ all
    → (there ++ word ∷ []) ++ word_values_from b next (count - (i + 1)) ≡ all
word_more b at next count i word there all some is e known =
    let split : count - i ≡ suc (count - (i + 1)) = omega arith in
    rw (e, is)
    (append_assoc there (word_or_zero (word_loaded b at) ∷ []) (word_values_from b (address_further at 4) (count - (i + 1)))
    ∙ (ap (λ more. there ++ more) (sym (one_word b at (count - (i + 1))) ∙ ap (word_values_from b at) (sym split)) ∙ known))

pub words_done : (b : Bytes) (at count i : ℕ) (there all : List ℕ) → count ≤ i → there ++ word_values_from b at (count - i) ≡ all → there ≡ all
words_done b at count i there all out known =
    let none : count - i ≡ 0 = omega arith in
    sym (append-nil there) ∙ (ap (λ more. there ++ more) (sym (ap (word_values_from b at) none ∙ no_words b at)) ∙ known)

pub no_lines : (b : Bytes) (at : ℕ) → stored_lines b at [] ≡ []
unfolding stored_lines
no_lines b at = refl

one_line : (b : Bytes) (at old : ℕ) (rest : List ℕ) → stored_lines b at (old ∷ rest) ≡ stored_line b at old ++ stored_lines b (address_further at 4) rest
unfolding stored_lines
one_line b at old rest = refl

pub next_line : (b : Bytes) (at next n : ℕ) (olds : List ℕ) → n < length olds → next ≡ address_further at 4
    → stored_lines b at (drop n olds) ≡ stored_line b at (get_or olds n 0) ++ stored_lines b next (drop (n + 1) olds)
next_line b at next n olds inside e =
    let more : suc n ≡ n + 1 = omega arith in
    rw e (ap (stored_lines b at) (drop-cons olds n 0 inside ∙ ap (λ (k : ℕ). get_or olds n 0 ∷ drop k olds) more) ∙ one_line b at (get_or olds n 0) (drop (n + 1) olds))

-- behind the last of the words no line is left
pub lines_done : (b : Bytes) (at n : ℕ) (olds : List ℕ) → length olds ≤ n → stored_lines b at (drop n olds) ≡ []
lines_done b at n olds past = ap (stored_lines b at) (drop_all n olds past) ∙ no_lines b at

pub ruleset line_steps = (AddsAllBut-start, AddsAllBut-more, AddsAllBut-same, Appends-from_all_but, lines_done, next_line)
