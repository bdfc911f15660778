-- How the words and the lines of memory go on.
use Rattle.std.proofs.Common.{◌≡◌, ℕ, suc, ◌+◌, ◌-◌, ◌/◌, ◌<◌, [], ◌++◌, ap, ◌∙◌, arith, refl}
use Rattle.std.specs.Prelude.{min}
use Rattle.swi_dispatch_guest.proofs.OutputLemmas.{AddsAllBut-start, AddsAllBut-more, AddsAllBut-same, Appends-from_all_but}
use Rattle.swi_dispatch_guest.specs.Bytes.{Bytes}
use Rattle.swi_dispatch_guest.specs.Sums.{address_further}
use Rattle.debugger.specs.views.Words.{spaced_word_text, spaced_words_text, words_line, words_lines, memory_words_text_at}

pub no_words : (b : Bytes) (at left : ℕ) → left ≡ 0 → spaced_words_text b at left ≡ []
unfolding spaced_words_text
no_words b at left e = rw e refl

one_word : (b : Bytes) (at more : ℕ)
    → spaced_words_text b at (suc more) ≡ spaced_word_text b at ++ spaced_words_text b (address_further at 4) more
unfolding spaced_words_text
one_word b at more = refl

pub next_word : (b : Bytes) (at next left : ℕ) → 0 < left → next ≡ address_further at 4
    → spaced_words_text b at left ≡ spaced_word_text b at ++ spaced_words_text b next (left - 1)
next_word b at next left some e =
    let split : left ≡ suc (left - 1) = omega arith in
    rw e (ap (spaced_words_text b at) split ∙ one_word b at (left - 1))

pub no_lines : (b : Bytes) (at left : ℕ) → left ≡ 0 → memory_words_text_at b at left ≡ []
unfolding memory_words_text_at words_lines
no_lines b at left e = rw e refl

one_line : (b : Bytes) (at left more : ℕ)
    → words_lines (suc more) b at left ≡ words_line b at (min left 4) ++ words_lines more b (address_further at 16) (left - 4)
unfolding words_lines
one_line b at left more = refl

pub next_line : (b : Bytes) (at next left : ℕ) → 0 < left → next ≡ address_further at 16
    → memory_words_text_at b at left ≡ words_line b at (min left 4) ++ memory_words_text_at b next (left - 4)
unfolding memory_words_text_at
next_line b at next left some e =
    let split : (left + 3) / 4 ≡ suc ((left - 4 + 3) / 4) = omega arith in
    rw e (ap (λ (n : ℕ). words_lines n b at left) split ∙ one_line b at left ((left - 4 + 3) / 4))

pub ruleset word_steps = (AddsAllBut-start, AddsAllBut-more, AddsAllBut-same, Appends-from_all_but, no_words, next_word)

pub ruleset line_steps = (AddsAllBut-start, AddsAllBut-more, AddsAllBut-same, Appends-from_all_but, no_lines, next_line)
