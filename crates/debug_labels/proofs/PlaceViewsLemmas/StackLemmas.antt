-- How the words of the stack go on, and where they end.
use Rattle.std.proofs.Common.{◌≡◌, ℕ, suc, ◌-◌, ◌<◌, [], ◌++◌, ap, ◌∙◌, sym, arith, refl, Option, List, Result, Ok, Err}
use Rattle.std.proofs.lemmas.List.{append-nil}
use Rattle.std.specs.Io.KnownBytes.{Appends}
use Rattle.profile.specs.Output.{AddsAllBut}
use Rattle.profile.proofs.OutputLemmas.{AddsAllBut-start, AddsAllBut-more, AddsAllBut-same, Appends-from_all_but}
use Rattle.profile.specs.Fault.{Fault}
use Rattle.debugger.specs.Bytes.{Bytes, word_loaded}
use Rattle.debug_labels.specs.Words.{Naming}
use Rattle.profile.specs.Sums.{address_further}
use Rattle.debug_labels.specs.place_views.Stack.{stack_end_text, stack_words_text_at, stacked_word_text, word_and_more}

pub no_entries : (n : Naming) (b : Bytes) (at left : ℕ) → left ≡ 0 → stack_words_text_at n b at left ≡ []
unfolding stack_words_text_at
no_entries n b at left e = rw e refl

one_entry : (n : Naming) (b : Bytes) (at more : ℕ) → stack_words_text_at n b at (suc more)
    ≡ word_and_more n b at (word_loaded b at) (stack_words_text_at n b (address_further at 4) more)
unfolding stack_words_text_at
one_entry n b at more = refl

any_entry : (n : Naming) (b : Bytes) (at left : ℕ) → 0 < left → stack_words_text_at n b at left
    ≡ word_and_more n b at (word_loaded b at) (stack_words_text_at n b (address_further at 4) (left - 1))
any_entry n b at left some =
    let split : left ≡ suc (left - 1) = omega arith in
    ap (stack_words_text_at n b at) split ∙ one_entry n b at (left - 1)

pub next_entry : (n : Naming) (b : Bytes) (at next left word : ℕ) → 0 < left → word_loaded b at ≡ Ok word
    → next ≡ address_further at 4
    → stack_words_text_at n b at left ≡ stacked_word_text n b at word ++ stack_words_text_at n b next (left - 1)
next_entry n b at next left word some loaded e =
    rw e (any_entry n b at left some
    ∙ ap (λ (r : Result ℕ Fault). word_and_more n b at r (stack_words_text_at n b (address_further at 4) (left - 1))) loaded)

last_entry : (n : Naming) (b : Bytes) (at left : ℕ) (fault : Fault) → 0 < left → word_loaded b at ≡ Err fault
    → stack_words_text_at n b at left ≡ stack_end_text at ++ []
last_entry n b at left fault some loaded =
    any_entry n b at left some
    ∙ ap (λ (r : Result ℕ Fault). word_and_more n b at r (stack_words_text_at n b (address_further at 4) (left - 1))) loaded
    ∙ sym (append-nil (stack_end_text at))

-- the line of the word that isn't mapped was the last
pub stack_ends : (o p q : Option (List ℕ)) (n : Naming) (b : Bytes) (at left : ℕ) (fault : Fault) (all : List ℕ)
    → AddsAllBut o p (stack_words_text_at n b at left) all → Appends p q (stack_end_text at) → 0 < left
    → word_loaded b at ≡ Err fault → Appends o q all
stack_ends o p q n b at left fault all done here some loaded =
    Appends-from_all_but o q [] all (AddsAllBut-more o p q _ _ _ all done here (last_entry n b at left fault some loaded)) refl

pub ruleset entry_steps = (AddsAllBut-start, AddsAllBut-more, AddsAllBut-same, Appends-from_all_but, no_entries, next_entry, stack_ends)
