-- How the registers of the shared bank are read, one by one.
use Rattle.std.proofs.Common.{◌≡◌, ℕ, ◌+◌, ◌<◌, List, [], ◌∷◌, ◌++◌, length, slice_index, slice_set, take, sym, ◌∙◌, ap, arith}
use Rattle.std.proofs.lemmas.List.{take_more, take_more_set, take_all}

pub one_read : (file saved : List ℕ) (n word : ℕ) → n < length file → n < length saved → word ≡ slice_index file n → take n saved ≡ take n file
    → take (n + 1) (slice_set saved n word) ≡ take (n + 1) file
one_read file saved n word in_file in_saved read before =
    take_more_set saved n word in_saved
    ∙ (ap (λ xs. xs ++ word ∷ []) before ∙ (ap (λ w. take n file ++ w ∷ []) read ∙ sym (take_more file n 0 in_file)))

pub all_read : (file saved : List ℕ) (n : ℕ) → length saved ≡ 13 → n ≡ 13 → take n saved ≡ take n file → saved ≡ take 13 file
all_read file saved n long end same = sym (take_all 13 saved (omega (arith, long))) ∙ rw (← end) same

pub ruleset saving = (one_read, all_read)
