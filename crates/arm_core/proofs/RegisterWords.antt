-- Each register is a word.
use Rattle.std.proofs.Common.{◌<◌, ◌^◌, ℕ, zero, suc, List, [], ◌∷◌, slice_index, arith}
use Rattle.std.specs.List.{All}

pub word_at : (xs : List ℕ) → All (λ w. w < 2 ^ 32) xs → (k : ℕ) → slice_index xs k < 2 ^ 32
word_at [] all k = omega arith
word_at (x ∷ xs) all zero = all 0 0 (omega arith)
word_at (x ∷ xs) all (suc k) =
    let rest : All (λ w. w < 2 ^ 32) xs = λ j d lt. all (suc j) d (omega (arith, lt)) in
    word_at xs rest k
