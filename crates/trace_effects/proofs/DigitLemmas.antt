-- The digits of numbers below 16, in a table.
use Rattle.std.proofs.Common.{◌≡◌, ◌<◌, ℕ, zero, suc, List, [], ◌∷◌, slice_index_or, refl, arith}
use Rattle.profile.specs.Digits.{hex_digit}

abbrev pub digits_listed : List ℕ
digits_listed = 48 ∷ 49 ∷ 50 ∷ 51 ∷ 52 ∷ 53 ∷ 54 ∷ 55 ∷ 56 ∷ 57 ∷ 65 ∷ 66 ∷ 67 ∷ 68 ∷ 69 ∷ 70 ∷ []

pub digit_listed : (n : ℕ) → n < 16 → slice_index_or digits_listed n 0 ≡ hex_digit n
digit_listed zero below = refl
digit_listed (suc zero) below = refl
digit_listed (suc (suc zero)) below = refl
digit_listed (suc (suc (suc zero))) below = refl
digit_listed (suc (suc (suc (suc zero)))) below = refl
digit_listed (suc (suc (suc (suc (suc zero))))) below = refl
digit_listed (suc (suc (suc (suc (suc (suc zero)))))) below = refl
digit_listed (suc (suc (suc (suc (suc (suc (suc zero))))))) below = refl
digit_listed (suc (suc (suc (suc (suc (suc (suc (suc zero)))))))) below = refl
digit_listed (suc (suc (suc (suc (suc (suc (suc (suc (suc zero))))))))) below = refl
digit_listed (suc (suc (suc (suc (suc (suc (suc (suc (suc (suc zero)))))))))) below = refl
digit_listed (suc (suc (suc (suc (suc (suc (suc (suc (suc (suc (suc zero))))))))))) below = refl
digit_listed (suc (suc (suc (suc (suc (suc (suc (suc (suc (suc (suc (suc zero)))))))))))) below = refl
digit_listed (suc (suc (suc (suc (suc (suc (suc (suc (suc (suc (suc (suc (suc zero))))))))))))) below = refl
digit_listed (suc (suc (suc (suc (suc (suc (suc (suc (suc (suc (suc (suc (suc (suc zero)))))))))))))) below = refl
digit_listed (suc (suc (suc (suc (suc (suc (suc (suc (suc (suc (suc (suc (suc (suc (suc zero))))))))))))))) below = refl
digit_listed (suc (suc (suc (suc (suc (suc (suc (suc (suc (suc (suc (suc (suc (suc (suc (suc n)))))))))))))))) below = absurd (omega (arith, below))
