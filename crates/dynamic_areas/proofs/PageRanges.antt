-- Counts of the numbers in a range, and of those that pass one of two tests.
use Rattle.std.proofs.Common.{◌≡◌, ℕ, zero, suc, ◌+◌, ◌*◌, ◌<◌, ◌≤◌, ◌⊎◌, true, false, refl, sym, ap, ◌∙◌, arith, inl, inr}
use Rattle.std.specs.Prelude.{Bool, ◌||◌, if◌then◌else◌, nat_le, nat_lt}
use Rattle.std.proofs.lemmas.Bool.{cases_lt}
use Rattle.std.proofs.lemmas.Bool.Decides.{nat_tests}
use Rattle.os_heap.proofs.InRange.{range_before, range_inside, range_past}
use Rattle.os_heap.specs.Bytes.{in_range}
use Rattle.os_heap.specs.Counts.{number_below}

-- of two tests that no number passes both
pub counted_either : (f g : ℕ → Bool) (n : ℕ) → ((k : ℕ) → k < n → f k ≡ true → g k ≡ false)
    → number_below (λ k. f k || g k) n ≡ number_below f n + number_below g n
unfolding number_below
counted_either f g zero apart = refl
counted_either f g (suc n) apart =
    let first = counted_either f g n (λ k below is. apart k (omega (arith, below)) is) in
    let last = sum (f n) (g n) (λ is. apart n (omega arith) is) in
    omega (arith, first, last) where
      one : Bool → ℕ
      one b = if b then 1 else 0

      sum : (a b : Bool) → (a ≡ true → b ≡ false) → (if a || b then 1 else 0) ≡ (if a then 1 else 0) + (if b then 1 else 0)
      sum false b apart = omega arith
      sum true b apart = rw (apart refl) refl

-- below a range none, and within it each
counted_below : (at len n : ℕ) → n ≤ at → number_below (in_range at len) n ≡ 0
unfolding number_below
counted_below at len zero low = refl
counted_below at len (suc n) low = rw (counted_below at len n (omega (arith, low)), range_before at len n (omega (arith, low))) refl

at_or_below : (a n : ℕ) → a ≤ suc n → (a ≡ suc n) ⊎ (a ≤ n)
at_or_below a n low =
    elim (cases_lt n a) [
      | inl less ↦ inl (omega (arith, low, less))
      | inr more ↦ inr more
    ]

counted_inside : (at len n : ℕ) → at ≤ n → n ≤ at + len → number_below (in_range at len) n + at ≡ n
unfolding number_below
counted_inside at len zero low high = omega (arith, low)
counted_inside at len (suc n) low high =
    elim (at_or_below at n low) [
      | inl is ↦
          let none = counted_below at len n (omega (arith, is)) in
          let last = range_before at len n (omega (arith, is)) in
          rw (none, last) (omega (arith, is))
      | inr there ↦
          let some = counted_inside at len n there (omega (arith, high)) in
          let last = range_inside at len n there (omega (arith, high)) in
          rw last (omega (arith, some))
    ]

pub counted_range : (at len n : ℕ) → at + len ≤ n → number_below (in_range at len) n ≡ len
unfolding number_below
counted_range at len zero high = omega (arith, high)
counted_range at len (suc n) high =
    elim (at_or_below (at + len) n high) [
      | inl is ↦ omega (arith, counted_inside at len (suc n) (omega (arith, is)) (omega (arith, is)), is)
      | inr there ↦ rw (range_past at len n there) (omega (arith, counted_range at len n there))
    ]

-- pages of a range of whole pages
pub page_in_range : (base count page : ℕ) → in_range (4096 * base) (4096 * count) (4096 * page) ≡ in_range base count page
page_in_range base count page = grind (arith, nat_tests)
