-- The place that a place of the file changes with.
use Rattle.std.proofs.Common.{ℕ, Bool, true, false, ◌≡◌, ◌≢◌, ◌<◌, ◌≤◌, ◌+◌, ◌-◌, ◌&&◌, IsTrue, nat_le, sym}
use Rattle.std.proofs.Common.{◌∙◌, ap, arith}
use Rattle.std.proofs.lemmas.Bool.Decides.{nat_tests}
use Rattle.arm_core.specs.register_file.Banks.{changed_place, is_bank}

pub record IsApart (first ahead : ℕ) : Type 0 where
  pub low : first ≤ 15
  pub apart : 15 ≤ first + ahead
  pub within : ahead ≤ 11

pub bounds : (first ahead : ℕ) → IsTrue (is_bank first ahead) → IsApart first ahead
unfolding is_bank
bounds first ahead h = record {
  low = grind (arith, nat_tests, h);
  apart = grind (arith, nat_tests, h);
  within = grind (arith, nat_tests, h);
}

turned : (first ahead k : ℕ) → first ≤ 15 → 15 ≤ first + ahead → changed_place first 15 ahead (changed_place
    first 15 ahead k) ≡ k
turned first ahead k l a = grind (arith, nat_tests)

below : (first ahead k : ℕ) → ahead ≤ 11 → k < 26 → changed_place first 15 ahead k < 26
below first ahead k w h = grind (arith, nat_tests)

-- a place comes back
pub place_turned : (first ahead k : ℕ) → IsTrue (is_bank first ahead) → changed_place first 15 ahead
    (changed_place first 15 ahead k) ≡ k
place_turned first ahead k h = let b = bounds first ahead h in turned first ahead k b.low b.apart

pub place_below : (first ahead k : ℕ) → IsTrue (is_bank first ahead) → k < 26 → changed_place first 15 ahead
    k < 26
place_below first ahead k h g = let b = bounds first ahead h in below first ahead k b.within g

pub other_place : (first ahead k j : ℕ) → IsTrue (is_bank first ahead) → k ≢ j → changed_place first 15 ahead
    k ≢ changed_place first 15 ahead j
other_place first ahead k j h other same =
    other (sym (place_turned first ahead k h) ∙ ap (changed_place first 15 ahead) same ∙ place_turned first
    ahead j h)

-- the registers from one on so far
pub none_changed : (first ahead k : ℕ) → changed_place first first ahead k ≡ k
none_changed first ahead k = grind (arith, nat_tests)

pub here_changed : (first ahead n : ℕ) → first ≤ n → n < 15 → changed_place first (n + 1) ahead n ≡ n + ahead
here_changed first ahead n h g = grind (arith, nat_tests)

pub there_unchanged : (first ahead n : ℕ) → first ≤ n → n < 15 → 15 ≤ first + ahead → changed_place first n
    ahead (n + ahead) ≡ n + ahead
there_unchanged first ahead n h g f = grind (arith, nat_tests)

pub here_unchanged : (first ahead n : ℕ) → first ≤ n → n < 15 → 15 ≤ first + ahead → changed_place first n
    ahead n ≡ n
here_unchanged first ahead n h g f = grind (arith, nat_tests)

pub there_changed : (first ahead n : ℕ) → first ≤ n → n < 15 → 15 ≤ first + ahead → changed_place first (n +
    1) ahead (n + ahead) ≡ n
there_changed first ahead n h g f = grind (arith, nat_tests)

pub others_stay : (first ahead n k : ℕ) → first ≤ n → n < 15 → 15 ≤ first + ahead → k ≢ n → k ≢ n + ahead
    → changed_place first (n + 1) ahead k ≡ changed_place first n ahead k
others_stay first ahead n k h g f a b = grind (arith, nat_tests)

pub inside : (first ahead n : ℕ) → IsTrue (is_bank first ahead) → n < 15 → n + ahead < 26
inside first ahead n h g = let b = bounds first ahead h in let within : ahead ≤ 11 = b.within in omega
    (arith, within, g)
