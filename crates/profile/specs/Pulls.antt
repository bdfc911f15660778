-- How many calls a source has had, where it tells.
use Rattle.std.specs.Prelude.{◌≡◌, ◌≤◌, ◌+◌, ℕ, Option, Some, IfSome}

-- one more
abbrev pub PullsOnce : Option ℕ → Option ℕ → Type 0
PullsOnce old new = IfSome old (λ n. new ≡ Some (n + 1))

-- at most so many more than n
pub record IsPulledFrom (n most : ℕ) (new : Option ℕ) : Type 0 where
  pub count : ℕ
  pub shows : new ≡ Some count
  pub no_fewer : n ≤ count
  pub in_limit : count ≤ n + most

abbrev pub PullsAtMost : Option ℕ → Option ℕ → ℕ → Type 0
PullsAtMost old new most = IfSome old (λ n. IsPulledFrom n most new)
