-- Where the reading of lines stands: those that are left, and how many were read.
use Rattle.std.specs.Prelude.{ℕ, List}

pub record ReadingPlace : Type 0 where
  pub left : List (List ℕ)
  pub number : ℕ
