-- The bytes that records have: line feeds, and printing ASCII characters but for `<`.
use Rattle.std.specs.Prelude.{◌≡◌, ℕ, List, Bool, true, ◌||◌, ◌&&◌, not, ◌==◌, nat_le, Option}
use Rattle.std.specs.List.{list_all}
use Rattle.std.specs.Io.KnownBytes.{Appends}

abbrev pub is_safe : ℕ → Bool
is_safe b = b == 10 || (nat_le 32 b && (nat_le b 126 && not (b == 60)))

-- a text of such bytes was written, behind what stood there
pub record AddsSafe (old new : Option (List ℕ)) : Type 0 where
  pub text : List ℕ
  pub adds : Appends old new text
  pub safe : list_all is_safe text ≡ true
