-- The program of a source without passes.
use Rattle.std.specs.Prelude.{ℕ, ◌≡◌, ◌≤◌, ◌+◌, ◌^◌, ◌↔◌, List, length, map, Some, None}
use Rattle.std.specs.List.{All}
use Rattle.assembler_reading.specs.Expressions.{Lookup}
use Rattle.assembler.specs.assembled.Pieces.{AreInPlace, HasLabel, HaveOwnLabels, Piece, bytes_of_pieces}

-- at most 1,048,576 bytes, and none past the 26-bit addresses
pub record FitsMemory (origin : ℕ) (program : List ℕ) : Type 0 where
  pub size : length program ≤ 1048576
  pub within : origin + length program ≤ 2 ^ 26

-- The lines are laid out from the origin on: a piece for each, in order.
pub record AreLaidOut (labels : Lookup) (origin : ℕ) (texts : List (List ℕ))
    (pieces : List Piece) : Type 0 where
  pub lines : map (λ q. q.text) pieces ≡ texts
  pub in_place : AreInPlace labels origin pieces
  pub own_labels : HaveOwnLabels pieces
  pub fits : FitsMemory origin (bytes_of_pieces pieces)

-- what was assembled of a line without a refusal
abbrev pub IsUnrefused : Piece → Type 0
IsUnrefused q = q.fault ≡ None

-- The table has the labels of the pieces, each with its address, and no other.
abbrev pub IsLabelTable : Lookup → List Piece → Type 0
IsLabelTable labels pieces = (name : List ℕ) (address : ℕ) →
    (labels name ≡ Some address) ↔ HasLabel pieces name address

-- The lines make this program at the origin: they are laid out under the table of their own labels,
-- and no piece is refused.
pub record IsProgram (texts : List (List ℕ)) (origin : ℕ) (program : List ℕ) : Type 0 where
  pub labels : Lookup
  pub pieces : List Piece
  pub laid_out : AreLaidOut labels origin texts pieces
  pub table : IsLabelTable labels pieces
  pub unrefused : All IsUnrefused pieces
  pub whole : bytes_of_pieces pieces ≡ program
