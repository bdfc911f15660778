-- What each line of a source gives to a program: its piece, which is shown by the line's text, the
-- place where it begins and the addresses of labels.
use Rattle.std.specs.Prelude.{ℕ, ◌≡◌, ◌≢◌, List, [], ◌∷◌, ◌++◌, length, Option, Some}
use Rattle.std.specs.List.{flat_map}
use Rattle.assembler_reading.specs.Expressions.{Lookup}
use Rattle.assembler_reading.specs.Reason.{Reason}
use Rattle.assembler.specs.Line.{Line, line}

-- a line's text; its label, where [] is none, and the address where that stands; the bytes, and
-- what they are refused for, with zeros for what has no value
pub record Piece : Type 0 where
  pub text : List ℕ
  pub label : List ℕ
  pub address : ℕ
  pub bytes : List ℕ
  pub fault : Option Reason

-- what the grammar reads of a line whose piece goes after a program
abbrev pub line_of_piece : List ℕ → Piece → Line
line_of_piece program q = record {
  label = q.label;
  statement = record { place = q.address; written = record { bytes = program ++ q.bytes; fault = q.fault } };
}

-- The piece is what its line means, under these labels, so many bytes after the origin: whatever
-- the bytes before it are, the line is read, and puts the piece after them.
abbrev pub IsPiece : Lookup → ℕ → ℕ → Piece → Type 0
IsPiece labels origin place q =
    (program : List ℕ) → length program ≡ place
    → line labels origin program q.text ≡ Some (line_of_piece program q)

-- the bytes of pieces, one after another
abbrev pub bytes_of_pieces : List Piece → List ℕ
bytes_of_pieces pieces = flat_map (λ q. q.bytes) pieces

-- Each piece stands where those before it end.
abbrev pub AreInPlace : Lookup → ℕ → List Piece → Type 0
AreInPlace labels origin pieces =
    (before after : List Piece) (q : Piece) → pieces ≡ before ++ (q ∷ after)
    → IsPiece labels origin (length (bytes_of_pieces before)) q

-- No two pieces have the same label.
abbrev pub HaveOwnLabels : List Piece → Type 0
HaveOwnLabels pieces =
    (before between after : List Piece) (q r : Piece) → pieces ≡ before ++ (q ∷ (between ++ (r ∷ after)))
    → q.label ≡ r.label → q.label ≡ []

-- One of the pieces has this label, at this address.
pub record HasLabel (pieces : List Piece) (name : List ℕ) (address : ℕ) : Type 0 where
  pub before : List Piece
  pub piece : Piece
  pub after : List Piece
  pub among : pieces ≡ before ++ (piece ∷ after)
  pub label : piece.label ≡ name
  pub some : name ≢ []
  pub at : piece.address ≡ address
