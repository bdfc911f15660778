-- The first line that is refused, and why, without passes. Lines that can't be laid out count
-- before values.
use Rattle.std.specs.Prelude.{ℕ, ◌≡◌, ◌+◌, ◌⊎◌, List, ◌∷◌, ◌++◌, length, map, Some, None}
use Rattle.std.specs.List.{All}
use Rattle.assembler_reading.specs.Expressions.{Lookup}
use Rattle.assembler_reading.specs.Reason.{Reason}
use Rattle.assembler_reading.specs.Reason.TheVariants.{Syntax, LabelTwice, TooLong}
use Rattle.assembler.specs.declared.error.AsmError.{AsmError}
use Rattle.assembler.specs.assembled.Pieces.{HasLabel, IsPiece, Piece, bytes_of_pieces}
use Rattle.assembler.specs.assembled.Programs.{AreLaidOut, FitsMemory, IsLabelTable, IsUnrefused}

-- no label is known
abbrev pub no_labels : Lookup
no_labels name = None

-- the piece of a line after others
pub record Follows (origin : ℕ) (pieces : List Piece) (text : List ℕ) (q : Piece) : Type 0 where
  pub line : q.text ≡ text
  pub piece : IsPiece no_labels origin (length (bytes_of_pieces pieces)) q

-- an earlier line has the label
abbrev pub IsTwice : List Piece → Piece → Type 0
IsTwice pieces q = (address : ℕ) × HasLabel pieces q.label address

-- Why a line can't be laid out after others, the reasons in this order: it is not of the grammar;
-- it has a label of an earlier line; it ends too far.
abbrev pub IsUnplacedFor : ℕ → List Piece → List ℕ → Reason → Type 0
IsUnplacedFor origin pieces text Syntax = (q : Piece) → Follows origin pieces text q → ⊥
IsUnplacedFor origin pieces text LabelTwice = (q : Piece) × (Follows origin pieces text q × IsTwice pieces q)
IsUnplacedFor origin pieces text TooLong =
    (q : Piece) × (Follows origin pieces text q × ((IsTwice pieces q → ⊥) ×
    (FitsMemory origin (bytes_of_pieces pieces ++ q.bytes) → ⊥)))
IsUnplacedFor origin pieces text _ = ⊥

-- The lines before this one are laid out, whatever their labels stand for, and this one can't be.
pub record IsUnplaced (texts : List (List ℕ)) (origin : ℕ) (error : AsmError) : Type 0 where
  pub pieces : List Piece
  pub text : List ℕ
  pub others : List (List ℕ)
  pub lines : texts ≡ map (λ q. q.text) pieces ++ (text ∷ others)
  pub laid_out : AreLaidOut no_labels origin (map (λ q. q.text) pieces) pieces
  pub number : error.line ≡ length pieces + 1
  pub reason : IsUnplacedFor origin pieces text error.reason

-- All lines are laid out under the table of their own labels, and this piece is the first that is
-- refused.
pub record IsUnvalued (texts : List (List ℕ)) (origin : ℕ) (error : AsmError) : Type 0 where
  pub labels : Lookup
  pub pieces : List Piece
  pub laid_out : AreLaidOut labels origin texts pieces
  pub table : IsLabelTable labels pieces
  pub before : List Piece
  pub piece : Piece
  pub after : List Piece
  pub among : pieces ≡ before ++ (piece ∷ after)
  pub unrefused : All IsUnrefused before
  pub number : error.line ≡ length before + 1
  pub reason : piece.fault ≡ Some error.reason

abbrev pub IsRefused : List (List ℕ) → ℕ → AsmError → Type 0
IsRefused texts origin error = IsUnplaced texts origin error ⊎ IsUnvalued texts origin error
