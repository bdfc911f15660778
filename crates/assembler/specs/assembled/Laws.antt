-- What an assembled source is, without passes: laws over the definitions alone. The origin is an
-- address below 2^26, or 2^26 itself.
use Rattle.std.specs.Prelude.{ℕ, ◌≡◌, ◌≤◌, ◌^◌, ◌↔◌, List, length, Ok, Err}
use Rattle.std.specs.Str.Lines.{lines}
use Rattle.assembler_reading.specs.Expressions.{Lookup}
use Rattle.assembler.specs.Passes.{means, means_lines}
use Rattle.assembler.specs.declared.error.AsmError.{AsmError}
use Rattle.assembler.specs.assembled.Pieces.{IsPiece, Piece}
use Rattle.assembler.specs.assembled.Programs.{IsProgram}
use Rattle.assembler.specs.assembled.Refusals.{IsRefused}

-- Lines mean a program exactly where it is made of their pieces.
abbrev pub LinesArePieces : Type 0
LinesArePieces =
    (texts : List (List ℕ)) (program : List ℕ) (origin : ℕ)
    → origin ≤ 2 ^ 26 → (means_lines texts origin ≡ Ok program) ↔ IsProgram texts origin program

-- and so does a source of such lines
abbrev pub ProgramsArePieces : Type 0
ProgramsArePieces =
    (source program : List ℕ) (origin : ℕ)
    → origin ≤ 2 ^ 26 → (means source origin ≡ Ok program) ↔ IsProgram (lines source) origin program

-- Lines are refused exactly at the first that can't be laid out, or else at the first whose piece
-- is refused.
abbrev pub LinesAreRefused : Type 0
LinesAreRefused =
    (texts : List (List ℕ)) (error : AsmError) (origin : ℕ)
    → origin ≤ 2 ^ 26 → (means_lines texts origin ≡ Err error) ↔ IsRefused texts origin error

-- and so is a source of such lines
abbrev pub RefusalsAreFirst : Type 0
RefusalsAreFirst =
    (source : List ℕ) (error : AsmError) (origin : ℕ)
    → origin ≤ 2 ^ 26 → (means source origin ≡ Err error) ↔ IsRefused (lines source) origin error

-- a piece of the same line, of as many bytes, whose label stands at the same address
pub record IsLike (q r : Piece) : Type 0 where
  pub text : r.text ≡ q.text
  pub label : r.label ≡ q.label
  pub address : r.address ≡ q.address
  pub size : length r.bytes ≡ length q.bytes

-- What labels stand for changes neither whether a line is read nor where the lines after it stand.
abbrev pub LabelsMoveNothing : Type 0
LabelsMoveNothing =
    (labels others : Lookup) (origin place : ℕ) (q : Piece)
    → IsPiece labels origin place q → (r : Piece) × (IsLike q r × IsPiece others origin place r)
