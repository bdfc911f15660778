-- All errors of an ASM block: each is the first of the block without what those before it are about.
use Rattle.std.specs.Prelude.{◌≡◌, ◌⊎◌, ℕ, Bool, true, zero, suc, ◌+◌, ◌==◌, List, [], ◌∷◌, ◌++◌, length, take, slice_get, Option, None, Some, is_none, Result, Ok, Err, if◌then◌else◌}
use Rattle.assembler_text.specs.declared.naming.reason.Reason.{Reason}
use Rattle.assembler_text.specs.declared.naming.reason.Reason.TheVariants.{LabelTwice}
use Rattle.assembler_text.specs.naming.Labels.{is_label}
use Rattle.assembler_text.specs.naming.Words.{word}
use Rattle.debug_tables.specs.Passes.{means}
use Rattle.debug_tables.specs.AsmError.{AsmError}
use Rattle.command_shell_lines.specs.Requests.{Request, Asm}

-- What is left of a line that an error is about: its label, so that the lines that name it are no errors
-- for that. Nothing is left where it has none, or where the label is the error.
abbrev pub part_kept : Reason → List ℕ → List ℕ
part_kept LabelTwice line = []
part_kept reason line = if is_label (word line) then word line else []

abbrev pub line_after_error : ℕ → List ℕ → AsmError → List ℕ
line_after_error number line e = if e.line == number then part_kept e.reason line else line

-- the line of that number, without what errors are about
abbrev pub line_without : List AsmError → ℕ → List ℕ → List ℕ
line_without [] number line = line
line_without (e ∷ others) number line = line_without others number (line_after_error number line e)

-- a source of lines from that number on, without what errors are about; each line ends in CR LF
unfoldable pub source_without : List AsmError → ℕ → List (List ℕ) → List ℕ
source_without errors number [] = []
source_without errors number (line ∷ others) =
    line_without errors number line ++ (13 ∷ 10 ∷ source_without errors (number + 1) others)

abbrev pub error_found_in : {A : Type 0} → Result A AsmError → Option AsmError
error_found_in (Ok a) = None
error_found_in (Err error) = Some error

-- the error of a block's lines at an origin, without what those are about that were found before
abbrev pub next_error : List AsmError → List (List ℕ) → ℕ → Option AsmError
next_error found lines origin = error_found_in (means (source_without found 1 lines) origin)

-- whether a line's block has a program, if it is an ASM block
abbrev pub is_assembled : Request → List (List ℕ) → Bool
is_assembled (Asm name origin) block = is_none (next_error [] block origin)
is_assembled request block = true

abbrev pub with_others : List AsmError → (List AsmError → List AsmError) → Option AsmError → List AsmError
with_others found others None = []
with_others found others (Some error) = error ∷ others (found ++ error ∷ [])

-- so many further errors at most, one after another
unfoldable pub further_errors : ℕ → List (List ℕ) → ℕ → List AsmError → List AsmError
further_errors zero lines origin found = []
further_errors (suc n) lines origin found =
    with_others found (further_errors n lines origin) (next_error found lines origin)

-- the first 21 errors of a block: 20 are listed, and one more shows that there are more
abbrev pub block_errors : List (List ℕ) → ℕ → List AsmError
block_errors lines origin = further_errors 21 lines origin []

-- Each error is that of its line where nothing is left of the lines before it in the list but their
-- labels; and then no error is left, or 21 are found.
pub record AreBlockErrors (lines : List (List ℕ)) (origin : ℕ) (errors : List AsmError) : Type 0 where
  pub each : (n : ℕ) (e : AsmError) → slice_get errors n ≡ Some e → next_error (take n errors) lines origin
      ≡ Some e
  pub all : (next_error errors lines origin ≡ None) ⊎ (length errors ≡ 21)

abbrev pub BlockErrorsAreTheirLines : Type 0
BlockErrorsAreTheirLines = (lines : List (List ℕ)) (origin : ℕ) → AreBlockErrors lines origin
    (block_errors lines origin)
