-- What a source means at an origin: its program, or the first line that is refused and why. Both
-- passes read each line; the first knows no label and finds the places of all, the second knows
-- them all and gives the bytes.
use Rattle.std.specs.Prelude.{ℕ, ◌+◌, ◌^◌, ◌==◌, ◌||◌, List, [], ◌∷◌, ◌++◌, length, nat_lt, Bool, false, Option, None, Some, is_some, Result, Ok, Err, if◌then◌else◌}
use Rattle.std.specs.Str.Lines.{lines}
use Rattle.profile.specs.Outcome.{bind}
use Rattle.assembler_reading.specs.Reason.{Reason}
use Rattle.assembler_reading.specs.Reason.TheVariants.{Syntax, LabelTwice, TooLong}
use Rattle.assembler_reading.specs.Expressions.{Lookup}
use Rattle.assembler_reading.specs.Labels.{Entries, address_of}
use Rattle.assembler.specs.declared.error.AsmError.{AsmError}
use Rattle.assembler.specs.Line.{Line, line}

-- over 1,048,576 bytes, or past the 26-bit addresses
abbrev pub is_program_too_long : ℕ → List ℕ → Bool
is_program_too_long origin program = nat_lt 1048576 (length program)
    || nat_lt (2 ^ 26) (origin + length program)

-- go on after a line of that number, or refuse it
abbrev pub error_with_line : {A B : Type 0} → ℕ → Result A Reason → (A → Result B AsmError) →
    Result B AsmError
error_with_line number (Ok a) next = next a
error_with_line number (Err reason) next = Err (record { line = number; reason = reason })

-- what a line leaves behind, unless it is refused
abbrev pub leaving : {A U : Type 0} → A → Result U Reason → Result A Reason
leaving after (Ok u) = Ok after
leaving after (Err reason) = Err reason

-- the labels so far with their addresses, in the order of the source, and the program so far, with
-- zeros for values that need labels
pub record Measured : Type 0 where
  pub entries : Entries
  pub program : List ℕ

abbrev pub is_twice : List ℕ → Entries → Bool
is_twice label entries = if length label == 0 then false else is_some (address_of entries label)

abbrev pub with_label : Entries → List ℕ → ℕ → Entries
with_label entries label place = if length label == 0 then entries else entries ++ (label, place) ∷ []

unfoldable pub measured_with_line : ℕ → Measured → Option Line → Result Measured Reason
measured_with_line origin m None = Err Syntax
measured_with_line origin m (Some l) =
    if is_twice l.label m.entries then Err LabelTwice else (
    if is_program_too_long origin l.statement.written.bytes then Err TooLong else
    Ok (record {
      entries = with_label m.entries l.label l.statement.place;
      program = l.statement.written.bytes;
    }))

-- the labels of the lines, of which the first has that number
unfoldable pub first_pass : ℕ → ℕ → Measured → List (List ℕ) → Result Entries AsmError
first_pass origin number m [] = Ok m.entries
first_pass origin number m (text ∷ others) =
    error_with_line number (measured_with_line origin m (line (address_of []) origin m.program text))
    (λ next. first_pass origin (number + 1) next others)

-- The labels of a source's lines with their addresses, in their order, or the first line that the
-- first pass refuses and why.
abbrev pub labels_of_lines : List (List ℕ) → ℕ → Result Entries AsmError
labels_of_lines texts origin = first_pass origin 1 (record { entries = []; program = [] }) texts

abbrev pub ok_unless_reason : {A : Type 0} → Option Reason → A → Result A Reason
ok_unless_reason None a = Ok a
ok_unless_reason (Some reason) a = Err reason

-- A line that the first pass took is no Syntax and not TooLong here.
abbrev pub bytes_of_line : ℕ → Option Line → Result (List ℕ) Reason
bytes_of_line origin None = Err Syntax
bytes_of_line origin (Some l) =
    if is_program_too_long origin l.statement.written.bytes then Err TooLong
    else ok_unless_reason l.statement.written.fault l.statement.written.bytes

unfoldable pub second_pass : Lookup → ℕ → ℕ → List ℕ → List (List ℕ) → Result (List ℕ) AsmError
second_pass labels origin number program [] = Ok program
second_pass labels origin number program (text ∷ others) =
    error_with_line number (bytes_of_line origin (line labels origin program text))
    (λ more. second_pass labels origin (number + 1) more others)

unfoldable pub means_lines : List (List ℕ) → ℕ → Result (List ℕ) AsmError
means_lines texts origin = bind (labels_of_lines texts origin)
    (λ entries. second_pass (address_of entries) origin 1 [] texts)

-- The program of a source, or the line and the reason; lines end in LF or CR LF, and the last may
-- lack it.
unfoldable pub means : List ℕ → ℕ → Result (List ℕ) AsmError
means source origin = means_lines (lines source) origin
