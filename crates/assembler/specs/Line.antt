-- A line: a label or none, and then, after spaces, an instruction or a directive or nothing, and a
-- comment or none. `loop SUBS R0,R0,#1 ; count` is a label, an instruction and a comment.
use Rattle.std.specs.Prelude.{ℕ, ◌+◌, ◌==◌, ◌||◌, List, ◌++◌, length, replicate, Option, None, Some, if◌then◌else◌}
use Rattle.assembler_reading.specs.Words.{◌>>=◌, word, after_word, spaces, is_end_of_line}
use Rattle.assembler_reading.specs.Labels.{is_label}
use Rattle.assembler_reading.specs.Expressions.{Lookup}
use Rattle.assembler_reading.specs.Instructions.{instruction}
use Rattle.assembler.specs.declared.directives.Directive.{Directive}
use Rattle.assembler.specs.declared.directives.Directive.TheVariants as directive
use Rattle.assembler.specs.declared.directives.Data.{Data}
use Rattle.assembler.specs.declared.directives.Data.TheVariants.{Words, Bytes}
use Rattle.assembler.specs.Written.{Written, written_without_fault, with_item, instruction_item, program_to_whole_words}
use Rattle.assembler.specs.Directives.{directive_named, items, size}

-- the address where a label on the line stands, and the program with what the line is written as at
-- its end
pub record Statement : Type 0 where
  pub place : ℕ
  pub written : Written

pub record Line : Type 0 where
  pub label : List ℕ
  pub statement : Statement

-- of a label at the end of `start`
abbrev pub statement : ℕ → List ℕ → Written → Statement
statement origin start written = record { place = origin + length start; written = written }

-- instructions and DCD are aligned first, before a label on their line counts
abbrev pub instruction_at : Lookup → ℕ → List ℕ → List ℕ → Option (Statement × List ℕ)
instruction_at labels origin start text = do
  read ← instruction labels (origin + length start) text
  Some (statement origin start (with_item (written_without_fault start) (instruction_item read.0)), read.1)

abbrev pub listed_at : Data → Lookup → ℕ → List ℕ → List ℕ → Option (Statement × List ℕ)
listed_at kind labels origin start text = do
  rest ← spaces text
  written ← items kind labels (written_without_fault start) rest
  Some (statement origin start written.0, written.1)

abbrev pub listed_start : Data → List ℕ → List ℕ
listed_start Words program = program_to_whole_words program
listed_start Bytes program = program

abbrev pub space_at : ℕ → List ℕ → List ℕ → Option (Statement × List ℕ)
space_at origin program text = do
  rest ← spaces text
  count ← size rest
  Some (statement origin program (written_without_fault (program ++ replicate count.0 0)), count.1)

-- by the directive that the first word names, if it names one
abbrev pub statement_of_directive : Lookup → ℕ → List ℕ → List ℕ → Option Directive →
    Option (Statement × List ℕ)
statement_of_directive labels origin program text None =
    instruction_at labels origin (program_to_whole_words program) text
statement_of_directive labels origin program text (Some (directive.Listed kind)) =
    listed_at kind labels origin (listed_start kind program) (after_word text)
statement_of_directive labels origin program text (Some directive.Space) =
    space_at origin program (after_word text)
statement_of_directive labels origin program text (Some directive.Align) =
    Some (statement origin program (written_without_fault (program_to_whole_words program)), after_word text)

abbrev pub statement_at : Lookup → ℕ → List ℕ → List ℕ → Option (Statement × List ℕ)
statement_at labels origin program text = statement_of_directive labels origin program text
    (directive_named (word text))

-- what is left of a line after its label
abbrev pub statement_of : Lookup → ℕ → List ℕ → List ℕ → Option Statement
statement_of labels origin program text = if is_end_of_line text then
    Some (statement origin program (written_without_fault program)) else (do
      rest ← spaces text
      read ← statement_at labels origin program rest
      if is_end_of_line read.1 then Some read.0 else None)

-- the label that a line begins with; [] is none
abbrev pub label_of : List ℕ → Option (List ℕ)
label_of text = if length (word text) == 0 || is_label (word text) then Some (word text) else None

-- A line after a program from the origin on, with these labels; None is Syntax.
unfoldable pub line : Lookup → ℕ → List ℕ → List ℕ → Option Line
line labels origin program text = do
  name ← label_of text
  read ← statement_of labels origin program (after_word text)
  Some (record { label = name; statement = read })
