-- The instruction table: which form a word has. The masks and values are read off the diagrams of
-- the ARM2 data sheet ("Instruction set summary"); where the data sheet is silent, the names of the
-- refusals are this project's own.
use Rattle.std.specs.Prelude.{ℕ, ◌+◌, ◌==◌, Bool, ◌&&◌, not, if◌then◌else◌, bit_and, List, [], ◌∷◌, Option, Some, None, Result, Ok, Err, find, count_by}
use Rattle.std.specs.List.{list_any}
use Rattle.profile.specs.Fault.{Fault}
use Rattle.profile.specs.Fault.TheVariants.{UndefinedInstruction, Unallocated}
use Rattle.arm_decode.specs.declared.form.Form.{Form}
use Rattle.arm_decode.specs.declared.form.Form.TheVariants.{Multiply, ShiftByNumber, ShiftByRegister, Immediate, OffsetByNumber, OffsetByRegister, BlockTransfer, Branch, SoftwareInterrupt}

-- A word meets a pattern where its bits under the mask have this value.
pub record Pattern : Type 0 where
  pub mask : ℕ
  pub value : ℕ

abbrev pub pattern : ℕ → ℕ → Pattern
pattern mask value = record { mask = mask; value = value }

abbrev pub fits_pattern : ℕ → Pattern → Bool
fits_pattern word p = bit_and word p.mask == p.value

abbrev pub rows : List (Form × Pattern)
rows =
    (Multiply, pattern 0x0FC000F0 0x00000090)
    ∷ (ShiftByNumber, pattern 0x0E000010 0x00000000)
    ∷ (ShiftByRegister, pattern 0x0E000090 0x00000010)
    ∷ (Immediate, pattern 0x0E000000 0x02000000)
    ∷ (OffsetByNumber, pattern 0x0E000000 0x04000000)
    ∷ (OffsetByRegister, pattern 0x0E000010 0x06000000)
    ∷ (BlockTransfer, pattern 0x0E000000 0x08000000)
    ∷ (Branch, pattern 0x0E000000 0x0A000000)
    ∷ (SoftwareInterrupt, pattern 0x0F000000 0x0F000000)
    ∷ []

-- the undefined instructions, and the coprocessor instructions, of which the machine has none
abbrev pub undefined_patterns : List Pattern
undefined_patterns = pattern 0x0E000010 0x06000010 ∷ pattern 0x0E000000 0x0C000000
    ∷ pattern 0x0F000000 0x0E000000 ∷ []

abbrev pub is_undefined : ℕ → Bool
is_undefined word = list_any (fits_pattern word) undefined_patterns

abbrev pub form_or_fault : Option (Form × Pattern) → Bool → Result Form Fault
form_or_fault (Some row) is_undefined = Ok row.0
form_or_fault None is_undefined = Err (if is_undefined then UndefinedInstruction else Unallocated)

-- the first row that the word meets, or else its fault
abbrev pub form_of : ℕ → Result Form Fault
form_of word = form_or_fault (find (λ row. fits_pattern word row.1) rows) (is_undefined word)

-- what is left: the words beside multiply, with bits 7 and 4 set where data processing has a shift
-- by a register
abbrev pub is_gap : ℕ → Bool
is_gap word = fits_pattern word (pattern 0x0E000090 0x00000090)
    && not (fits_pattern word (pattern 0x0FC000F0 0x00000090))

-- how many of the rows, the undefined patterns and the gap a word meets
abbrev pub rows_met : ℕ → ℕ
rows_met word = count_by (λ row. fits_pattern word row.1) rows + count_by
    (fits_pattern word) undefined_patterns + (if is_gap word then 1 else 0)
