-- The lists on a line without counts. A count bounds the terms of a number, the items of DCD and
-- DCB, and the registers of LDM and STM, in the definitions of the assembler; what is said here is
-- that each goes on for as long as its sign or comma stands there, whatever the count.
use Rattle.std.specs.Prelude.{ℕ, ◌≡◌, List, length, Option}
use Rattle.assembler_reading.specs.Expressions.{Lookup, Value, more_terms, next_term, sign}
use Rattle.assembler_reading.specs.Words.{comma, ◌>>=◌}
use Rattle.assembler_reading.specs.RegisterLists.{more_registers, next_registers, register_range, with_range}
use Rattle.assembler.specs.Directives.{more_items, next_item}
use Rattle.assembler.specs.Written.{Written}
use Rattle.assembler.specs.declared.directives.Data.{Data}

-- the sum with the terms that follow it, as `expression` reads them after the first
abbrev pub all_terms : Lookup → Value → List ℕ → Option (Value × List ℕ)
all_terms labels sum text = more_terms (length text) labels sum text

-- what is written with the items that follow it, as `items` reads them after the first
abbrev pub all_items : Data → Lookup → Written → List ℕ → Option (Written × List ℕ)
all_items kind labels written text = more_items (length text) kind labels written text

-- the list with the registers and ranges up to the closing brace, as `register_list` reads them
abbrev pub all_registers : ℕ → List ℕ → Option (ℕ × List ℕ)
all_registers list text = more_registers (length text) list text

-- after a sign a term and all that follow it, else nothing
abbrev pub TermsGoOn : Type 0
TermsGoOn =
    (labels : Lookup) (sum : Value) (text : List ℕ)
    → all_terms labels sum text ≡ next_term (all_terms labels) labels sum text (sign text)

-- after a comma an item and all that follow it, else nothing
abbrev pub ItemsGoOn : Type 0
ItemsGoOn =
    (kind : Data) (labels : Lookup) (written : Written) (text : List ℕ)
    → all_items kind labels written text ≡ next_item (all_items kind labels) kind labels written text
    (comma text)

-- a register or a range, and after a comma all that follow it, else the closing brace
abbrev pub RegistersGoOn : Type 0
RegistersGoOn =
    (list : ℕ) (text : List ℕ)
    → all_registers list text
    ≡ (register_range text >>= λ range. next_registers all_registers
    (with_range list range.0.0 range.0.1) range.1 (comma range.1))
