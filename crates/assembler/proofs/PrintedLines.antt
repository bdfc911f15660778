-- A line that is a space and a printed word, in both passes.
use Rattle.std.proofs.Common.{◌≡◌, ◌<◌, ◌≤◌, ◌+◌, ◌%◌, ◌^◌, ℕ, suc, Bool, true, false, List, [], ◌∷◌, ◌++◌, length, take, drop, Some, None, Ok, refl, ap, ◌∙◌, arith}
use Rattle.std.proofs.lemmas.Bool.Decides.{nat_tests}
use Rattle.std.specs.Prelude.{codes, nat_lt}
use Rattle.std.specs.Int.{to_le_bytes, w32}
use Rattle.std.specs.List.{prefix_len}
use Rattle.assembler_reading.specs.Expressions.{Lookup, expression}
use Rattle.assembler_reading.specs.Labels.{address_of}
use Rattle.assembler_reading.specs.Words.{after_spaces, after_word, begins_comment, byte, is_end_of_line, is_space, is_word_byte, spaces, word}
use Rattle.assembler_reading.specs.Instructions.{instruction}
use Rattle.assembler.specs.Directives.{directive_named, items, with_item_read, more_items, with_word_read}
use Rattle.assembler.specs.Line.{Line, line, statement, statement_at, statement_of}
use Rattle.assembler.specs.Passes.{bytes_of_line, first_pass, is_program_too_long, means_lines, measured_with_line, second_pass}
use Rattle.assembler.specs.Written.{program_to_whole_words, written_without_fault}

-- a line of one word and no label, at the origin
abbrev pub word_line : ℕ → ℕ → Line
word_line origin w = record { label = []; statement = statement origin [] (written_without_fault (to_le_bytes w32 w)) }

-- the text of an instruction: no space, no comment and no directive at its front
pub record BeginsInstruction (text : List ℕ) : Type 0 where
  pub no_space : after_spaces text ≡ text
  pub no_comment : begins_comment text ≡ false
  pub no_directive : directive_named (word text) ≡ None

at_origin : (origin : ℕ) → origin + 0 ≡ origin
at_origin origin = omega arith

instruction_statement : (labels : Lookup) (origin w : ℕ) (text : List ℕ) → directive_named (word text) ≡ None
    → instruction labels (origin + 0) text ≡ Some (Ok w, [])
    → statement_at labels origin [] text ≡ Some (statement origin [] (written_without_fault (to_le_bytes w32 w)), [])
instruction_statement labels origin w text none read = rw (none, read) refl

-- one byte more of a run at the front
add_first : (n : ℕ) → 1 + n ≡ suc n
add_first n = omega arith

prefix_onto : (p : ℕ → Bool) (x : ℕ) (text : List ℕ) → p x ≡ true → prefix_len p (x ∷ text) ≡ suc (prefix_len p text)
prefix_onto p x text e = rw e (add_first (prefix_len p text))

pub word_onto : (x : ℕ) (text : List ℕ) → is_word_byte x ≡ true → word (x ∷ text) ≡ x ∷ word text
unfolding word
word_onto x text e = ap (λ (n : ℕ). take n (x ∷ text)) (prefix_onto is_word_byte x text e)

-- a space before a text
one_space : (text : List ℕ) → after_spaces text ≡ text → after_spaces (32 ∷ text) ≡ text
unfolding after_spaces
one_space text e = ap (λ (n : ℕ). drop n (32 ∷ text)) (prefix_onto is_space 32 text refl) ∙ e

no_end : (text : List ℕ) → after_spaces text ≡ text → begins_comment text ≡ false → is_end_of_line (32 ∷ text) ≡ false
unfolding is_end_of_line
no_end text no_space no_comment = ap begins_comment (one_space text no_space) ∙ no_comment

spaces_then : (text : List ℕ) → after_spaces text ≡ text → spaces (32 ∷ text) ≡ Some text
unfolding spaces byte
spaces_then text no_space = ap (λ (t : List ℕ). Some t) no_space

nothing_ends : is_end_of_line [] ≡ true
unfolding is_end_of_line after_spaces
nothing_ends = refl

statement_behind : (labels : Lookup) (origin w : ℕ) (text : List ℕ) → is_end_of_line (32 ∷ text) ≡ false → spaces (32 ∷ text) ≡ Some text
    → statement_at labels origin [] text ≡ Some (statement origin [] (written_without_fault (to_le_bytes w32 w)), [])
    → statement_of labels origin [] (32 ∷ text) ≡ Some (statement origin [] (written_without_fault (to_le_bytes w32 w)))
statement_behind labels origin w text no_end spaced read = rw (no_end, spaced, read, nothing_ends) refl

-- a space and what is read as one word to the end
line_of : (labels : Lookup) (origin w : ℕ) (text : List ℕ) → after_spaces text ≡ text → begins_comment text ≡ false
    → statement_at labels origin [] text ≡ Some (statement origin [] (written_without_fault (to_le_bytes w32 w)), [])
    → line labels origin [] (32 ∷ text) ≡ Some (word_line origin w)
unfolding line word after_word
line_of labels origin w text no_space no_comment read =
    rw (statement_behind labels origin w text (no_end text no_space no_comment) (spaces_then text no_space) read) refl

pub instruction_line : (labels : Lookup) (origin w : ℕ) (text : List ℕ) → BeginsInstruction text → instruction labels origin text ≡ Some (Ok w, [])
    → line labels origin [] (32 ∷ text) ≡ Some (word_line origin w)
instruction_line labels origin w text b read =
    let there : instruction labels (origin + 0) text ≡ Some (Ok w, []) = rw (at_origin origin) read in
    line_of labels origin w text b.no_space b.no_comment (instruction_statement labels origin w text b.no_directive there)

-- DCD and one word
data_statement : (labels : Lookup) (origin w : ℕ) (digits : List ℕ) → expression labels (38 ∷ digits) ≡ Some (Some w, [])
    → statement_at labels origin [] (codes "DCD " ++ (38 ∷ digits)) ≡ Some (statement origin [] (written_without_fault (to_le_bytes w32 w)), [])
unfolding word after_word spaces byte after_spaces with_item_read more_items
data_statement labels origin w digits read = rw read refl

data_begins : (digits : List ℕ) → after_spaces (codes "DCD " ++ (38 ∷ digits)) ≡ codes "DCD " ++ (38 ∷ digits)
unfolding after_spaces
data_begins digits = refl

pub data_line : (labels : Lookup) (origin w : ℕ) (digits : List ℕ) → expression labels (38 ∷ digits) ≡ Some (Some w, [])
    → line labels origin [] (32 ∷ (codes "DCD " ++ (38 ∷ digits))) ≡ Some (word_line origin w)
data_line labels origin w digits read =
    line_of labels origin w (codes "DCD " ++ (38 ∷ digits)) (data_begins digits) refl (data_statement labels origin w digits read)

-- the passes over such a line
four_fit : (origin : ℕ) (bytes : List ℕ) → length bytes ≡ 4 → origin % 4 ≡ 0 → origin < 2 ^ 26 → is_program_too_long origin bytes ≡ false
four_fit origin bytes four even low =
    let short : nat_lt 1048576 (length bytes) ≡ false = grind (arith, nat_tests, four) in
    let within : nat_lt (2 ^ 26) (origin + length bytes) ≡ false = fits (omega (arith, four, even, low)) in
    rw (short, within) refl
  where
    fits : origin + length bytes ≤ 2 ^ 26 → nat_lt (2 ^ 26) (origin + length bytes) ≡ false
    fits h = grind (arith, nat_tests, h)

pub word_fits : (origin w : ℕ) → origin % 4 ≡ 0 → origin < 2 ^ 26 → is_program_too_long origin (to_le_bytes w32 w) ≡ false
word_fits origin w even low = four_fit origin (to_le_bytes w32 w) refl even low

-- one line of a word means its four bytes
pub one_line : (origin w : ℕ) (text : List ℕ) → is_program_too_long origin (to_le_bytes w32 w) ≡ false
    → line (address_of []) origin [] text ≡ Some (word_line origin w) → means_lines (text ∷ []) origin ≡ Ok (to_le_bytes w32 w)
unfolding means_lines first_pass second_pass measured_with_line
one_line origin w text short read = rw (read, short, read, short) refl
