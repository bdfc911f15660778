-- The columns of an instruction: its address, its word and its text, with the names that a
-- program's text has: of the label to which a branch goes, and of a SWI that the machine has.
use Rattle.std.specs.Prelude.{ℕ, ◌+◌, ◌*◌, ◌/◌, ◌%◌, ◌^◌, ◌==◌, List, [], ◌∷◌, ◌++◌, codes, Option, Some, None, if◌then◌else◌}
use Rattle.std.specs.List.{slice_split}
use Rattle.profile.specs.Digits.{hex_word}
use Rattle.profile.specs.Sums.{address_further}
use Rattle.profile.specs.SwiNames.{swi_name, swi_of}
use Rattle.profile.specs.Word.{bit_of}
use Rattle.profile.specs.declared.swi.SwiName.{SwiName}
use Rattle.trace_store_text.specs.Printing.{print}
use Rattle.trace_store_text.specs.Step.{without_x}
use Rattle.trace_effects.specs.declared.cause.Cause.{Cause}
use Rattle.trace_effects.specs.declared.cause.Cause.TheVariants.{Gate, Unmapped, Skipped, Word}

abbrev pub word_column : Cause → List ℕ
word_column (Skipped word) = hex_word word
word_column (Word word) = hex_word word
word_column _ = codes "--------"

-- columns 1 to 18
abbrev pub front_text : ℕ → Cause → List ℕ
front_text pc cause = hex_word pc ++ (codes " " ++ (word_column cause ++ codes " "))

-- by itself, as CODE shows it
abbrev pub what_text : ℕ → Cause → List ℕ
what_text pc Gate = codes "return gate"
what_text pc Unmapped = codes "unmapped"
what_text pc (Skipped word) = print word pc
what_text pc (Word word) = print word pc

-- Where the branch of a word goes, if it is one (ARM2 data sheet, "Branch and branch with link"):
-- bits 27 to 25 are 101, and the lower 24 count words from the address plus 8 on, modulo 2^26.
abbrev pub destination_of_word : ℕ → ℕ → Option ℕ
destination_of_word pc word = if word / 2 ^ 25 % 8 == 5
    then Some (address_further pc (8 + 4 * (word % 2 ^ 24)) % 2 ^ 26) else None

-- Whether it is carried out makes no difference.
abbrev pub branch_destination : ℕ → Cause → Option ℕ
branch_destination pc (Skipped word) = destination_of_word pc word
branch_destination pc (Word word) = destination_of_word pc word
branch_destination pc _ = None

-- the number of a SWI (ARM2 data sheet, "Software interrupt"): bits 27 to 24 are 1111
abbrev pub swi_of_word : ℕ → Option ℕ
swi_of_word word = if word / 2 ^ 24 % 16 == 15 then Some (word % 2 ^ 24) else None

abbrev pub swi_standing : Cause → Option ℕ
swi_standing (Skipped word) = swi_of_word word
swi_standing (Word word) = swi_of_word word
swi_standing _ = None

-- a text's first word
abbrev pub mnemonic_of : List (List ℕ) → List ℕ
mnemonic_of [] = []
mnemonic_of (word ∷ others) = word

-- an instruction's mnemonic, and another operand
abbrev pub by_name : List ℕ → List ℕ → List ℕ → List ℕ
by_name text front name = mnemonic_of (slice_split (λ b. b == 32) text) ++ (codes " " ++ (front ++ name))

abbrev pub x_text : ℕ → List ℕ
x_text number = if bit_of number 17 then codes "X" else []

abbrev pub with_call : List ℕ → ℕ → Option SwiName → List ℕ
with_call text number None = text
with_call text number (Some call) = by_name text (x_text number) (swi_name call)

abbrev pub text_by_names : List ℕ → Option (List ℕ) → Option ℕ → List ℕ
text_by_names text label (Some number) = with_call text number (swi_of (without_x number))
text_by_names text (Some label) None = by_name text [] label
text_by_names text None None = text

-- what stands at a program counter, where a branch there goes to this label
abbrev pub named_text : ℕ → Cause → Option (List ℕ) → List ℕ
named_text pc cause label = text_by_names (what_text pc cause) label (swi_standing cause)
