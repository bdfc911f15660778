-- The errors of an ASM block as text: `line 12: B nowhere: no line has the label, or no SWI the name (UnknownLabel)`.
use Rattle.std.specs.Prelude.{ℕ, Bool, true, false, ◌+◌, ◌==◌, List, [], ◌∷◌, ◌++◌, length, take, nat_lt, codes, if◌then◌else◌}
use Rattle.std.specs.Fmt.{decimal}
use Rattle.std.specs.List.{flat_map}
use Rattle.assembler_text.specs.declared.naming.reason.Reason.{Reason}
use Rattle.assembler_text.specs.declared.naming.reason.Reason.TheVariants.{Syntax, LabelTwice, TooLong, UnknownLabel, BadImmediate, OutOfReach, Forbidden, Memory}
use Rattle.assembler_text.specs.naming.Words.{after_spaces, word}
use Rattle.debug_tables.specs.AsmError.{AsmError}
use Rattle.debug_listing.specs.BlockErrors.{block_errors}
use Rattle.command_shell_lines.specs.Requests.{Request, Asm}

abbrev pub asm_reason_text : Reason → List ℕ
asm_reason_text Syntax = codes "no line of the assembler (Syntax)"
asm_reason_text LabelTwice = codes "another line has the label (LabelTwice)"
asm_reason_text TooLong = codes "the program passes 1,048,576 bytes or &4000000 (TooLong)"
asm_reason_text UnknownLabel = codes "no line has the label, or no SWI the name (UnknownLabel)"
asm_reason_text BadImmediate = codes "the number doesn't fit (BadImmediate)"
asm_reason_text OutOfReach = codes "the address can't be reached from here (OutOfReach)"
asm_reason_text Forbidden = codes "a fault when it runs (Forbidden)"
asm_reason_text Memory = codes "no memory is left (Memory)"

-- the label that an error is about, or else the line without the spaces before it
abbrev pub part_shown : Reason → List ℕ → List ℕ
part_shown LabelTwice line = word line
part_shown reason line = after_spaces line

abbrev pub error_text : ℕ → List ℕ → Reason → List ℕ
error_text number line reason = codes "line " ++ (decimal number ++ (codes ": " ++ (part_shown reason line
    ++ (codes ": " ++ (asm_reason_text reason ++ codes "\n")))))

-- by a line's number in the block and in the script
abbrev pub error_text_if : ℕ → ℕ → List ℕ → AsmError → List ℕ
error_text_if in_block number line e = if e.line == in_block then error_text number line e.reason else []

-- the errors of lines, of which so many stood before in the block and in the script
unfoldable pub errors_text : List AsmError → ℕ → ℕ → List (List ℕ) → List ℕ
errors_text errors in_block number [] = []
errors_text errors in_block number (line ∷ others) = flat_map
    (error_text_if (in_block + 1) (number + 1) line) errors
    ++ errors_text errors (in_block + 1) (number + 1) others

abbrev pub further_text : List AsmError → List ℕ
further_text errors = if nat_lt 20 (length errors) then codes "further errors are not listed\n" else []

-- the first 20 of some errors, line by line, and whether there are more
abbrev pub listed_errors_text : List AsmError → ℕ → List (List ℕ) → List ℕ
listed_errors_text errors number lines = errors_text (take 20 errors) 0 number lines ++ further_text errors

-- of the block of a line at that number, if it is an ASM block
abbrev pub block_errors_text : ℕ → Request → List (List ℕ) → List ℕ
block_errors_text number (Asm name origin) block = listed_errors_text (block_errors block origin) number block
block_errors_text number request block = []

-- what a script answers to a block, and behind it the errors where it is refused
abbrev pub text_with_errors : Bool → ℕ → Request → List (List ℕ) → List ℕ → List ℕ
text_with_errors false number request block text = text
text_with_errors true number request block text = text ++ block_errors_text number request block
