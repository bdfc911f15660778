-- The ASM blocks with errors, which made no image: what BOOT and LOAD of such a name are answered beside a
-- script's answer.
use Rattle.std.specs.Prelude.{ℕ, Bool, true, false, ◌++◌, not, List, [], ◌∷◌, codes, filter, is_some, Option, Some, None, if◌then◌else◌}
use Rattle.std.specs.Fmt.{decimal}
use Rattle.std.specs.Str.{bytes_eq}
use Rattle.command_shell_lines.specs.Requests.{Request, Boot, Load, words}
use Rattle.assembler_text.specs.Entries.{Entry, bytes_of_image}

-- the name of a block's image, and the line at which the block begins
pub record FailedBlockPlace : Type 0 where
  pub name : List ℕ
  pub line : ℕ

abbrev pub without_failed_block : List FailedBlockPlace → List ℕ → List FailedBlockPlace
without_failed_block failed name = filter (λ (b : FailedBlockPlace). not (bytes_eq b.name name)) failed

-- after a block of that name, by whether it has errors
abbrev pub failed_after : List FailedBlockPlace → List ℕ → ℕ → Bool → List FailedBlockPlace
failed_after failed name line true = without_failed_block failed name ++ record { name = name; line = line } ∷ []
failed_after failed name line false = without_failed_block failed name

-- the line of the block of that name, if there is one
abbrev pub line_of_block : List FailedBlockPlace → List ℕ → Option ℕ
line_of_block [] name = None
line_of_block (block ∷ others) name =
    if bytes_eq block.name name then Some block.line else line_of_block others name

-- `p: the block at line 7 has errors and made no image`, or that an image of the name was there before
abbrev pub block_text : Bool → ℕ → List ℕ
block_text true line = codes ": an older image, since the block at line " ++ (decimal line ++ codes " has errors\n")
block_text false line = codes ": the block at line " ++ (decimal line ++ codes " has errors and made no image\n")

abbrev pub reason_of : Bool → List ℕ → Option ℕ → List ℕ
reason_of is_there name None = []
reason_of is_there name (Some line) = name ++ block_text is_there line

abbrev pub reason_for : List FailedBlockPlace → List Entry → List ℕ → List ℕ
reason_for failed images name =
    reason_of (is_some (bytes_of_image images name)) name (line_of_block failed name)

abbrev pub name_loaded : List (List ℕ) → List ℕ
name_loaded [] = []
name_loaded (word ∷ others) = word

-- what stands below the answer to a line that boots or loads an image
abbrev pub block_reason : List FailedBlockPlace → List Entry → Request → List ℕ
block_reason failed images (Boot name) = reason_for failed images name
block_reason failed images (Load text) = reason_for failed images (name_loaded (words text))
block_reason failed images request = []
