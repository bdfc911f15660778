-- A block of a script: the lines up to one that ends it, or up to the script's end.
use Rattle.std.specs.Prelude.{ℕ, Bool, true, false, ◌+◌, List, [], ◌∷◌, ◌++◌, Option, Some, None, Result, Ok, Err, if◌then◌else◌}
use Rattle.command_shell_lines.specs.HexPairs.{bytes_of_hex_pairs}
use Rattle.command_shell_lines.specs.Requests.{is_end_of_block}
use Rattle.command_shell_lines.specs.declared.blocks.Block.{Block}
use Rattle.command_shell_lines.specs.declared.blocks.Block.TheVariants.{Bytes, BadLine}

unfoldable pub block_lines : List (List ℕ) → List (List ℕ)
block_lines [] = []
block_lines (line ∷ rest) = if is_end_of_block line then [] else line ∷ block_lines rest

-- the lines after it
unfoldable pub after_block : List (List ℕ) → List (List ℕ)
after_block [] = []
after_block (line ∷ rest) = if is_end_of_block line then rest else after_block rest

-- how many lines it takes, with the one that ends it
unfoldable pub lines_in_block : List (List ℕ) → ℕ
lines_in_block [] = 0
lines_in_block (line ∷ rest) = if is_end_of_block line then 1 else 1 + lines_in_block rest

abbrev pub joined_bytes : ℕ → Option (List ℕ) → Result (List ℕ) ℕ → Result (List ℕ) ℕ
joined_bytes number None more = Err number
joined_bytes number (Some bytes) (Ok more) = Ok (bytes ++ more)
joined_bytes number (Some bytes) (Err later) = Err later

-- The bytes that the lines of a HEX block spell, where `number` lines came before; or the number of
-- the first line that isn't whole pairs.
unfoldable pub block_bytes : ℕ → List (List ℕ) → Result (List ℕ) ℕ
block_bytes number [] = Ok []
block_bytes number (line ∷ rest) = joined_bytes (number + 1) (bytes_of_hex_pairs line)
    (block_bytes (number + 1) rest)

-- the lines that follow a request, without its block if it opens one, and how many lines the block
-- takes
abbrev pub lines_after : Bool → List (List ℕ) → List (List ℕ)
lines_after false rest = rest
lines_after true rest = after_block rest

abbrev pub lines_taken : Bool → List (List ℕ) → ℕ
lines_taken false rest = 0
lines_taken true rest = lines_in_block rest

-- a block as the code has read it
abbrev pub result_of_block : Block → Result (List ℕ) ℕ
result_of_block (Bytes bytes) = Ok bytes.items
result_of_block (BadLine number) = Err number
