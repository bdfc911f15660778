-- Which lines of a debugging script are requests that are whole: a line, or one that opens a block
-- with all up to the line that ends it.
use Rattle.std.specs.Prelude.{◌≡◌, ◌≤◌, ℕ, Bool, true, false, not, ◌&&◌, List, [], ◌∷◌, length, take, drop}
use Rattle.profile.specs.text_lines.WholeLines.{whole_lines, unended_line}
use Rattle.command_shell_lines.specs.Requests.{is_end_of_block}
use Rattle.debug_lines.specs.DebugRequests.{debug_request, debug_opens_block}

-- whether a block is open after a line, by whether one is open before it
abbrev pub is_debug_block_open_after : Bool → List ℕ → Bool
is_debug_block_open_after true line = not (is_end_of_block line)
is_debug_block_open_after false line = debug_opens_block (debug_request line)

-- whether one is open after some lines
unfoldable pub is_debug_block_open_after_lines : Bool → List (List ℕ) → Bool
is_debug_block_open_after_lines is_open [] = is_open
is_debug_block_open_after_lines is_open (line ∷ rest) =
    is_debug_block_open_after_lines (is_debug_block_open_after is_open line) rest

-- whether one is open after each of some lines
unfoldable pub is_debug_block_open_throughout : Bool → List (List ℕ) → Bool
is_debug_block_open_throughout is_open [] = true
is_debug_block_open_throughout is_open (line ∷ rest) =
    is_debug_block_open_after is_open line && is_debug_block_open_throughout true rest

-- So many bytes of a text are requests that are whole, and no request that follows them is.
pub record AreWholeDebugRequests (text : List ℕ) (count : ℕ) : Type 0 where
  pub in_text : count ≤ length text
  pub at_an_end : unended_line (take count text) ≡ []
  pub closed : is_debug_block_open_after_lines false (whole_lines (take count text)) ≡ false
  pub rest_is_open : is_debug_block_open_throughout false (whole_lines (drop count text)) ≡ true
