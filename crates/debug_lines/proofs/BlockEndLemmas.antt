-- Blocks that lack their line END, read line by line.
use Rattle.std.proofs.Common.{◌≡◌, ℕ, Bool, true, false, List, [], ◌∷◌, ap, sym, refl, ◌∙◌}
use Rattle.std.specs.Prelude.{not}
use Rattle.profile.specs.text_lines.WholeLines.{unended_line, whole_lines}
use Rattle.command_shell_lines.specs.Requests.{is_end_of_block, request_of}
use Rattle.debug_lines.specs.BlockEnds.{BlocksRead, begins_if, blocks_after_line, blocks_after_lines, blocks_read, blocks_read_from, missing_ends_if, is_in_block, is_outside_blocks, one_line_more, place_after, place_at_opening, place_in_block, place_when_shown}
use Rattle.debug_lines.specs.DebugRequests.{debug_opens_block, debug_request}
use Rattle.debug_lines.specs.WholeDebugRequests.{is_debug_block_open_after}
use Rattle.debug_lines.specs.declared.block_ends.BlockPlace.{BlockPlace}
use Rattle.debug_lines.specs.declared.block_ends.BlockPlace.TheVariants.{Outside, Within, Reported}
use Rattle.debug_lines.specs.declared.block_ends.BlockReading.{BlockReading}

-- a line more
pub ends_read_on : (before after : BlockReading) (line : List ℕ) (all rest : List (List ℕ)) (final : BlocksRead)
    → all ≡ line ∷ rest → blocks_read after ≡ blocks_after_line (blocks_read before) line
    → blocks_after_lines (blocks_read before) all ≡ final → blocks_after_lines (blocks_read after) rest ≡ final
unfolding blocks_after_lines
ends_read_on before after line all rest final first step done =
    ap (λ (r : BlocksRead). blocks_after_lines r rest) step
    ∙ sym (ap (blocks_after_lines (blocks_read before)) first) ∙ done

ends_none : (r : BlocksRead) → blocks_after_lines r [] ≡ r
unfolding blocks_after_lines
ends_none r = refl

-- no line is left that has its end
pub ends_all_read : (reading : BlockReading) (text rest : List ℕ) (number : ℕ) (is_all : Bool)
    → whole_lines rest ≡ [] → unended_line rest ≡ rest
    → blocks_after_lines (blocks_read reading) (whole_lines rest) ≡ blocks_after_lines (blocks_read_from number) (whole_lines text)
    → unended_line rest ≡ unended_line text
    → begins_if is_all (blocks_read reading) rest ≡ missing_ends_if is_all number text
ends_all_read reading text rest number is_all none unended lines same =
    ap (λ (r : BlocksRead). begins_if is_all r rest)
    (sym (ap (blocks_after_lines (blocks_read reading)) none ∙ ends_none (blocks_read reading)) ∙ lines)
    ∙ ap (begins_if is_all (blocks_after_lines (blocks_read_from number) (whole_lines text))) (sym unended ∙ same)

-- a block is open where the reading of requests has one open
opening_in_block : (opens : Bool) (number : ℕ) → is_in_block (place_at_opening opens number) ≡ opens
opening_in_block true number = refl
opening_in_block false number = refl

goes_on_in_block : (ends goes_on : Bool) (begin : ℕ) → is_in_block (place_in_block ends goes_on begin) ≡ not ends
goes_on_in_block true goes_on begin = refl
goes_on_in_block false true begin = refl
goes_on_in_block false false begin = refl

shown_in_block : (ends : Bool) → is_in_block (place_when_shown ends) ≡ not ends
shown_in_block true = refl
shown_in_block false = refl

in_block_after : (place : BlockPlace) (number : ℕ) (line : List ℕ)
    → is_in_block (place_after place number line) ≡ is_debug_block_open_after (is_in_block place) line
in_block_after Outside number line = opening_in_block (debug_opens_block (debug_request line)) number
in_block_after (Within begin) number line =
    goes_on_in_block (is_end_of_block line) (is_outside_blocks (request_of line)) begin
in_block_after Reported number line = shown_in_block (is_end_of_block line)

pub in_block_then : (before after : BlockReading) (line : List ℕ)
    → blocks_read after ≡ blocks_after_line (blocks_read before) line
    → is_in_block after.place ≡ is_debug_block_open_after (is_in_block before.place) line
in_block_then before after line step =
    ap (λ (r : BlocksRead). is_in_block r.place) step
    ∙ in_block_after before.place (one_line_more before.number) line

-- all lines are read that have their end
pub ends_whole_read : (reading : BlockReading) (text rest : List ℕ) (number : ℕ) → whole_lines rest ≡ []
    → blocks_after_lines (blocks_read reading) (whole_lines rest) ≡ blocks_after_lines (blocks_read_from number) (whole_lines text)
    → reading.begins.items ≡ missing_ends_if false number text
ends_whole_read reading text rest number none lines =
    ap (λ (r : BlocksRead). r.begins)
    (sym (ap (blocks_after_lines (blocks_read reading)) none ∙ ends_none (blocks_read reading)) ∙ lines)
