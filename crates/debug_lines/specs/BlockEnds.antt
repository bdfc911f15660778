-- Blocks that turn out to lack their line END: where a line stands in one that opens a block, boots,
-- loads, calls or runs, as a line of a script; and where the script ends in one. What such a block is
-- answered stays as it is; this is what a user is shown beside the answers.
use Rattle.std.specs.Prelude.{ℕ, ◌+◌, ◌-◌, ◌^◌, min, Bool, true, false, List, [], ◌∷◌, ◌++◌, length, drop}
use Rattle.profile.specs.text_lines.WholeLines.{whole_lines, unended_line, line_of_some}
use Rattle.command_shell_lines.specs.Requests.{Request, Asm, Boot, Call, Load, Run, is_end_of_block, request_of}
use Rattle.debug_lines.specs.DebugRequests.{debug_opens_block, debug_request}
use Rattle.debug_lines.specs.declared.block_ends.BlockPlace.{BlockPlace}
use Rattle.debug_lines.specs.declared.block_ends.BlockReading.{BlockReading}
use Rattle.debug_lines.specs.declared.block_ends.BlockPlace.TheVariants.{Outside, Within, Reported}

-- how many lines were read, up to 2^64 - 1
abbrev pub one_line_more : ℕ → ℕ
one_line_more number = min (number + 1) (2 ^ 64 - 1)

-- whether a line of a block is one that a script has outside blocks
abbrev pub is_outside_blocks : Request → Bool
is_outside_blocks (Asm name origin) = true
is_outside_blocks (Boot name) = true
is_outside_blocks (Call number) = true
is_outside_blocks (Load text) = true
is_outside_blocks Run = true
is_outside_blocks request = false

abbrev pub place_at_opening : Bool → ℕ → BlockPlace
place_at_opening true number = Within number
place_at_opening false number = Outside

abbrev pub place_in_block : Bool → Bool → ℕ → BlockPlace
place_in_block true goes_on begin = Outside
place_in_block false true begin = Reported
place_in_block false false begin = Within begin

abbrev pub place_when_shown : Bool → BlockPlace
place_when_shown true = Outside
place_when_shown false = Reported

-- where the reading stands after a line of that number
abbrev pub place_after : BlockPlace → ℕ → List ℕ → BlockPlace
place_after Outside number line = place_at_opening (debug_opens_block (debug_request line)) number
place_after (Within begin) number line =
    place_in_block (is_end_of_block line) (is_outside_blocks (request_of line)) begin
place_after Reported number line = place_when_shown (is_end_of_block line)

abbrev pub begin_if : Bool → Bool → ℕ → List ℕ
begin_if true goes_on begin = []
begin_if false true begin = begin ∷ []
begin_if false false begin = []

-- the line at which the block begins that turns out to lack its END at this line, if one does
abbrev pub begins_shown : BlockPlace → List ℕ → List ℕ
begins_shown Outside line = []
begins_shown (Within begin) line = begin_if (is_end_of_block line) (is_outside_blocks (request_of line)) begin
begins_shown Reported line = []

-- the same at the script's end
abbrev pub begins_at_end : BlockPlace → List ℕ
begins_at_end Outside = []
begins_at_end (Within begin) = begin ∷ []
begins_at_end Reported = []

-- whether a block is open there
abbrev pub is_in_block : BlockPlace → Bool
is_in_block Outside = false
is_in_block (Within begin) = true
is_in_block Reported = true

-- the lines at which blocks begin that lack their END; where the reading stands; how many lines were
-- read
pub record BlocksRead : Type 0 where
  pub begins : List ℕ
  pub place : BlockPlace
  pub number : ℕ

abbrev pub blocks_after_line : BlocksRead → List ℕ → BlocksRead
blocks_after_line r line = record {
  begins = r.begins ++ begins_shown r.place line;
  place = place_after r.place (one_line_more r.number) line;
  number = one_line_more r.number;
}

-- the reading as the code holds it
abbrev pub blocks_read : BlockReading → BlocksRead
blocks_read r = record { begins = r.begins.items; place = r.place; number = r.number }

unfoldable pub blocks_after_lines : BlocksRead → List (List ℕ) → BlocksRead
blocks_after_lines r [] = r
blocks_after_lines r (line ∷ rest) = blocks_after_lines (blocks_after_line r line) rest

abbrev pub blocks_read_from : ℕ → BlocksRead
blocks_read_from number = record { begins = []; place = Outside; number = number }

abbrev pub missing_ends_read : BlocksRead → List ℕ
missing_ends_read r = r.begins ++ begins_at_end r.place

-- of a reading up to the last line that has its end; or, at the script's end, with what stands after it
abbrev pub begins_if : Bool → BlocksRead → List ℕ → List ℕ
begins_if true r line = missing_ends_read (blocks_after_lines r (line_of_some line))
begins_if false r line = r.begins

-- Of the lines of a text that have their end, where so many lines came before; or of all its lines,
-- with which a script ends.
abbrev pub missing_ends_if : Bool → ℕ → List ℕ → List ℕ
missing_ends_if is_all number text = begins_if is_all
    (blocks_after_lines (blocks_read_from number) (whole_lines text)) (unended_line text)

-- what a longer reading shows beyond a shorter one
abbrev pub shown_beyond : List ℕ → List ℕ → List ℕ
shown_beyond before all = drop (min (length before) (length all)) all
