-- The listing of an image that an ASM block has made: a row for each line of the block, with the address at which the
-- line's bytes stand now, the first four of them, as a word, or those of DCB in their order, the line's number in
-- the block, and the line: `00008004 E2500001      2 loop    SUBS    R0,R0,#1`.
use Rattle.std.specs.Prelude.{ℕ, Bool, true, false, ◌+◌, ◌-◌, ◌*◌, ◌%◌, ◌^◌, ◌==◌, is_none, nat_lt, List, [], ◌∷◌, ◌++◌, codes, drop, length, replicate, take, slice_get, slice_index_or, Option, Some, None, Result, Ok, Err, if◌then◌else◌}
use Rattle.std.specs.Fmt.{decimal}
use Rattle.std.specs.Int.{from_be_bytes, from_le_bytes, w32}
use Rattle.std.specs.Str.Lines.{lines}
use Rattle.profile.specs.Digits.{hex_word}
use Rattle.profile.specs.images.Entries.{Entry, refusal_for, with_entry}
use Rattle.debug_tables.specs.Passes.{labels_of_lines}
use Rattle.debug_tables.specs.AsmError.{AsmError}
use Rattle.assembler_text.specs.naming.Labels.{Entries}
use Rattle.assembler_text.specs.naming.Words.{after_spaces, after_word, is_end_of_line, is_same_name, word}
use Rattle.command_shell_lines.specs.Requests.{Request, Asm}
use Rattle.debug_listing.specs.BlockErrors.{source_without}
use Rattle.debug_tables.specs.counts.Counts.{CountTable, times_at}

-- THE TEXTS OF BLOCKS

-- Texts, each line with CR LF at its end, stand in a table by the names of their images: at most 64, each of at most
-- 1,048,576 bytes.
abbrev pub with_source : List Entry → List ℕ → List ℕ → List Entry
with_source sources name text =
    if is_none (refusal_for sources name (length text)) then with_entry sources name text else sources

-- with that of a line's ASM block, unless the block is refused
abbrev pub sources_after : Bool → List Entry → Request → List (List ℕ) → List Entry
sources_after true sources request block = sources
sources_after false sources (Asm name origin) block = with_source sources name (source_without [] 1 block)
sources_after false sources request block = sources

-- WHERE LINES STAND

-- lines of which so many stand before, each with a label of its own in place of the one that it has: `line1`,
-- `line2` and so on
unfoldable pub labelled_lines : ℕ → List (List ℕ) → List ℕ
labelled_lines before [] = []
labelled_lines before (line ∷ others) = codes "line" ++ (decimal (before + 1)
    ++ (after_word line ++ (10 ∷ labelled_lines (before + 1) others)))

-- A line stands where a label on it does, with so many bytes of the program before it.
abbrev pub places_of_lines : List (List ℕ) → Result Entries AsmError
places_of_lines texts = labels_of_lines (lines (labelled_lines 0 texts)) 0

-- that many; behind the last line is the image's end, and no image has more bytes than this
abbrev pub line_offset : Option (List ℕ × ℕ) → ℕ
line_offset (Some entry) = entry.1
line_offset None = 2 ^ 32 - 1

-- of the line of a number, counted from 1
abbrev pub offset_of_line : Entries → ℕ → ℕ
offset_of_line places number = line_offset (slice_get places (number - 1))

-- The bytes that a line has made stand from there to where the next line stands; a line without a statement
-- has made none.
abbrev pub bytes_made : Entries → List ℕ → ℕ → List ℕ → List ℕ
bytes_made places bytes number line = if is_end_of_line (after_word line) then [] else
    take (line_offset (slice_get places number) - offset_of_line places number)
    (drop (offset_of_line places number) bytes)

-- COLUMNS

-- digits behind as many blanks as fill so many columns
abbrev pub in_columns : ℕ → List ℕ → List ℕ
in_columns width digits = replicate (width - length digits) 32 ++ digits

-- whether the bytes of a line are shown in their order
abbrev pub is_of_bytes : List ℕ → Bool
is_of_bytes line = is_same_name (word (after_spaces (after_word line))) (codes "DCB")

-- the first four bytes, zeros in place of those that aren't there
abbrev pub first_bytes : List ℕ → List ℕ
first_bytes made = slice_index_or made 0 0 ∷ slice_index_or made 1 0 ∷ slice_index_or made 2 0
    ∷ slice_index_or made 3 0 ∷ []

abbrev pub made_word : Bool → List ℕ → ℕ
made_word of_bytes made =
    if of_bytes then from_be_bytes w32 (first_bytes made) else from_le_bytes w32 (first_bytes made)

-- two digits for each of the first four bytes, and `..` where there are more
abbrev pub digits_made : Bool → List ℕ → List ℕ
digits_made of_bytes made = if nat_lt 4 (length made) then hex_word (made_word of_bytes made) ++ codes ".."
    else take (2 * length made) (hex_word (made_word of_bytes made)) ++ replicate (10 - 2 * length made) 32

-- behind the address, in nineteen columns
abbrev pub made_text : Bool → ℕ → List ℕ → List ℕ
made_text of_bytes address made = if length made == 0 then in_columns 19 [] else
    hex_word address ++ (codes " " ++ digits_made of_bytes made)

-- before these how often the step at the first byte was taken, while steps are counted; of no bytes blanks
abbrev pub times_text : CountTable → ℕ → Bool → List ℕ
times_text c address is_blank = if c.is_on
    then in_columns 10 (if is_blank then [] else decimal (times_at c address)) ++ codes " " else []

-- ROWS

-- of the line of a number, which has made bytes that stand there
abbrev pub listing_row : CountTable → ℕ → List ℕ → ℕ → List ℕ → List ℕ
listing_row c address made number line = times_text c address (length made == 0)
    ++ (made_text (is_of_bytes line) address made ++ (in_columns 5 (decimal number) ++ (codes " " ++ (line ++ codes "\n"))))

-- of an image that stands at an address
abbrev pub row_of_line : CountTable → Entries → ℕ → List ℕ → ℕ → List ℕ → List ℕ
row_of_line c places start bytes number line = listing_row c ((start + offset_of_line places number) % 2 ^ 32)
    (bytes_made places bytes number line) number line

-- of lines of which so many stand before
unfoldable pub rows_behind : CountTable → Entries → ℕ → List ℕ → ℕ → List (List ℕ) → List ℕ
rows_behind c places start bytes before [] = []
rows_behind c places start bytes before (line ∷ others) =
    row_of_line c places start bytes (before + 1) line ++ rows_behind c places start bytes (before + 1) others

-- of all lines; those that have made an image have places
abbrev pub rows_by : CountTable → ℕ → List ℕ → List (List ℕ) → Result Entries AsmError → List ℕ
rows_by c start bytes texts (Ok places) = rows_behind c places start bytes 0 texts
rows_by c start bytes texts (Err error) = []

abbrev pub rows_text : CountTable → ℕ → List ℕ → List ℕ → List ℕ
rows_text c start bytes source = rows_by c start bytes (lines source) (places_of_lines (lines source))

-- LISTING

-- of an image's bytes, where there are some, the text of its block, and where it stands
abbrev pub listing_text : CountTable → Option (List ℕ) → Option (List ℕ) → Option ℕ → List ℕ
listing_text c None source start = codes "refused NoImage\n"
listing_text c (Some bytes) (Some source) (Some start) = rows_text c start bytes source
listing_text c (Some bytes) (Some source) None = codes "refused NoSource\n"
listing_text c (Some bytes) None start = codes "refused NoSource\n"
