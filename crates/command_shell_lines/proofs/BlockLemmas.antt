-- How a block goes on and ends, by its first line.
use Rattle.std.proofs.Common.{◌≡◌, ℕ, ◌+◌, take, length, arith, Bool, true, false, List, [], ◌∷◌, ◌++◌, Option, Some, None, Result, Ok, Err, sym, ap, ◌∙◌, append_assoc, refl}
use Rattle.std.proofs.lemmas.List.{append-nil}
use Rattle.std.specs.Io.KnownBytes.{prepend_known}
use Rattle.std.specs.Prelude.{if◌then◌else◌}
use Rattle.command_shell_lines.specs.HexPairs.{bytes_of_hex_pairs, with_spelled}
use Rattle.command_shell_lines.specs.Requests.{is_end_of_block}
use Rattle.command_shell_lines.specs.Blocks.{block_lines, after_block, lines_in_block, joined_bytes, block_bytes}

-- bytes, and then those of the lines of a block
abbrev front : List ℕ → Result (List ℕ) ℕ → Result (List ℕ) ℕ
front bytes (Ok more) = Ok (bytes ++ more)
front bytes (Err number) = Err number

unfoldable pub block_onto : List ℕ → ℕ → List (List ℕ) → Result (List ℕ) ℕ
block_onto bytes number left = front bytes (block_bytes number (block_lines left))

front_none : (r : Result (List ℕ) ℕ) → front [] r ≡ r
front_none (Ok more) = refl
front_none (Err number) = refl

pub block_starts : (bytes : List ℕ) (number : ℕ) (left : List (List ℕ)) → bytes ≡ [] → number ≡ 0
    → block_onto bytes number left ≡ block_bytes 0 (block_lines left)
unfolding block_onto
block_starts bytes number left none zero = rw (none, zero) (front_none (block_bytes 0 (block_lines left)))

pub lines_end : (line : List ℕ) (rest : List (List ℕ)) → is_end_of_block line ≡ true → after_block (line ∷ rest) ≡ rest
unfolding after_block
lines_end line rest is = ap (λ (b : Bool). if b then rest else after_block rest) is

pub lines_go_on : (line : List ℕ) (rest : List (List ℕ)) → is_end_of_block line ≡ false
    → after_block (line ∷ rest) ≡ after_block rest
unfolding after_block
lines_go_on line rest is = ap (λ (b : Bool). if b then rest else after_block rest) is

pub lines_stop : after_block [] ≡ []
unfolding after_block
lines_stop = refl

pub size_ends : (line : List ℕ) (rest : List (List ℕ)) → is_end_of_block line ≡ true → lines_in_block (line ∷ rest) ≡ 1
unfolding lines_in_block
size_ends line rest is = ap (λ (b : Bool). if b then 1 else 1 + lines_in_block rest) is

pub size_goes_on : (line : List ℕ) (rest : List (List ℕ)) → is_end_of_block line ≡ false
    → lines_in_block (line ∷ rest) ≡ 1 + lines_in_block rest
unfolding lines_in_block
size_goes_on line rest is = ap (λ (b : Bool). if b then 1 else 1 + lines_in_block rest) is

pub size_stops : lines_in_block [] ≡ 0
unfolding lines_in_block
size_stops = refl

ended : (line : List ℕ) (rest : List (List ℕ)) → is_end_of_block line ≡ true → block_lines (line ∷ rest) ≡ []
unfolding block_lines
ended line rest is = rw is refl

went_on : (line : List ℕ) (rest : List (List ℕ)) → is_end_of_block line ≡ false
    → block_lines (line ∷ rest) ≡ line ∷ block_lines rest
unfolding block_lines
went_on line rest is = rw is refl

nothing_more : (bytes : List ℕ) (number : ℕ) → front bytes (block_bytes number []) ≡ Ok bytes
unfolding block_bytes
nothing_more bytes number = ap Ok (append-nil bytes)

pub bytes_end : (bytes : List ℕ) (number : ℕ) (line : List ℕ) (rest : List (List ℕ)) → is_end_of_block line ≡ true
    → block_onto bytes number (line ∷ rest) ≡ Ok bytes
unfolding block_onto
bytes_end bytes number line rest is =
    ap (λ (ls : List (List ℕ)). front bytes (block_bytes number ls)) (ended line rest is) ∙ nothing_more bytes number

pub bytes_stop : (bytes : List ℕ) (number : ℕ) → block_onto bytes number [] ≡ Ok bytes
unfolding block_onto block_lines
bytes_stop bytes number = nothing_more bytes number

one_line : (bytes : List ℕ) (number : ℕ) (rest : List (List ℕ)) (line : List ℕ) → is_end_of_block line ≡ false
    → block_onto bytes number (line ∷ rest)
    ≡ front bytes (joined_bytes (number + 1) (bytes_of_hex_pairs line) (block_bytes (number + 1) (block_lines rest)))
unfolding block_onto block_bytes
one_line bytes number rest line is =
    ap (λ (ls : List (List ℕ)). front bytes (block_bytes number ls)) (went_on line rest is)

line_by : (bytes after : List ℕ) (number : ℕ) (o : Option (List ℕ)) (more : Result (List ℕ) ℕ)
    → prepend_known bytes o ≡ Some after
    → front bytes (joined_bytes number o more) ≡ front after more
line_by bytes after number None more e = absurd (cc)
line_by bytes after number (Some here) (Ok rest) e =
    let same : bytes ++ here ≡ after = cc in
    ap Ok (sym (append_assoc bytes here rest) ∙ ap (λ (xs : List ℕ). xs ++ rest) same)
line_by bytes after number (Some here) (Err later) e = refl

line_bad : (bytes : List ℕ) (number : ℕ) (o : Option (List ℕ)) (more : Result (List ℕ) ℕ) → prepend_known bytes o ≡ None
    → front bytes (joined_bytes number o more) ≡ Err number
line_bad bytes number None more e = refl
line_bad bytes number (Some here) more e = absurd (cc)

pub bytes_go_on : (bytes after : List ℕ) (number next : ℕ) (line : List ℕ) (rest : List (List ℕ)) → is_end_of_block line ≡ false
    → with_spelled bytes line ≡ Some after → next ≡ number + 1
    → block_onto bytes number (line ∷ rest) ≡ block_onto after next rest
unfolding block_onto with_spelled
bytes_go_on bytes after number next line rest is some e =
    one_line bytes number rest line is
    ∙ line_by bytes after (number + 1) (bytes_of_hex_pairs line) (block_bytes (number + 1) (block_lines rest)) some
    ∙ ap (λ (n : ℕ). block_onto after n rest) (sym e)

pub bytes_bad : (bytes : List ℕ) (number : ℕ) (line : List ℕ) (rest : List (List ℕ)) → is_end_of_block line ≡ false
    → with_spelled bytes line ≡ None → block_onto bytes number (line ∷ rest) ≡ Err (number + 1)
unfolding block_onto with_spelled
bytes_bad bytes number line rest is none =
    one_line bytes number rest line is
    ∙ line_bad bytes (number + 1) (bytes_of_hex_pairs line) (block_bytes (number + 1) (block_lines rest)) none

pub count_ends : (line : List ℕ) (rest : List (List ℕ)) → is_end_of_block line ≡ true → length (block_lines (line ∷ rest)) ≡ 0
count_ends line rest is = ap length (ended line rest is)

pub count_goes_on : (line : List ℕ) (rest : List (List ℕ)) → is_end_of_block line ≡ false
    → length (block_lines (line ∷ rest)) ≡ 1 + length (block_lines rest)
count_goes_on line rest is = omega (arith, ap length (went_on line rest is))

pub count_stops : length (block_lines []) ≡ 0
unfolding block_lines
count_stops = refl

no_block : block_lines [] ≡ []
unfolding block_lines
no_block = refl

front_by : (line : List ℕ) (rest : List (List ℕ)) (b : Bool) → is_end_of_block line ≡ b
    → take (length (block_lines rest)) rest ≡ block_lines rest
    → take (length (block_lines (line ∷ rest))) (line ∷ rest) ≡ block_lines (line ∷ rest)
front_by line rest true is here = rw (ended line rest is) refl
front_by line rest false is here = rw (went_on line rest is) (ap (λ (ls : List (List ℕ)). line ∷ ls) here)

-- a block is the front of the lines that are left
is_front : (left : List (List ℕ)) → take (length (block_lines left)) left ≡ block_lines left
is_front [] = rw count_stops (sym no_block)
is_front (line ∷ rest) = front_by line rest (is_end_of_block line) refl (is_front rest)

pub block_is_front : (count : ℕ) (left : List (List ℕ)) → count ≡ length (block_lines left)
    → take count left ≡ block_lines left
block_is_front count left all = rw all (is_front left)

pub ruleset block_steps = (
  count_ends,
  count_goes_on,
  count_stops,
  block_starts,
  lines_end,
  lines_go_on,
  lines_stop,
  size_ends,
  size_goes_on,
  size_stops,
  bytes_end,
  bytes_stop,
  bytes_go_on,
  bytes_bad,
  block_is_front,
)
