-- How far a text of a debugging script was read for requests that are whole.
use Rattle.std.proofs.Common.{◌≡◌, ◌≤◌, ◌<◌, ◌+◌, ◌-◌, ℕ, Bool, true, false, List, [], ◌∷◌, ◌++◌, length, take, drop, sym, ap, ◌∙◌, arith, refl}
use Rattle.std.proofs.Math.Seq.{take-add}
use Rattle.std.proofs.lemmas.List.{drop-drop}
use Rattle.profile.specs.text_lines.WholeLines.{whole_lines, unended_line}
use Rattle.profile.proofs.TextLinesLemmas.WholeLineLemmas.{whole_lines_go_on, unended_line_goes_on}
use Rattle.debug_lines.specs.WholeDebugRequests.{is_debug_block_open_after, is_debug_block_open_after_lines, is_debug_block_open_throughout, AreWholeDebugRequests}

-- What is left of a text after so many bytes, which are lines that have their end, and whether a
-- block is open there; and how many bytes are requests that are whole.
pub record HasReadDebug (text rest : List ℕ) (is_open : Bool) (whole : ℕ) : Type 0 where
  pub shorter : length rest ≤ length text
  pub left : rest ≡ drop (length text - length rest) text
  pub ends : unended_line (take (length text - length rest) text) ≡ []
  pub opens : is_debug_block_open_after_lines false (whole_lines (take (length text - length rest) text)) ≡ is_open
  pub in_text : whole ≤ length text
  pub at_an_end : unended_line (take whole text) ≡ []
  pub closed : is_debug_block_open_after_lines false (whole_lines (take whole text)) ≡ false
  pub stays : is_debug_block_open_throughout false (whole_lines (drop whole text)) ≡ is_debug_block_open_throughout is_open (whole_lines rest)

debug_no_open : is_debug_block_open_after_lines false (whole_lines []) ≡ false
unfolding is_debug_block_open_after_lines whole_lines
debug_no_open = refl

pub debug_read_starts : (text : List ℕ) → HasReadDebug text text false 0
unfolding unended_line
debug_read_starts text =
    let no_unended : unended_line [] ≡ [] = refl in
    let nothing : length text - length text ≡ 0 = omega arith in
    record {
      shorter = omega arith;
      left = ap (λ (n : ℕ). drop n text) (sym nothing);
      ends = ap (λ (n : ℕ). unended_line (take n text)) nothing ∙ no_unended;
      opens = ap (λ (n : ℕ). is_debug_block_open_after_lines false (whole_lines (take n text))) nothing ∙ debug_no_open;
      in_text = omega arith;
      at_an_end = no_unended;
      closed = debug_no_open;
      stays = refl;
    }

debug_open_after_more : (is_open : Bool) (front : List (List ℕ)) (line : List ℕ)
    → is_debug_block_open_after_lines is_open (front ++ line ∷ []) ≡ is_debug_block_open_after (is_debug_block_open_after_lines is_open front) line
unfolding is_debug_block_open_after_lines
debug_open_after_more is_open [] line = refl
debug_open_after_more is_open (first ∷ front) line = debug_open_after_more (is_debug_block_open_after is_open first) front line

debug_open_after_first : (is_open : Bool) (line : List ℕ) (rest : List (List ℕ)) → is_debug_block_open_after is_open line ≡ true
    → is_debug_block_open_throughout is_open (line ∷ rest) ≡ is_debug_block_open_throughout true rest
unfolding is_debug_block_open_throughout
debug_open_after_first is_open line rest is = rw is refl

-- a line more
record HasReadDebugLine (text rest after line : List ℕ) (is_open : Bool) : Type 0 where
  left : after ≡ drop (length text - length after) text
  ends : unended_line (take (length text - length after) text) ≡ []
  opens : is_debug_block_open_after_lines false (whole_lines (take (length text - length after) text)) ≡ is_debug_block_open_after is_open line

debug_line_read : (text rest after line : List ℕ) (is_open : Bool) (whole : ℕ) → HasReadDebug text rest is_open whole
    → length after < length rest
    → after ≡ drop (length rest - length after) rest
    → whole_lines (take (length rest - length after) rest) ≡ line ∷ []
    → unended_line (take (length rest - length after) rest) ≡ []
    → HasReadDebugLine text rest after line is_open
debug_line_read text rest after line is_open whole read less follows one ended =
    let count : ℕ = length text - length rest in
    let more : ℕ = length rest - length after in
    let shorter = read.shorter in
    let so_many : length text - length after ≡ count + more = omega (arith, shorter, less) in
    let split : take (length text - length after) text ≡ take count text ++ take more rest =
    ap (λ (n : ℕ). take n text) so_many ∙ take-add count more text
    ∙ ap (λ (xs : List ℕ). take count text ++ take more xs) (sym read.left) in
    let behind : unended_line (take count text) ++ take more rest ≡ take more rest =
    ap (λ (xs : List ℕ). xs ++ take more rest) read.ends in
    record {
      left = follows ∙ ap (drop more) read.left ∙ drop-drop more count text ∙ ap (λ (n : ℕ). drop n text) (sym so_many);
      ends = ap unended_line split ∙ unended_line_goes_on (take count text) (take more rest)
          ∙ ap unended_line behind ∙ ended;
      opens = ap (λ (xs : List ℕ). is_debug_block_open_after_lines false (whole_lines xs)) split
          ∙ ap (is_debug_block_open_after_lines false) (whole_lines_go_on (take count text) (take more rest)
          ∙ ap (λ (xs : List ℕ). whole_lines (take count text) ++ whole_lines xs) behind
          ∙ ap (λ (ls : List (List ℕ)). whole_lines (take count text) ++ ls) one)
          ∙ debug_open_after_more false (whole_lines (take count text)) line
          ∙ ap (λ (b : Bool). is_debug_block_open_after b line) read.opens;
    }

-- where a block is open then
pub debug_read_on : (text rest after line : List ℕ) (is_open next : Bool) (whole : ℕ) → HasReadDebug text rest is_open whole
    → length after < length rest
    → after ≡ drop (length rest - length after) rest
    → whole_lines rest ≡ line ∷ whole_lines after
    → whole_lines (take (length rest - length after) rest) ≡ line ∷ []
    → unended_line (take (length rest - length after) rest) ≡ []
    → next ≡ is_debug_block_open_after is_open line → next ≡ true
    → HasReadDebug text after next whole
debug_read_on text rest after line is_open next whole read less follows first one ended is opens =
    let here = debug_line_read text rest after line is_open whole read less follows one ended in
    let shorter = read.shorter in
    record {
      shorter = omega (arith, shorter, less);
      left = here.left;
      ends = here.ends;
      opens = here.opens ∙ sym is;
      in_text = read.in_text;
      at_an_end = read.at_an_end;
      closed = read.closed;
      stays = read.stays ∙ ap (is_debug_block_open_throughout is_open) first
          ∙ debug_open_after_first is_open line (whole_lines after) (sym is ∙ opens)
          ∙ ap (λ (b : Bool). is_debug_block_open_throughout b (whole_lines after)) (sym opens);
    }

-- where a request is whole then
pub debug_read_whole : (text rest after line : List ℕ) (is_open next : Bool) (whole now : ℕ) → HasReadDebug text rest is_open whole
    → length after < length rest
    → after ≡ drop (length rest - length after) rest
    → whole_lines (take (length rest - length after) rest) ≡ line ∷ []
    → unended_line (take (length rest - length after) rest) ≡ []
    → next ≡ is_debug_block_open_after is_open line → next ≡ false → now ≡ length text - length after
    → HasReadDebug text after next now
debug_read_whole text rest after line is_open next whole now read less follows one ended is closes all =
    let here = debug_line_read text rest after line is_open whole read less follows one ended in
    let shorter = read.shorter in
    rw all (record {
      shorter = omega (arith, shorter, less);
      left = here.left;
      ends = here.ends;
      opens = here.opens ∙ sym is;
      in_text = omega arith;
      at_an_end = here.ends;
      closed = here.opens ∙ sym is ∙ closes;
      stays = ap (λ (xs : List ℕ). is_debug_block_open_throughout false (whole_lines xs)) (sym here.left)
          ∙ ap (λ (b : Bool). is_debug_block_open_throughout b (whole_lines after)) (sym closes);
    })

pub debug_read_all : (text rest : List ℕ) (is_open : Bool) (whole : ℕ) → HasReadDebug text rest is_open whole
    → whole_lines rest ≡ [] → AreWholeDebugRequests text whole
unfolding is_debug_block_open_throughout
debug_read_all text rest is_open whole read none = record {
  in_text = read.in_text;
  at_an_end = read.at_an_end;
  closed = read.closed;
  rest_is_open = read.stays ∙ ap (is_debug_block_open_throughout is_open) none;
}
