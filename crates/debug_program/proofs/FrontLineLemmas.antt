-- The first lines of a text, where it is cut behind one of them.
use Rattle.std.proofs.Common.{◌≡◌, ◌≤◌, ◌<◌, ◌+◌, ◌-◌, ℕ, Bool, false, List, [], ◌∷◌, ◌++◌, length, take, drop, refl, ap, sym, ◌∙◌, subst, arith, length-append, append_assoc, append-nil}
use Rattle.std.proofs.lemmas.List.{take-append-drop, take_all, drop_all}
use Rattle.std.proofs.lemmas.Bool.Decides.{nat_tests}
use Rattle.std.proofs.Math.Seq.{drop-append_seam, take-append_seam}
use Rattle.std.specs.Prelude.{◌==◌, if◌then◌else◌}
use Rattle.std.specs.Str.Lines.{lines}
use Rattle.profile.specs.text_lines.WholeLines.{line_of_some, unended_line, whole_lines}
use Rattle.profile.proofs.TextLinesLemmas.WholeLineLemmas.{lines_cut, lines_whole_or_last}
use Rattle.debug_program.specs.FrontLines.{EndsItsLines, IsBehindLine}

-- a text that ends with a line's end
lines_of_whole : (front : List ℕ) → unended_line front ≡ [] → lines front ≡ whole_lines front
lines_of_whole front ends =
    lines_whole_or_last front ∙ ap (λ (line : List ℕ). whole_lines front ++ line_of_some line) ends ∙ append-nil (whole_lines front)

line_ends : (front : List ℕ) → unended_line front ≡ [] → EndsItsLines front
line_ends front ends more =
    lines_cut front more ends ∙ ap (λ (ls : List (List ℕ)). ls ++ lines more) (sym (lines_of_whole front ends))

pub nothing_ends : EndsItsLines []
nothing_ends more = refl

-- two texts one behind the other
pub both_end : (one other : List ℕ) → EndsItsLines one → EndsItsLines other → EndsItsLines (one ++ other)
both_end one other first second more =
    ap lines (append_assoc one other more) ∙ first (other ++ more)
    ∙ ap (λ (ls : List (List ℕ)). lines one ++ ls) (second more)
    ∙ sym (append_assoc (lines one) (lines other) (lines more))
    ∙ ap (λ (ls : List (List ℕ)). ls ++ lines more) (sym (first other))

pub behind_line : (text after line : List ℕ) → whole_lines (take (length text - length after) text) ≡ line ∷ []
    → unended_line (take (length text - length after) text) ≡ [] → IsBehindLine text (length text - length after)
behind_line text after line one ends =
    let front : List ℕ = take (length text - length after) text in
    record {
      within = omega arith;
      ended = line_ends front ends;
      one = ap (λ (ls : List (List ℕ)). length ls) (lines_of_whole front ends ∙ one);
    }

few_of_some : (line : List ℕ) → length (line_of_some line) ≤ 1
few_of_some [] = omega arith
few_of_some (byte ∷ line) =
    subst (λ (b : Bool). length (if b then [] else (byte ∷ line) ∷ []) ≤ 1)
    (let shut : false ≡ (length (byte ∷ line) == 0) = grind (arith, nat_tests) in shut) (omega arith)

-- a text without a line's end is a line at most
pub one_line : (text : List ℕ) → whole_lines text ≡ [] → unended_line text ≡ text → length (lines text) ≤ 1
one_line text whole unended =
    let all : lines text ≡ line_of_some text =
    lines_whole_or_last text ∙ (λ i. whole i ++ line_of_some (unended i)) in
    omega (arith, ap (λ (ls : List (List ℕ)). length ls) all, few_of_some text)

-- a text of which so many lines are still to be passed over
pub record CutSoFar (text rest : List ℕ) (count left : ℕ) : Type 0 where
  pub front : List ℕ
  pub whole : front ++ rest ≡ text
  pub ended : EndsItsLines front
  pub counted : length (lines front) + left ≡ count

pub cut_start : (text : List ℕ) (count : ℕ) → CutSoFar text text count count
cut_start text count = record { front = []; whole = refl; ended = nothing_ends; counted = omega arith }

pub cut_more : (text rest after : List ℕ) (count left place : ℕ) → CutSoFar text rest count left → 0 < left → IsBehindLine rest place
    → after ≡ drop place rest → CutSoFar text after count (left - 1)
cut_more text rest after count left place so some behind is =
    let first : List ℕ = take place rest in
    let joined : lines (so.front ++ first) ≡ lines so.front ++ lines first = so.ended first in
    record {
      front = so.front ++ first;
      whole = append_assoc so.front first after ∙ ap (λ (xs : List ℕ). so.front ++ (first ++ xs)) is
          ∙ ap (λ (xs : List ℕ). so.front ++ xs) (take-append-drop place rest) ∙ so.whole;
      ended = both_end so.front first so.ended behind.ended;
      counted = omega (arith, some, so.counted, behind.one, ap length joined, length-append (lines so.front) (lines first));
    }

lines_parted : (text rest : List ℕ) (count left : ℕ) (so : CutSoFar text rest count left) → lines text ≡ lines so.front ++ lines rest
lines_parted text rest count left so = ap lines (sym so.whole) ∙ so.ended rest

-- what was passed over stands before the rest
pub front_is : (front text rest : List ℕ) → front ++ rest ≡ text
    → (take (length text - length rest) text ≡ front) × (drop (length text - length rest) text ≡ rest)
front_is front text rest whole =
    let size : length (front ++ rest) - length rest ≡ length front = omega (arith, length-append front rest) in (
      ap (λ (xs : List ℕ). take (length xs - length rest) xs) (sym whole) ∙ ap (λ (n : ℕ). take n (front ++ rest)) size
          ∙ take-append_seam front rest,
      ap (λ (xs : List ℕ). drop (length xs - length rest) xs) (sym whole) ∙ ap (λ (n : ℕ). drop n (front ++ rest)) size
          ∙ drop-append_seam front rest,
    )

pub cut_all : (text rest : List ℕ) (count left : ℕ) (so : CutSoFar text rest count left) → left ≡ 0
    → (lines so.front ≡ take count (lines text)) × (lines rest ≡ drop count (lines text))
cut_all text rest count left so none =
    let size : count ≡ length (lines so.front) = omega (arith, so.counted, none) in
    let parts = lines_parted text rest count left so in (
      sym (ap (λ (n : ℕ). take n (lines text)) size ∙ ap (take (length (lines so.front))) parts
          ∙ take-append_seam (lines so.front) (lines rest)),
      sym (ap (λ (n : ℕ). drop n (lines text)) size ∙ ap (drop (length (lines so.front))) parts
          ∙ drop-append_seam (lines so.front) (lines rest)),
    )

-- there are no more lines
pub cut_short : (text rest : List ℕ) (count left : ℕ) → CutSoFar text rest count left → 0 < left → length (lines rest) ≤ 1
    → (lines text ≡ take count (lines text)) × (lines [] ≡ drop count (lines text))
cut_short text rest count left so some few =
    let within : length (lines text) ≤ count =
    omega (arith, so.counted, some, few, ap length (lines_parted text rest count left so), length-append (lines so.front) (lines rest)) in
    (sym (take_all count (lines text) within), sym (drop_all count (lines text) within))
