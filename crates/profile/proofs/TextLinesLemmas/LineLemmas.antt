-- Cuts of bytes at a separator, and lines by them.
use Rattle.std.proofs.Common.{◌≡◌, ◌≤◌, ◌<◌, ◌+◌, ◌-◌, ℕ, Bool, true, false, not, List, [], ◌∷◌, length, take, drop, Some, None, ap, ◌∙◌, arith, refl, length-drop}
use Rattle.std.proofs.lemmas.Bool.Decides.{nat_tests}
use Rattle.std.proofs.lemmas.List.Splits.{slice_split_first, length-slice_split, join_with_byte-slice_split}
use Rattle.std.proofs.lemmas.List.{take_all}
use Rattle.std.specs.Prelude.{cond, ◌==◌}
use Rattle.std.specs.List.{slice_split, position, position_or_len, onto_first, join_with_byte}
use Rattle.std.specs.Str.Lines.{lines, lines_of_parts, strip_carriage_return}

split_none : (p : ℕ → Bool) (xs : List ℕ) → length xs ≤ position_or_len p xs → slice_split p xs ≡ xs ∷ []
split_none p [] all = refl
split_none p (x ∷ xs) all = elim (p x) as (λ b. length (x ∷ xs) ≤ cond (not b) (1 + position_or_len p xs) 0
    → cond b ([] ∷ slice_split p xs) (onto_first x (slice_split p xs)) ≡ (x ∷ xs) ∷ []) [
      | true ↦ λ h. absurd (omega (arith, h))
      | false ↦ λ h. ap (onto_first x) (split_none p xs (omega (arith, h)))
    ] all

-- a cut at a place
pub split_at_place : (p : ℕ → Bool) (xs : List ℕ) (place : ℕ) → position p xs ≡ Some place
    → slice_split p xs ≡ take place xs ∷ slice_split p (take (length xs - (place + 1)) (drop (place + 1) xs))
split_at_place p xs place found =
    let here : position_or_len p xs ≡ place = grind (arith, nat_tests, found) in
    let within : position_or_len p xs < length xs = grind (arith, nat_tests, found) in
    let cut : slice_split p xs ≡ take place xs ∷ slice_split p (drop (place + 1) xs) = rw here at (slice_split_first p xs 0 within) in
    let long : length (drop (place + 1) xs) ≤ length xs - (place + 1) = omega (arith, length-drop (place + 1) xs) in
    rw (take_all (length xs - (place + 1)) (drop (place + 1) xs) long) cut

pub split_nowhere : (p : ℕ → Bool) (xs : List ℕ) → position p xs ≡ None → slice_split p xs ≡ xs ∷ []
split_nowhere p xs none = split_none p xs (grind (arith, nat_tests, none))

-- a cut has a part at least
pub some_part : (p : ℕ → Bool) (xs : List ℕ) → 0 < length (slice_split p xs)
some_part p xs = omega (arith, length-slice_split p xs)

lines_of-cons : (line : List ℕ) (parts : List (List ℕ)) → 0 < length parts
    → lines_of_parts (line ∷ parts) ≡ strip_carriage_return line ∷ lines_of_parts parts
lines_of-cons line [] some = absurd (omega (arith, some))
lines_of-cons line (part ∷ parts) some = refl

-- lines by the first part and the others
pub lines_first : (bs line rest : List ℕ) → slice_split (λ b. b == 10) bs ≡ line ∷ slice_split (λ b. b == 10) rest
    → lines bs ≡ strip_carriage_return line ∷ lines rest
lines_first bs line rest parts =
    ap lines_of_parts parts ∙ lines_of-cons line (slice_split (λ b. b == 10) rest) (some_part (λ b. b == 10) rest)

lines_of-one : (line : List ℕ) → 0 < length line → lines_of_parts (line ∷ []) ≡ line ∷ []
lines_of-one line some = grind (arith, nat_tests)

pub lines_last : (bs line : List ℕ) → 0 < length bs → slice_split (λ b. b == 10) bs ≡ line ∷ [] → lines bs ≡ line ∷ []
lines_last bs line some parts =
    let whole : join_with_byte 10 (slice_split (λ b. b == 10) bs) ≡ bs = join_with_byte-slice_split 10 bs in
    let same : line ≡ bs = rw parts at whole in
    ap lines_of_parts parts ∙ lines_of-one line (omega (arith, ap length same))

pub ruleset cut_steps = (split_at_place, split_nowhere)

pub ruleset line_steps = (lines_first, lines_last)
