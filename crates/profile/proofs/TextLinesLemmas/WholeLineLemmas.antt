-- Lines that have their end, where a text is cut or goes on.
use Rattle.std.proofs.Common.{◌≡◌, ◌≤◌, ◌<◌, ◌+◌, ◌-◌, ℕ, Bool, true, false, List, [], ◌∷◌, ◌++◌, length, take, drop, get_or, Some, None, sym, ap, ◌∙◌, append_assoc, arith, refl}
use Rattle.std.proofs.lemmas.Bool.Decides.{nat_tests}
use Rattle.std.proofs.lemmas.List.{append-nil, take_more}
use Rattle.std.proofs.lemmas.List.Quantifiers.{position-Some}
use Rattle.std.proofs.lemmas.List.Splits.{slice_split-cons_yes}
use Rattle.std.specs.Prelude.{cond, ◌==◌}
use Rattle.std.specs.List.{slice_split, position, onto_first}
use Rattle.std.specs.Str.Lines.{lines, lines_of_parts, strip_carriage_return}
use Rattle.profile.specs.text_lines.WholeLines.{whole_lines_of_parts, last_part, whole_lines, unended_line, line_of_some}
use Rattle.profile.proofs.TextLinesLemmas.LineLemmas.{split_at_place, split_nowhere, some_part}

-- the parts of two texts, one behind the other: the last of the first and the first of the second
-- are one
joined_parts : List (List ℕ) → List (List ℕ) → List (List ℕ)
joined_parts [] others = others
joined_parts (part ∷ []) [] = part ∷ []
joined_parts (part ∷ []) (other ∷ others) = (part ++ other) ∷ others
joined_parts (part ∷ next ∷ more) others = part ∷ joined_parts (next ∷ more) others

parts_at_line_feed : (parts others : List (List ℕ)) → 0 < length parts
    → [] ∷ joined_parts parts others ≡ joined_parts ([] ∷ parts) others
unfolding joined_parts
parts_at_line_feed [] others some = absurd (omega (arith, some))
parts_at_line_feed (part ∷ parts) others some = refl

parts_at_byte : (x : ℕ) (parts others : List (List ℕ)) → 0 < length parts → 0 < length others
    → onto_first x (joined_parts parts others) ≡ joined_parts (onto_first x parts) others
unfolding joined_parts
parts_at_byte x [] others some some_others = absurd (omega (arith, some))
parts_at_byte x (part ∷ []) [] some some_others = absurd (omega (arith, some_others))
parts_at_byte x (part ∷ []) (other ∷ others) some some_others = refl
parts_at_byte x (part ∷ next ∷ more) others some some_others = refl

parts_of_none : (others : List (List ℕ)) → 0 < length others → joined_parts ([] ∷ []) others ≡ others
unfolding joined_parts
parts_of_none [] some = absurd (omega (arith, some))
parts_of_none (other ∷ others) some = refl

parts_by_byte : (x : ℕ) (b : Bool) (parts others : List (List ℕ)) → 0 < length parts → 0 < length others
    → cond b ([] ∷ joined_parts parts others) (onto_first x (joined_parts parts others))
    ≡ joined_parts (cond b ([] ∷ parts) (onto_first x parts)) others
parts_by_byte x true parts others some some_others = parts_at_line_feed parts others some
parts_by_byte x false parts others some some_others = parts_at_byte x parts others some some_others

parts_join : (p : ℕ → Bool) (xs ys : List ℕ)
    → slice_split p (xs ++ ys) ≡ joined_parts (slice_split p xs) (slice_split p ys)
parts_join p [] ys = sym (parts_of_none (slice_split p ys) (some_part p ys))
parts_join p (x ∷ xs) ys =
    ap (λ (parts : List (List ℕ)). cond (p x) ([] ∷ parts) (onto_first x parts)) (parts_join p xs ys)
    ∙ parts_by_byte x (p x) (slice_split p xs) (slice_split p ys) (some_part p xs) (some_part p ys)

whole_of_joined : (parts others : List (List ℕ)) → 0 < length parts
    → whole_lines_of_parts (joined_parts parts others)
    ≡ whole_lines_of_parts parts ++ whole_lines_of_parts (joined_parts (last_part parts ∷ []) others)
unfolding joined_parts
whole_of_joined [] others some = absurd (omega (arith, some))
whole_of_joined (part ∷ []) others some = refl
whole_of_joined (part ∷ next ∷ []) [] some = refl
whole_of_joined (part ∷ next ∷ []) (other ∷ others) some = refl
whole_of_joined (part ∷ next ∷ third ∷ more) others some =
    ap (λ (all : List (List ℕ)). strip_carriage_return part ∷ all)
    (whole_of_joined (next ∷ third ∷ more) others (omega arith))

last_of_joined : (parts others : List (List ℕ)) → 0 < length parts
    → last_part (joined_parts parts others) ≡ last_part (joined_parts (last_part parts ∷ []) others)
unfolding joined_parts
last_of_joined [] others some = absurd (omega (arith, some))
last_of_joined (part ∷ []) others some = refl
last_of_joined (part ∷ next ∷ []) [] some = refl
last_of_joined (part ∷ next ∷ []) (other ∷ others) some = refl
last_of_joined (part ∷ next ∷ third ∷ more) others some = last_of_joined (next ∷ third ∷ more) others (omega arith)

-- the last part has no byte at which it could be cut
is_one_part : (p : ℕ → Bool) (x : ℕ) (b : Bool) (parts : List (List ℕ)) → p x ≡ b → 0 < length parts
    → slice_split p (last_part parts) ≡ last_part parts ∷ []
    → slice_split p (last_part (cond b ([] ∷ parts) (onto_first x parts)))
    ≡ last_part (cond b ([] ∷ parts) (onto_first x parts)) ∷ []
is_one_part p x b [] is some here = absurd (omega (arith, some))
is_one_part p x true (part ∷ parts) is some here = here
is_one_part p x false (part ∷ []) is some here = rw is (ap (onto_first x) here)
is_one_part p x false (part ∷ next ∷ more) is some here = here

last_is_one_part : (p : ℕ → Bool) (xs : List ℕ)
    → slice_split p (last_part (slice_split p xs)) ≡ last_part (slice_split p xs) ∷ []
last_is_one_part p [] = refl
last_is_one_part p (x ∷ xs) =
    is_one_part p x (p x) (slice_split p xs) refl (some_part p xs) (last_is_one_part p xs)

after_last : (p : ℕ → Bool) (xs ys : List ℕ)
    → slice_split p (last_part (slice_split p xs) ++ ys)
    ≡ joined_parts (last_part (slice_split p xs) ∷ []) (slice_split p ys)
after_last p xs ys =
    parts_join p (last_part (slice_split p xs)) ys
    ∙ ap (λ (parts : List (List ℕ)). joined_parts parts (slice_split p ys)) (last_is_one_part p xs)

-- Where a text goes on, its lines that have their end are those of before, and then those of the
-- line that lacked its end with all that follows.
pub whole_lines_go_on : (text more : List ℕ)
    → whole_lines (text ++ more) ≡ whole_lines text ++ whole_lines (unended_line text ++ more)
unfolding whole_lines unended_line
whole_lines_go_on text more =
    ap whole_lines_of_parts (parts_join (λ b. b == 10) text more)
    ∙ whole_of_joined (slice_split (λ b. b == 10) text) (slice_split (λ b. b == 10) more) (some_part (λ b. b == 10) text)
    ∙ ap (λ (parts : List (List ℕ)). whole_lines_of_parts (slice_split (λ b. b == 10) text) ++ whole_lines_of_parts parts)
    (sym (after_last (λ b. b == 10) text more))

pub unended_line_goes_on : (text more : List ℕ) → unended_line (text ++ more) ≡ unended_line (unended_line text ++ more)
unfolding unended_line
unended_line_goes_on text more =
    ap last_part (parts_join (λ b. b == 10) text more)
    ∙ last_of_joined (slice_split (λ b. b == 10) text) (slice_split (λ b. b == 10) more) (some_part (λ b. b == 10) text)
    ∙ ap last_part (sym (after_last (λ b. b == 10) text more))

whole_or_last : (parts : List (List ℕ)) → lines_of_parts parts ≡ whole_lines_of_parts parts ++ line_of_some (last_part parts)
whole_or_last [] = refl
whole_or_last (part ∷ []) = refl
whole_or_last (part ∷ next ∷ more) =
    ap (λ (all : List (List ℕ)). strip_carriage_return part ∷ all) (whole_or_last (next ∷ more))

-- the lines of a text are those that have their end, and one that lacks it
pub lines_whole_or_last : (text : List ℕ) → lines text ≡ whole_lines text ++ line_of_some (unended_line text)
unfolding whole_lines unended_line
lines_whole_or_last text = whole_or_last (slice_split (λ b. b == 10) text)

-- Lines split where bytes are cut: those that have their end before the cut come first, and what
-- follows is lines behind the one that lacked its end.
pub lines_split : (text more : List ℕ) → lines (text ++ more) ≡ whole_lines text ++ lines (unended_line text ++ more)
lines_split text more =
    lines_whole_or_last (text ++ more)
    ∙ ap (λ (ls : List (List ℕ)). ls ++ line_of_some (unended_line (text ++ more))) (whole_lines_go_on text more)
    ∙ append_assoc (whole_lines text) (whole_lines (unended_line text ++ more)) (line_of_some (unended_line (text ++ more)))
    ∙ ap (λ (line : List ℕ). whole_lines text ++ (whole_lines (unended_line text ++ more) ++ line_of_some line))
    (unended_line_goes_on text more)
    ∙ ap (λ (ls : List (List ℕ)). whole_lines text ++ ls) (sym (lines_whole_or_last (unended_line text ++ more)))

-- the same where the cut is after a line feed
pub lines_cut : (text more : List ℕ) → unended_line text ≡ [] → lines (text ++ more) ≡ whole_lines text ++ lines more
lines_cut text more ends =
    lines_split text more ∙ ap (λ (line : List ℕ). whole_lines text ++ lines (line ++ more)) ends

-- A BYTE MAKES ONE LINE AT MOST

count_by_first : (x : ℕ) (parts : List (List ℕ)) → 0 < length parts
    → length (lines_of_parts (onto_first x parts)) ≤ 1 + length (lines_of_parts parts)
count_by_first x [] some = absurd (omega (arith, some))
count_by_first x (part ∷ []) some = grind (arith, nat_tests)
count_by_first x (part ∷ next ∷ more) some = omega arith

count_by_line : (parts : List (List ℕ)) → 0 < length parts
    → length (lines_of_parts ([] ∷ parts)) ≤ 1 + length (lines_of_parts parts)
count_by_line [] some = absurd (omega (arith, some))
count_by_line (part ∷ parts) some = omega arith

count_by_byte : (x : ℕ) (b : Bool) (parts : List (List ℕ)) → 0 < length parts
    → length (lines_of_parts (cond b ([] ∷ parts) (onto_first x parts))) ≤ 1 + length (lines_of_parts parts)
count_by_byte x true parts some = count_by_line parts some
count_by_byte x false parts some = count_by_first x parts some

pub lines_at_most : (text : List ℕ) → length (lines text) ≤ length text
lines_at_most [] = omega arith
lines_at_most (x ∷ xs) =
    omega (arith, lines_at_most xs, count_by_byte x (x == 10) (slice_split (λ b. b == 10) xs) (some_part (λ b. b == 10) xs))

whole_of_first : (part : List ℕ) (parts : List (List ℕ)) → 0 < length parts
    → whole_lines_of_parts (part ∷ parts) ≡ strip_carriage_return part ∷ whole_lines_of_parts parts
whole_of_first part [] some = absurd (omega (arith, some))
whole_of_first part (next ∷ more) some = refl

last_of_first : (part : List ℕ) (parts : List (List ℕ)) → 0 < length parts → last_part (part ∷ parts) ≡ last_part parts
last_of_first part [] some = absurd (omega (arith, some))
last_of_first part (next ∷ more) some = refl

after_place : ℕ → List ℕ → List ℕ
after_place place text = take (length text - (place + 1)) (drop (place + 1) text)

pub whole_at_place : (text : List ℕ) (place : ℕ) → position (λ b. b == 10) text ≡ Some place
    → whole_lines text ≡ strip_carriage_return (take place text)
    ∷ whole_lines (take (length text - (place + 1)) (drop (place + 1) text))
unfolding whole_lines after_place
whole_at_place text place found =
    ap whole_lines_of_parts (split_at_place (λ b. b == 10) text place found)
    ∙ whole_of_first (take place text) (slice_split (λ b. b == 10) (after_place place text))
    (some_part (λ b. b == 10) (after_place place text))

pub unended_after_place : (text : List ℕ) (place : ℕ) → position (λ b. b == 10) text ≡ Some place
    → unended_line text ≡ unended_line (take (length text - (place + 1)) (drop (place + 1) text))
unfolding unended_line after_place
unended_after_place text place found =
    ap last_part (split_at_place (λ b. b == 10) text place found)
    ∙ last_of_first (take place text) (slice_split (λ b. b == 10) (after_place place text))
    (some_part (λ b. b == 10) (after_place place text))

pub none_whole : (text : List ℕ) → position (λ b. b == 10) text ≡ None → whole_lines text ≡ []
unfolding whole_lines
none_whole text none = ap whole_lines_of_parts (split_nowhere (λ b. b == 10) text none)

pub all_unended : (text : List ℕ) → position (λ b. b == 10) text ≡ None → unended_line text ≡ text
unfolding unended_line
all_unended text none = ap last_part (split_nowhere (λ b. b == 10) text none)

-- the first part has no byte at which it could be cut, either
first_part : List (List ℕ) → List ℕ
first_part [] = []
first_part (part ∷ more) = part

first_by_byte : (p : ℕ → Bool) (x : ℕ) (b : Bool) (parts : List (List ℕ)) → p x ≡ b → 0 < length parts
    → slice_split p (first_part parts) ≡ first_part parts ∷ []
    → slice_split p (first_part (cond b ([] ∷ parts) (onto_first x parts)))
    ≡ first_part (cond b ([] ∷ parts) (onto_first x parts)) ∷ []
unfolding first_part
first_by_byte p x b [] is some here = absurd (omega (arith, some))
first_by_byte p x true (part ∷ parts) is some here = refl
first_by_byte p x false (part ∷ parts) is some here = rw is (ap (onto_first x) here)

first_is_one_part : (p : ℕ → Bool) (xs : List ℕ)
    → slice_split p (first_part (slice_split p xs)) ≡ first_part (slice_split p xs) ∷ []
unfolding first_part
first_is_one_part p [] = refl
first_is_one_part p (x ∷ xs) =
    first_by_byte p x (p x) (slice_split p xs) refl (some_part p xs) (first_is_one_part p xs)

before_place : (p : ℕ → Bool) (xs : List ℕ) (place : ℕ) → position p xs ≡ Some place
    → slice_split p (take place xs) ≡ take place xs ∷ []
unfolding first_part
before_place p xs place found =
    let first : first_part (slice_split p xs) ≡ take place xs = ap first_part (split_at_place p xs place found) in
    rw first at (first_is_one_part p xs)

parts_at_place : (p : ℕ → Bool) (xs : List ℕ) (place : ℕ) → position p xs ≡ Some place
    → slice_split p (take (place + 1) xs) ≡ take place xs ∷ [] ∷ []
unfolding joined_parts
parts_at_place p xs place found =
    let at = position-Some p xs place 0 found in
    ap (slice_split p) (take_more xs place 0 at.0)
    ∙ parts_join p (take place xs) (get_or xs place 0 ∷ [])
    ∙ ap (λ (parts : List (List ℕ)). joined_parts parts (slice_split p (get_or xs place 0 ∷ [])))
    (before_place p xs place found)
    ∙ ap (joined_parts (take place xs ∷ [])) (slice_split-cons_yes p (get_or xs place 0) [] at.1)
    ∙ ap (λ (part : List ℕ). part ∷ [] ∷ []) (append-nil (take place xs))

pub one_at_place : (text : List ℕ) (place count : ℕ) → position (λ b. b == 10) text ≡ Some place → count ≡ place + 1
    → whole_lines (take count text) ≡ strip_carriage_return (take place text) ∷ []
unfolding whole_lines
one_at_place text place count found so_many =
    rw so_many (ap whole_lines_of_parts (parts_at_place (λ b. b == 10) text place found))

pub ends_at_place : (text : List ℕ) (place count : ℕ) → position (λ b. b == 10) text ≡ Some place → count ≡ place + 1
    → unended_line (take count text) ≡ []
unfolding unended_line
ends_at_place text place count found so_many =
    rw so_many (ap last_part (parts_at_place (λ b. b == 10) text place found))

pub ruleset whole_line_steps = (whole_at_place, unended_after_place, none_whole, all_unended)
