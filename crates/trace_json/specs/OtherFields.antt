-- Fields that say nothing of the core nor of words: none of them has one of the names under which these
-- stand. A name is a string outside of all brackets, with a colon behind it (RFC 8259, "The JavaScript
-- Object Notation Data Interchange Format").
use Rattle.std.specs.Prelude.{ℕ, ◌+◌, ◌-◌, ◌^◌, ◌==◌, ◌||◌, ◌&&◌, nat_eq, not, Bool, true, false, List, [], ◌∷◌, codes, if◌then◌else◌}
use Rattle.std.specs.List.{starts_with}
use Rattle.trace_json.specs.declared.others.TextPlace.{TextPlace}
use Rattle.trace_json.specs.declared.others.TextPlace.TheVariants.{Broken, Escaped, InString, Outside}

abbrev pub opens : ℕ → Bool
opens b = b == 91 || b == 123

abbrev pub closes : ℕ → Bool
closes b = b == 93 || b == 125

-- within so many brackets one more closes, which opened here
abbrev pub place_closed : ℕ → TextPlace
place_closed depth = if depth == 0 then Broken else Outside (depth - 1)

abbrev pub place_opened : ℕ → TextPlace
place_opened depth = if depth == 2 ^ 32 - 1 then Broken else Outside (depth + 1)

-- Where the next byte stands, behind this one: outside of strings, or in one, perhaps behind a
-- backslash (92), and within how many brackets. A quote (34) begins and ends strings; a line feed stands
-- nowhere.
abbrev pub text_place_after : TextPlace → ℕ → TextPlace
text_place_after (Outside depth) b =
    if b == 34 then InString depth else (
    if opens b then place_opened depth else (
    if closes b then place_closed depth else (
    if b == 10 then Broken else Outside depth)))
text_place_after (InString depth) b =
    if b == 34 then Outside depth else (
    if b == 92 then Escaped depth else (
    if b == 10 then Broken else InString depth))
text_place_after (Escaped depth) b = if b == 10 then Broken else InString depth
text_place_after Broken b = Broken

abbrev pub is_outermost : TextPlace → Bool
is_outermost (Outside depth) = depth == 0
is_outermost place = false

-- whether a text begins with such a name
abbrev pub begins_with_name : List ℕ → Bool
begins_with_name text = starts_with nat_eq text (codes "\"regs\":")
    || (starts_with nat_eq text (codes "\"flags\":")
    || (starts_with nat_eq text (codes "\"mode\":")
    || (starts_with nat_eq text (codes "\"next\":")
    || (starts_with nat_eq text (codes "\"pc\":")
    || (starts_with nat_eq text (codes "\"mem\":")
    || starts_with nat_eq text (codes "\"more\":"))))))

-- from a place on, up to the end, where all strings and brackets are closed
abbrev pub are_others_from : TextPlace → List ℕ → Bool
are_others_from place [] = is_outermost place
are_others_from place (b ∷ rest) = if is_outermost place && begins_with_name (b ∷ rest) then false
    else are_others_from (text_place_after place b) rest

abbrev pub are_others : List ℕ → Bool
are_others text = are_others_from (Outside 0) text
