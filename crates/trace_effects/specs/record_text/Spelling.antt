-- How the parts of a record are spelt (RFC 8259, "The JavaScript Object Notation Data Interchange
-- Format"): a comma between values, a name before a value, strings with their escapes. A string is
-- bytes, each the character of its number.
use Rattle.std.specs.Prelude.{ℕ, Bool, true, false, ◌||◌, ◌==◌, ◌+◌, ◌/◌, ◌%◌, nat_lt, List, [], ◌∷◌, ◌++◌, codes, if◌then◌else◌}
use Rattle.std.specs.List.{flat_map}
use Rattle.trace_effects.specs.declared.record_text.text.Bracket.{Bracket}
use Rattle.trace_effects.specs.declared.record_text.text.Bracket.TheVariants.{Object, List as ListOf}

-- before a value that another stands before
abbrev pub comma_before : Bool → List ℕ
comma_before true = codes ","
comma_before false = []

abbrev pub small_digit : ℕ → ℕ
small_digit d = if nat_lt d 10 then d + 48 else d + 87

-- `\u003c`
abbrev pub code_escape : ℕ → List ℕ
code_escape b = codes "\\u00" ++ (small_digit (b / 16) ∷ small_digit (b % 16) ∷ [])

abbrev pub needs_code : ℕ → Bool
needs_code b = nat_lt b 32 || (nat_lt 126 b || b == 60)

abbrev pub json_byte : ℕ → List ℕ
json_byte b =
    if b == 34 then codes "\\\"" else (
    if b == 92 then codes "\\\\" else (
    if b == 10 then codes "\\n" else (
    if b == 13 then codes "\\r" else (
    if b == 9 then codes "\\t" else (
    if needs_code b then code_escape b else
    b ∷ [])))))

-- a string, between its quotes
abbrev pub string_text : List ℕ → List ℕ
string_text bytes = codes "\"" ++ (flat_map json_byte bytes ++ codes "\"")

-- the name of a value
abbrev pub name_text : List ℕ → List ℕ
name_text name = string_text name ++ codes ":"

-- how an object or a list begins and ends
abbrev pub opening : Bracket → List ℕ
opening Object = codes "{"
opening ListOf = codes "["

abbrev pub closing : Bracket → List ℕ
closing Object = codes "}"
closing ListOf = codes "]"
