-- Numbers, and sums and differences of numbers and labels. The value of a text is a word, or `None`
-- where a label in it is unknown. Every value is modulo 2^32. There is no sign at the front and no
-- space inside.
use Rattle.std.specs.Prelude.{ℕ, zero, suc, Bool, true, false, ◌+◌, ◌-◌, ◌*◌, ◌%◌, ◌^◌, ◌==◌, ◌&&◌, nat_lt, List, [], ◌∷◌, length, Option, Some, None, option_map, if◌then◌else◌}
use Rattle.std.specs.Char.{is_digit, digit_value}
use Rattle.std.specs.Int.{is_in_range}
use Rattle.std.specs.List.{list_all}
use Rattle.std.specs.Str.Parse.{digits_value}
use Rattle.assembler_text.specs.naming.Labels.{begins_with_digit, is_label}
use Rattle.assembler_text.specs.naming.Words.{after_word, word, ◌>>=◌}

-- the addresses of labels, as a function of their names
abbrev pub Lookup : Type 0
Lookup = List ℕ → Option ℕ

-- a word, or `None` where a label is unknown
abbrev pub Value : Type 0
Value = Option ℕ

-- a number with one more digit after it
unfoldable pub value_with_digit : ℕ → ℕ → ℕ → Option ℕ
value_with_digit radix value digit = if is_digit digit radix then
    Some ((value * radix + digit_value digit) % 2 ^ 32) else None

-- the number that digits of this radix spell, at least one; of hexadecimal digits the letters are
-- of either case
unfoldable pub numeral : ℕ → List ℕ → Option ℕ
numeral radix digits =
    if nat_lt 0 (length digits) && list_all (λ c. is_digit c radix) digits then
    Some (digits_value radix digits % 2 ^ 32) else None

-- what follows the first quote (39) of `'c'`: one printed byte and a quote. Of `'''` it is 39.
abbrev pub quoted_byte : List ℕ → Option (Value × List ℕ)
quoted_byte (c ∷ quote ∷ rest) = if is_in_range 32 126 c && quote == 39 then Some (Some c, rest) else None
quoted_byte _ = None

-- what follows `&`
abbrev pub hexadecimal : List ℕ → Option (Value × List ℕ)
hexadecimal text = do
  n ← numeral 16 (word text)
  Some (Some n, after_word text)

-- a decimal number, or a label
abbrev pub word_value : Lookup → List ℕ → Option Value
word_value labels name =
    if begins_with_digit name then option_map Some (numeral 10 name)
    else (if is_label name then Some (labels name) else None)

abbrev pub named_term : Lookup → List ℕ → Option (Value × List ℕ)
named_term labels text = do
  value ← word_value labels (word text)
  Some (value, after_word text)

-- `'c'`, `&FF`, `255` or a label
unfoldable pub term : Lookup → List ℕ → Option (Value × List ℕ)
term labels [] = None
term labels (c ∷ rest) = if c == 39 then quoted_byte rest
    else (if c == 38 then hexadecimal rest else named_term labels (c ∷ rest))

-- `-` (45) or `+` (43), and what follows
unfoldable pub sign : List ℕ → Option (Bool × List ℕ)
sign [] = None
sign (c ∷ rest) = if c == 45 then Some (true, rest) else (if c == 43 then Some (false, rest) else None)

-- the sum, or after `-` the difference
unfoldable pub sum_or_difference : Bool → Value → Value → Value
sum_or_difference is_minus first second = do
  a ← first
  b ← second
  Some (if is_minus then (a + 2 ^ 32 - b) % 2 ^ 32 else (a + b) % 2 ^ 32)

-- what a sign begins, or the sum so far
abbrev pub next_term : (Value → List ℕ → Option (Value × List ℕ)) → Lookup → Value → List ℕ →
    Option (Bool × List ℕ) → Option (Value × List ℕ)
next_term others labels sum text None = Some (sum, text)
next_term others labels sum text (Some s) = do
  t ← term labels s.1
  others (sum_or_difference s.0 sum t.0) t.1

-- the terms after a sum, as many as there are; the count, which is never used up, is the length of
-- a text that holds them
unfoldable pub more_terms : ℕ → Lookup → Value → List ℕ → Option (Value × List ℕ)
more_terms zero labels sum text = Some (sum, text)
more_terms (suc n) labels sum text = next_term (more_terms n labels) labels sum text (sign text)

-- `loop+4`, `'A'-&41+n`
unfoldable pub expression : Lookup → List ℕ → Option (Value × List ℕ)
expression labels text = do
  first ← term labels text
  more_terms (length first.1) labels first.0 first.1
