-- What directives are written as; they are this project's own, in the manner of Acorn's assemblers.
-- `DCD 1,loop` is two words, `DCB "Hi",0` three bytes, `SPACE 8` eight zero bytes, and `ALIGN` zero
-- bytes up to the next multiple of 4.
use Rattle.std.specs.Prelude.{ℕ, zero, suc, ◌+◌, ◌*◌, ◌==◌, ◌&&◌, not, min, List, length, take, drop, codes, nat_le, nat_lt, Bool, Option, None, Some, if◌then◌else◌}
use Rattle.std.specs.Char.{is_digit, digit_value}
use Rattle.std.specs.List.{list_all, prefix_len}
use Rattle.std.specs.Str.Parse.{digits_value}
use Rattle.assembler_reading.specs.Words.{◌>>=◌, word, after_word, is_same_name, byte, comma}
use Rattle.assembler_reading.specs.Expressions.{Lookup, expression}
use Rattle.assembler.specs.declared.directives.Directive.{Directive}
use Rattle.assembler.specs.declared.directives.Directive.TheVariants as directive
use Rattle.assembler.specs.declared.directives.Data.{Data}
use Rattle.assembler.specs.declared.directives.Data.TheVariants.{Words, Bytes}
use Rattle.assembler.specs.Written.{Written, written_without_fault, with_item, word_item, byte_item}

-- in capitals or not
abbrev pub directive_named : List ℕ → Option Directive
directive_named name =
    if is_same_name name (codes "DCD") then Some (directive.Listed Words) else (
    if is_same_name name (codes "DCB") then Some (directive.Listed Bytes) else (
    if is_same_name name (codes "SPACE") then Some directive.Space else (
    if is_same_name name (codes "ALIGN") then Some directive.Align else
    None)))

-- the bytes of a quoted text: printing ASCII characters and the space, but no quote
abbrev pub is_text_byte : ℕ → Bool
is_text_byte c = nat_le 32 c && nat_le c 126 && not (c == 34)

-- what follows the first quote of a text, up to its second, after what stands written
abbrev pub with_quoted_text : Written → List ℕ → Option (Written × List ℕ)
with_quoted_text written text = do
  rest ← byte 34 (drop (prefix_len is_text_byte text) text)
  Some (with_item written (written_without_fault (take (prefix_len is_text_byte text) text)), rest)

abbrev pub with_word_read : Lookup → Written → List ℕ → Option (Written × List ℕ)
with_word_read labels written text = do
  value ← expression labels text
  Some (with_item written (word_item value.0), value.1)

abbrev pub with_byte_read : Lookup → Written → List ℕ → Option (Written × List ℕ)
with_byte_read labels written text = do
  value ← expression labels text
  Some (with_item written (byte_item value.0), value.1)

abbrev pub text_or_byte : Lookup → Written → List ℕ → Option (List ℕ) → Option (Written × List ℕ)
text_or_byte labels written text (Some after) = with_quoted_text written after
text_or_byte labels written text None = with_byte_read labels written text

-- an item of DCD, an expression, or of DCB, an expression or a text
unfoldable pub with_item_read : Data → Lookup → Written → List ℕ → Option (Written × List ℕ)
with_item_read Words labels written text = with_word_read labels written text
with_item_read Bytes labels written text = text_or_byte labels written text (byte 34 text)

abbrev pub next_item : (Written → List ℕ → Option (Written × List ℕ)) → Data → Lookup → Written → List ℕ →
    Option (List ℕ) → Option (Written × List ℕ)
next_item others kind labels written text None = Some (written, text)
next_item others kind labels written text (Some after) = do
  item ← with_item_read kind labels written after
  others item.0 item.1

-- the items after a comma each, as many as there are; the count, which is never used up, is the
-- length of a text that holds them
unfoldable pub more_items : ℕ → Data → Lookup → Written → List ℕ → Option (Written × List ℕ)
more_items zero kind labels written text = Some (written, text)
more_items (suc n) kind labels written text = next_item (more_items n kind labels) kind labels written text
    (comma text)

-- one item or more
abbrev pub items : Data → Lookup → Written → List ℕ → Option (Written × List ℕ)
items kind labels written text = do
  first ← with_item_read kind labels written text
  more_items (length first.1) kind labels first.0 first.1

-- a size with one more digit after it
unfoldable pub size_with_digit : ℕ → ℕ → ℕ → Option ℕ
size_with_digit radix size digit = if is_digit digit radix then
    Some (min (size * radix + digit_value digit) 1048577) else None

-- the number that digits spell, where 1,048,577 stands for all greater ones: so many bytes are too
-- many
unfoldable pub spare_size_of : ℕ → List ℕ → Option ℕ
spare_size_of radix digits =
    if nat_lt 0 (length digits) && list_all (λ c. is_digit c radix) digits then
    Some (min (digits_value radix digits) 1048577) else None

abbrev pub spare_size_after : ℕ → List ℕ → Option (ℕ × List ℕ)
spare_size_after radix text = do
  size ← spare_size_of radix (word text)
  Some (size, after_word text)

abbrev pub size_at : List ℕ → Option (List ℕ) → Option (ℕ × List ℕ)
size_at text (Some after) = spare_size_after 16 after
size_at text None = spare_size_after 10 text

-- the size of a SPACE: a decimal number, or a hexadecimal one after `&`
abbrev pub size : List ℕ → Option (ℕ × List ℕ)
size text = size_at text (byte 38 text)
