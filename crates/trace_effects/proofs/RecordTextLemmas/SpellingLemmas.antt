-- Digits are spelt as they stand.
use Rattle.std.proofs.Common.{◌≡◌, ℕ, ◌<◌, ◌^◌, List, [], ◌∷◌, refl, arith}
use Rattle.std.proofs.lemmas.Fmt.{decimal_is_IsNumeral}
use Rattle.std.proofs.lemmas.Str.Parse.{digit_from_value}
use Rattle.std.specs.Fmt.{decimal}
use Rattle.std.specs.Int.{IsInRange}
use Rattle.std.specs.List.{flat_map}
use Rattle.std.specs.Str.Parse.{AllDigits}
use Rattle.trace_effects.specs.record_text.Spelling.{json_byte}

plain_digit : (c : ℕ) → IsInRange 48 57 c → json_byte c ≡ c ∷ []
plain_digit c h = grind (arith, h)

plain_digits : (ds : List ℕ) → AllDigits 10 ds → flat_map json_byte ds ≡ ds
plain_digits [] h = refl
plain_digits (c ∷ cs) h =
    let one : json_byte c ≡ c ∷ [] = plain_digit c (digit_from_value c h.0) in
    let rest : flat_map json_byte cs ≡ cs = plain_digits cs h.1 in
    rw (one, rest) refl

pub plain_decimal : (n : ℕ) → n < 2 ^ 64 → flat_map json_byte (decimal n) ≡ decimal n
plain_decimal n h = plain_digits (decimal n) ((decimal_is_IsNumeral n h).0).1
