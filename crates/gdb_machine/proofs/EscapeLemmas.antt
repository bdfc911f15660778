-- What stands in XML: how a loop writes it, that no tag stands there, and that it is read back.
use Rattle.std.proofs.Common.{◌≡◌, ◌≤◌, ◌<◌, ◌+◌, ◌*◌, ◌/◌, ◌%◌, ℕ, suc, zero, Bool, true, false, not, List, [], ◌∷◌, ◌++◌, length, length-append, arith, refl, ap, ◌∙◌}
use Rattle.std.specs.Prelude.{◌==◌, ◌||◌, nat_lt, if◌then◌else◌}
use Rattle.std.proofs.lemmas.Bool.{agree_below_at, and_from, eqb-true, ltb-true}
use Rattle.std.proofs.lemmas.List.Folds.{list_all-append}
use Rattle.profile.specs.Digits.{hex_digit}
use Rattle.gdb_packets.proofs.ReadingLemmas.{both_true}
use Rattle.gdb_machine.specs.Escape.{are_bytes, escaped_bytes, escaped_byte, has_no_tag, hex_value, is_markup, is_shown, mark, reference, unescaped_bytes, shown_in}

-- two digits have the byte's value
digits_back : (b : ℕ) → b < 256 → 16 * hex_value (hex_digit (b / 16)) + hex_value (hex_digit (b % 16)) ≡ b
digits_back b below =
    eqb-true (16 * hex_value (hex_digit (b / 16)) + hex_value (hex_digit (b % 16))) b
    (agree_below_at (λ c. (16 * hex_value (hex_digit (c / 16)) + hex_value (hex_digit (c % 16))) == c)
    (λ _. true) 256 b refl below)

third_false : (p q r s : Bool) → (p || (q || (r || s))) ≡ false → r ≡ false
third_false true q r s e = absurd (cc)
third_false false true r s e = absurd (cc)
third_false false false true s e = absurd (cc)
third_false false false false s e = refl

-- what isn't taken for XML's own is no `&`
no_reference : (b : ℕ) → is_markup b ≡ false → (b == 38) ≡ false
no_reference b is = third_false (b == 60) (b == 62) (b == 38) (b == 34) is

byte_back_by : (most b : ℕ) (tail : List ℕ) (m s : Bool) → is_markup b ≡ m → b < 256
    → shown_in (suc most) ((if m then reference b else (if s then b ∷ [] else mark b)) ++ tail) ≡ b ∷ shown_in most tail
unfolding shown_in
byte_back_by most b tail true s is below = ap (λ (c : ℕ). c ∷ shown_in most tail) (digits_back b below)
byte_back_by most b tail false true is below = rw (no_reference b is) refl
byte_back_by most b tail false false is below = ap (λ (c : ℕ). c ∷ shown_in most tail) (digits_back b below)

byte_back : (most b : ℕ) (tail : List ℕ) → b < 256
    → shown_in (suc most) (escaped_byte b ++ tail) ≡ b ∷ shown_in most tail
byte_back most b tail below = byte_back_by most b tail (is_markup b) (is_shown b) refl below

all_back : (bytes : List ℕ) (most : ℕ) → length bytes ≤ most → are_bytes bytes ≡ true → shown_in most (escaped_bytes bytes) ≡ bytes
unfolding shown_in
all_back [] zero within are = refl
all_back [] (suc most) within are = refl
all_back (b ∷ rest) zero within are = absurd (omega arith)
all_back (b ∷ rest) (suc most) within are =
    byte_back most b (escaped_bytes rest) (ltb-true b 256 (both_true (nat_lt b 256) (are_bytes rest) are).0)
    ∙ ap (λ (xs : List ℕ). b ∷ xs) (all_back rest most (omega arith) (both_true (nat_lt b 256) (are_bytes rest) are).1)

some_each : (b : ℕ) (m s : Bool) → 1 ≤ length (if m then reference b else (if s then b ∷ [] else mark b))
some_each b true s = omega arith
some_each b false true = omega arith
some_each b false false = omega arith

not_shorter : (bytes : List ℕ) → length bytes ≤ length (escaped_bytes bytes)
not_shorter [] = omega arith
not_shorter (b ∷ rest) =
    omega (arith, length-append (escaped_byte b) (escaped_bytes rest), some_each b (is_markup b) (is_shown b), not_shorter rest)

-- what stands in XML is read back
pub escaped_back : (bytes : List ℕ) → are_bytes bytes ≡ true → unescaped_bytes (escaped_bytes bytes) ≡ bytes
unfolding unescaped_bytes
escaped_back bytes are = all_back bytes (length (escaped_bytes bytes)) (not_shorter bytes) are

byte_has_no_tag : (b : ℕ) → b < 256 → has_no_tag (escaped_byte b) ≡ true
byte_has_no_tag b below = agree_below_at (λ c. has_no_tag (escaped_byte c)) (λ _. true) 256 b refl below

-- no tag of the bytes' own stands there
pub escaped_has_no_tag : (bytes : List ℕ) → are_bytes bytes ≡ true → has_no_tag (escaped_bytes bytes) ≡ true
escaped_has_no_tag [] are = refl
escaped_has_no_tag (b ∷ rest) are =
    list_all-append (λ (c : ℕ). not (c == 60)) (escaped_byte b) (escaped_bytes rest)
    ∙ and_from (has_no_tag (escaped_byte b)) (has_no_tag (escaped_bytes rest))
    (byte_has_no_tag b (ltb-true b 256 (both_true (nat_lt b 256) (are_bytes rest) are).0))
    (escaped_has_no_tag rest (both_true (nat_lt b 256) (are_bytes rest) are).1)
