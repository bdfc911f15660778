-- Printed numbers are read back.
use Rattle.std.proofs.Common.{◌≡◌, ◌<◌, ◌≤◌, ◌+◌, ◌*◌, ◌/◌, ◌%◌, ◌^◌, ℕ, zero, suc, Bool, true, false, List, [], ◌∷◌, ◌++◌, length, Some, None, refl, sym, ap, subst, ◌∙◌, arith}
use Rattle.std.proofs.lemmas.Bool.Decides.{nat_tests}
use Rattle.std.proofs.lemmas.Fmt.{decimal_digit, decimal_step}
use Rattle.std.specs.Prelude.{◌==◌, nat_lt, decimal, map, if◌then◌else◌}
use Rattle.std.specs.Char.{digit_value, is_digit}
use Rattle.std.specs.List.{prefix_len, list_all}
use Rattle.std.specs.Str.Parse.{digits_value_after}
use Rattle.profile.specs.Digits.{hex_digit, hex_digit_at, hex_number, hex_word, without_zeros}
use Rattle.profile.specs.Word.{field}
use Rattle.assembler_text.specs.Numbers.{number_text}
use Rattle.assembler_text.specs.naming.Expressions.{Lookup, Value, expression, hexadecimal, more_terms, named_term, numeral, sign, term, word_value}
use Rattle.assembler_text.specs.naming.Words.{after_spaces, is_word_byte}
use Rattle.assembler_reading.proofs.Pieces.{after_before, word_before}

-- a digit's value
pub record IsDigitOf (radix value c : ℕ) : Type 0 where
  pub worth : digit_value c ≡ value
  pub digit : is_digit c radix ≡ true
  pub letter : is_word_byte c ≡ true

-- digits that make a number after those of `start`
pub record Spells (radix start n : ℕ) (digits : List ℕ) : Type 0 where
  pub letters : list_all is_word_byte digits ≡ true
  pub digits_all : list_all (λ c. is_digit c radix) digits ≡ true
  pub value : digits_value_after radix start digits ≡ n

no_more : (radix start n : ℕ) → start ≡ n → Spells radix start n []
no_more radix start n e = record { letters = refl; digits_all = refl; value = e }

one_more : (radix start n d c : ℕ) (digits : List ℕ) → IsDigitOf radix d c → Spells radix (start * radix + d) n digits → Spells radix start n (c ∷ digits)
one_more radix start n d c digits i s = record {
  letters = rw i.letter s.letters;
  digits_all = rw i.digit s.digits_all;
  value = rw i.worth s.value;
}

hex_digit_again : (d : ℕ) → d < 16 → IsDigitOf 16 d (hex_digit d)
hex_digit_again zero h = record { worth = refl; digit = refl; letter = refl }
hex_digit_again (suc zero) h = record { worth = refl; digit = refl; letter = refl }
hex_digit_again (suc (suc zero)) h = record { worth = refl; digit = refl; letter = refl }
hex_digit_again (suc (suc (suc zero))) h = record { worth = refl; digit = refl; letter = refl }
hex_digit_again (suc (suc (suc (suc zero)))) h = record { worth = refl; digit = refl; letter = refl }
hex_digit_again (suc (suc (suc (suc (suc zero))))) h = record { worth = refl; digit = refl; letter = refl }
hex_digit_again (suc (suc (suc (suc (suc (suc zero)))))) h = record { worth = refl; digit = refl; letter = refl }
hex_digit_again (suc (suc (suc (suc (suc (suc (suc zero))))))) h = record { worth = refl; digit = refl; letter = refl }
hex_digit_again (suc (suc (suc (suc (suc (suc (suc (suc zero)))))))) h = record { worth = refl; digit = refl; letter = refl }
hex_digit_again (suc (suc (suc (suc (suc (suc (suc (suc (suc zero))))))))) h = record { worth = refl; digit = refl; letter = refl }
hex_digit_again (suc (suc (suc (suc (suc (suc (suc (suc (suc (suc zero)))))))))) h = record { worth = refl; digit = refl; letter = refl }
hex_digit_again (suc (suc (suc (suc (suc (suc (suc (suc (suc (suc (suc zero))))))))))) h = record { worth = refl; digit = refl; letter = refl }
hex_digit_again (suc (suc (suc (suc (suc (suc (suc (suc (suc (suc (suc (suc zero)))))))))))) h = record { worth = refl; digit = refl; letter = refl }
hex_digit_again (suc (suc (suc (suc (suc (suc (suc (suc (suc (suc (suc (suc (suc zero))))))))))))) h = record { worth = refl; digit = refl; letter = refl }
hex_digit_again (suc (suc (suc (suc (suc (suc (suc (suc (suc (suc (suc (suc (suc (suc zero)))))))))))))) h = record { worth = refl; digit = refl; letter = refl }
hex_digit_again (suc (suc (suc (suc (suc (suc (suc (suc (suc (suc (suc (suc (suc (suc (suc zero))))))))))))))) h = record { worth = refl; digit = refl; letter = refl }
hex_digit_again (suc (suc (suc (suc (suc (suc (suc (suc (suc (suc (suc (suc (suc (suc (suc (suc n)))))))))))))))) h = absurd (omega (arith, h))

all_digits : (n : ℕ) → n < 2 ^ 32 → Spells 16 0 n (hex_word n)
unfolding hex_word
all_digits n low =
    one_more 16 _ n _ _ _ (hex_digit_again (field n 28 4) (omega arith)) (
    one_more 16 _ n _ _ _ (hex_digit_again (field n 24 4) (omega arith)) (
    one_more 16 _ n _ _ _ (hex_digit_again (field n 20 4) (omega arith)) (
    one_more 16 _ n _ _ _ (hex_digit_again (field n 16 4) (omega arith)) (
    one_more 16 _ n _ _ _ (hex_digit_again (field n 12 4) (omega arith)) (
    one_more 16 _ n _ _ _ (hex_digit_again (field n 8 4) (omega arith)) (
    one_more 16 _ n _ _ _ (hex_digit_again (field n 4 4) (omega arith)) (
    one_more 16 _ n _ _ _ (hex_digit_again (field n 0 4) (omega arith)) (
    no_more 16 _ n (omega arith)))))))))

dropped : (x n : ℕ) (digits : List ℕ) → x ≡ 48 → Spells 16 0 n (x ∷ digits) → Spells 16 0 n digits
dropped x n digits e s =
    let t : Spells 16 0 n (48 ∷ digits) = subst (λ (k : ℕ). Spells 16 0 n (k ∷ digits)) e s in
    record { letters = t.letters; digits_all = t.digits_all; value = t.value }

is_zero : (x : ℕ) → (x == 48) ≡ true → x ≡ 48
is_zero x e = grind (arith, nat_tests, e)

keeps_value : (n : ℕ) (digits : List ℕ) → Spells 16 0 n digits → Spells 16 0 n (without_zeros digits)
keeps_value n [] s = s
keeps_value n (x ∷ []) s = s
keeps_value n (x ∷ y ∷ digits) s = by (x == 48) refl (keeps_value n (y ∷ digits))
  where
    by : (b : Bool) → (x == 48) ≡ b → (Spells 16 0 n (y ∷ digits) → Spells 16 0 n (without_zeros (y ∷ digits))) → Spells 16 0 n (without_zeros (x ∷ y ∷ digits))
    by true e more = rw e (more (dropped x n (y ∷ digits) (is_zero x e) s))
    by false e more = rw e s

some_digits : (n : ℕ) → nat_lt 0 (suc (suc n)) ≡ true
some_digits n = grind (arith, nat_tests)

keeps_one : (x : ℕ) (digits : List ℕ) → nat_lt 0 (length (without_zeros (x ∷ digits))) ≡ true
keeps_one x [] = refl
keeps_one x (y ∷ digits) = by (x == 48) refl (keeps_one y digits)
  where
    by : (b : Bool) → (x == 48) ≡ b → nat_lt 0 (length (without_zeros (y ∷ digits))) ≡ true → nat_lt 0 (length (without_zeros (x ∷ y ∷ digits))) ≡ true
    by true e more = rw e more
    by false e more = rw e (some_digits (length digits))

numeral_of : (radix n : ℕ) (digits : List ℕ) → n < 2 ^ 32 → nat_lt 0 (length digits) ≡ true → Spells radix 0 n digits → numeral radix digits ≡ Some n
unfolding numeral
numeral_of radix n digits low some s = let same : n % 2 ^ 32 ≡ n = omega arith in rw (some, s.digits_all, s.value, same) refl

hexadecimal_of : (n : ℕ) (digits rest : List ℕ) → n < 2 ^ 32 → nat_lt 0 (length digits) ≡ true → Spells 16 0 n digits → prefix_len is_word_byte rest ≡ 0
    → hexadecimal (digits ++ rest) ≡ Some (Some n, rest)
hexadecimal_of n digits rest low some s apart =
    rw (word_before digits rest s.letters apart, after_before digits rest s.letters apart, numeral_of 16 n digits low some s) refl

sum_ends : (count : ℕ) (labels : Lookup) (sum : Value) (rest : List ℕ) → sign rest ≡ None → more_terms count labels sum rest ≡ Some (sum, rest)
unfolding more_terms
sum_ends zero labels sum rest e = refl
sum_ends (suc n) labels sum rest e = rw e refl

one_term : (labels : Lookup) (text rest : List ℕ) (sum : Value) → term labels text ≡ Some (sum, rest) → sign rest ≡ None
    → expression labels text ≡ Some (sum, rest)
unfolding expression
one_term labels text rest sum t e = rw (t, sum_ends (length rest) labels sum rest e) refl

after_ampersand : (labels : Lookup) (text : List ℕ) → term labels (38 ∷ text) ≡ hexadecimal text
unfolding term
after_ampersand labels text = refl

some_hex : (n : ℕ) → nat_lt 0 (length (without_zeros (hex_word n))) ≡ true
unfolding hex_word
some_hex n = keeps_one (hex_digit_at n 28) (map (hex_digit_at n) (24 ∷ 20 ∷ 16 ∷ 12 ∷ 8 ∷ 4 ∷ 0 ∷ []))

-- `&` and a number without leading zeros
pub number_again : (labels : Lookup) (n : ℕ) (rest : List ℕ) → n < 2 ^ 32 → prefix_len is_word_byte rest ≡ 0 → sign rest ≡ None
    → expression labels (number_text n ++ rest) ≡ Some (Some n, rest)
unfolding hex_number
number_again labels n rest low apart no_sign =
    one_term labels (38 ∷ (without_zeros (hex_word n) ++ rest)) rest (Some n)
    (after_ampersand labels (without_zeros (hex_word n) ++ rest)
    ∙ hexadecimal_of n (without_zeros (hex_word n)) rest low (some_hex n) (keeps_value n (hex_word n) (all_digits n low)) apart)
    no_sign

eight : (n : ℕ) → nat_lt 0 (length (hex_word n)) ≡ true
unfolding hex_word
eight n = refl

-- `&` and eight digits, as a word of data is printed
pub word_again : (labels : Lookup) (n : ℕ) (rest : List ℕ) → n < 2 ^ 32 → prefix_len is_word_byte rest ≡ 0 → sign rest ≡ None
    → expression labels (38 ∷ (hex_word n ++ rest)) ≡ Some (Some n, rest)
word_again labels n rest low apart no_sign =
    one_term labels (38 ∷ (hex_word n ++ rest)) rest (Some n)
    (after_ampersand labels (hex_word n ++ rest) ∙ hexadecimal_of n (hex_word n) rest low (eight n) (all_digits n low) apart) no_sign

-- an amount of a shift or a rotation, by its digits
pub record IsAmount (digits : List ℕ) (n : ℕ) (labels : Lookup) (rest : List ℕ) : Type 0 where
  pub letters : list_all is_word_byte digits ≡ true
  pub named : term labels (digits ++ rest) ≡ named_term labels (digits ++ rest)
  pub value : word_value labels digits ≡ Some (Some n)
  pub no_space : after_spaces (digits ++ rest) ≡ digits ++ rest

abbrev amount_digits : ℕ → List ℕ
amount_digits n = if nat_lt n 10 then (48 + n) ∷ [] else (48 + n / 10) ∷ (48 + n % 10) ∷ []

written : (n : ℕ) → n < 33 → decimal n ≡ amount_digits n
written n low = by (nat_lt n 10) refl
  where
    by : (b : Bool) → nat_lt n 10 ≡ b → decimal n ≡ amount_digits n
    by true e = let one : n < 10 = grind (arith, nat_tests, e) in rw e (decimal_digit n one)
    by false e =
        let two : 10 ≤ n = grind (arith, nat_tests, e) in
        rw e (decimal_step n two (omega arith) ∙ ap (λ (front : List ℕ). front ++ (48 + n % 10) ∷ []) (decimal_digit (n / 10) (omega arith)))

of_digits : (n : ℕ) (labels : Lookup) (rest : List ℕ) → n < 33 → IsAmount (amount_digits n) n labels rest
unfolding term numeral after_spaces
of_digits zero labels rest h = record { letters = refl; named = refl; value = refl; no_space = refl }
of_digits (suc zero) labels rest h = record { letters = refl; named = refl; value = refl; no_space = refl }
of_digits (suc (suc zero)) labels rest h = record { letters = refl; named = refl; value = refl; no_space = refl }
of_digits (suc (suc (suc zero))) labels rest h = record { letters = refl; named = refl; value = refl; no_space = refl }
of_digits (suc (suc (suc (suc zero)))) labels rest h = record { letters = refl; named = refl; value = refl; no_space = refl }
of_digits (suc (suc (suc (suc (suc zero))))) labels rest h = record { letters = refl; named = refl; value = refl; no_space = refl }
of_digits (suc (suc (suc (suc (suc (suc zero)))))) labels rest h = record { letters = refl; named = refl; value = refl; no_space = refl }
of_digits (suc (suc (suc (suc (suc (suc (suc zero))))))) labels rest h = record { letters = refl; named = refl; value = refl; no_space = refl }
of_digits (suc (suc (suc (suc (suc (suc (suc (suc zero)))))))) labels rest h = record { letters = refl; named = refl; value = refl; no_space = refl }
of_digits (suc (suc (suc (suc (suc (suc (suc (suc (suc zero))))))))) labels rest h = record { letters = refl; named = refl; value = refl; no_space = refl }
of_digits (suc (suc (suc (suc (suc (suc (suc (suc (suc (suc zero)))))))))) labels rest h = record { letters = refl; named = refl; value = refl; no_space = refl }
of_digits (suc (suc (suc (suc (suc (suc (suc (suc (suc (suc (suc zero))))))))))) labels rest h = record { letters = refl; named = refl; value = refl; no_space = refl }
of_digits (suc (suc (suc (suc (suc (suc (suc (suc (suc (suc (suc (suc zero)))))))))))) labels rest h = record { letters = refl; named = refl; value = refl; no_space = refl }
of_digits (suc (suc (suc (suc (suc (suc (suc (suc (suc (suc (suc (suc (suc zero))))))))))))) labels rest h = record { letters = refl; named = refl; value = refl; no_space = refl }
of_digits (suc (suc (suc (suc (suc (suc (suc (suc (suc (suc (suc (suc (suc (suc zero)))))))))))))) labels rest h = record { letters = refl; named = refl; value = refl; no_space = refl }
of_digits (suc (suc (suc (suc (suc (suc (suc (suc (suc (suc (suc (suc (suc (suc (suc zero))))))))))))))) labels rest h = record { letters = refl; named = refl; value = refl; no_space = refl }
of_digits (suc (suc (suc (suc (suc (suc (suc (suc (suc (suc (suc (suc (suc (suc (suc (suc zero)))))))))))))))) labels rest h = record { letters = refl; named = refl; value = refl; no_space = refl }
of_digits (suc (suc (suc (suc (suc (suc (suc (suc (suc (suc (suc (suc (suc (suc (suc (suc (suc zero))))))))))))))))) labels rest h = record { letters = refl; named = refl; value = refl; no_space = refl }
of_digits (suc (suc (suc (suc (suc (suc (suc (suc (suc (suc (suc (suc (suc (suc (suc (suc (suc (suc zero)))))))))))))))))) labels rest h = record { letters = refl; named = refl; value = refl; no_space = refl }
of_digits (suc (suc (suc (suc (suc (suc (suc (suc (suc (suc (suc (suc (suc (suc (suc (suc (suc (suc (suc zero))))))))))))))))))) labels rest h = record { letters = refl; named = refl; value = refl; no_space = refl }
of_digits (suc (suc (suc (suc (suc (suc (suc (suc (suc (suc (suc (suc (suc (suc (suc (suc (suc (suc (suc (suc zero)))))))))))))))))))) labels rest h = record { letters = refl; named = refl; value = refl; no_space = refl }
of_digits (suc (suc (suc (suc (suc (suc (suc (suc (suc (suc (suc (suc (suc (suc (suc (suc (suc (suc (suc (suc (suc zero))))))))))))))))))))) labels rest h = record { letters = refl; named = refl; value = refl; no_space = refl }
of_digits (suc (suc (suc (suc (suc (suc (suc (suc (suc (suc (suc (suc (suc (suc (suc (suc (suc (suc (suc (suc (suc (suc zero)))))))))))))))))))))) labels rest h = record { letters = refl; named = refl; value = refl; no_space = refl }
of_digits (suc (suc (suc (suc (suc (suc (suc (suc (suc (suc (suc (suc (suc (suc (suc (suc (suc (suc (suc (suc (suc (suc (suc zero))))))))))))))))))))))) labels rest h = record { letters = refl; named = refl; value = refl; no_space = refl }
of_digits (suc (suc (suc (suc (suc (suc (suc (suc (suc (suc (suc (suc (suc (suc (suc (suc (suc (suc (suc (suc (suc (suc (suc (suc zero)))))))))))))))))))))))) labels rest h = record { letters = refl; named = refl; value = refl; no_space = refl }
of_digits (suc (suc (suc (suc (suc (suc (suc (suc (suc (suc (suc (suc (suc (suc (suc (suc (suc (suc (suc (suc (suc (suc (suc (suc (suc zero))))))))))))))))))))))))) labels rest h = record { letters = refl; named = refl; value = refl; no_space = refl }
of_digits (suc (suc (suc (suc (suc (suc (suc (suc (suc (suc (suc (suc (suc (suc (suc (suc (suc (suc (suc (suc (suc (suc (suc (suc (suc (suc zero)))))))))))))))))))))))))) labels rest h = record { letters = refl; named = refl; value = refl; no_space = refl }
of_digits (suc (suc (suc (suc (suc (suc (suc (suc (suc (suc (suc (suc (suc (suc (suc (suc (suc (suc (suc (suc (suc (suc (suc (suc (suc (suc (suc zero))))))))))))))))))))))))))) labels rest h = record { letters = refl; named = refl; value = refl; no_space = refl }
of_digits (suc (suc (suc (suc (suc (suc (suc (suc (suc (suc (suc (suc (suc (suc (suc (suc (suc (suc (suc (suc (suc (suc (suc (suc (suc (suc (suc (suc zero)))))))))))))))))))))))))))) labels rest h = record { letters = refl; named = refl; value = refl; no_space = refl }
of_digits (suc (suc (suc (suc (suc (suc (suc (suc (suc (suc (suc (suc (suc (suc (suc (suc (suc (suc (suc (suc (suc (suc (suc (suc (suc (suc (suc (suc (suc zero))))))))))))))))))))))))))))) labels rest h = record { letters = refl; named = refl; value = refl; no_space = refl }
of_digits (suc (suc (suc (suc (suc (suc (suc (suc (suc (suc (suc (suc (suc (suc (suc (suc (suc (suc (suc (suc (suc (suc (suc (suc (suc (suc (suc (suc (suc (suc zero)))))))))))))))))))))))))))))) labels rest h = record { letters = refl; named = refl; value = refl; no_space = refl }
of_digits (suc (suc (suc (suc (suc (suc (suc (suc (suc (suc (suc (suc (suc (suc (suc (suc (suc (suc (suc (suc (suc (suc (suc (suc (suc (suc (suc (suc (suc (suc (suc zero))))))))))))))))))))))))))))))) labels rest h = record { letters = refl; named = refl; value = refl; no_space = refl }
of_digits (suc (suc (suc (suc (suc (suc (suc (suc (suc (suc (suc (suc (suc (suc (suc (suc (suc (suc (suc (suc (suc (suc (suc (suc (suc (suc (suc (suc (suc (suc (suc (suc zero)))))))))))))))))))))))))))))))) labels rest h = record { letters = refl; named = refl; value = refl; no_space = refl }
of_digits (suc (suc (suc (suc (suc (suc (suc (suc (suc (suc (suc (suc (suc (suc (suc (suc (suc (suc (suc (suc (suc (suc (suc (suc (suc (suc (suc (suc (suc (suc (suc (suc (suc n))))))))))))))))))))))))))))))))) labels rest h = absurd (omega (arith, h))

pub is_amount : (n : ℕ) (labels : Lookup) (rest : List ℕ) → n < 33 → IsAmount (decimal n) n labels rest
is_amount n labels rest h = subst (λ (digits : List ℕ). IsAmount digits n labels rest) (sym (written n h)) (of_digits n labels rest h)

named_of : (labels : Lookup) (name rest : List ℕ) (value : Value) → list_all is_word_byte name ≡ true → word_value labels name ≡ Some value
    → prefix_len is_word_byte rest ≡ 0 → named_term labels (name ++ rest) ≡ Some (value, rest)
named_of labels name rest value letters known apart =
    rw (word_before name rest letters apart, after_before name rest letters apart, known) refl

-- a decimal number up to 32
pub amount_again : (labels : Lookup) (n : ℕ) (rest : List ℕ) → n < 33 → prefix_len is_word_byte rest ≡ 0 → sign rest ≡ None
    → expression labels (decimal n ++ rest) ≡ Some (Some n, rest)
amount_again labels n rest h apart no_sign =
    let a = is_amount n labels rest h in
    one_term labels (decimal n ++ rest) rest (Some n) (a.named ∙ named_of labels (decimal n) rest (Some n) a.letters a.value apart) no_sign
