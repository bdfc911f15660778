-- What follows a reading is no longer than the text that is read.
use Rattle.std.proofs.Common.{◌≤◌, ℕ, zero, suc, Bool, true, false, List, [], ◌∷◌, length, drop, Option, Some, None, arith, length-drop}
use Rattle.std.specs.Prelude.{◌==◌, ◌&&◌, nat_le, if◌then◌else◌}
use Rattle.std.specs.Int.{is_in_range}
use Rattle.std.specs.List.{prefix_len}
use Rattle.assembler_reading.specs.Expressions.{Lookup, Value, expression, hexadecimal, more_terms, named_term, next_term, numeral, quoted_byte, sign, term, word_value}
use Rattle.assembler_reading.specs.Names.{register, register_named}
use Rattle.assembler_reading.specs.Words.{after_spaces, after_word, byte, comma, is_space, is_word_byte, word, ◌>>=◌}
use Rattle.assembler_reading.specs.RegisterLists.{last_register, register_range}
use Rattle.assembler.specs.Directives.{is_text_byte, with_item_read, text_or_byte}
use Rattle.assembler.specs.Written.{Written}
use Rattle.assembler.specs.declared.directives.Data.{Data}
use Rattle.assembler.specs.declared.directives.Data.TheVariants.{Bytes, Words}

-- If anything is read, what follows it is at most so long.
abbrev pub LeavesAtMost : {A : Type 0} → ℕ → Option (A × List ℕ) → Type 0
LeavesAtMost n None = Unit {0}
LeavesAtMost n (Some r) = length r.1 ≤ n

abbrev pub IsAtMost : ℕ → Option (List ℕ) → Type 0
IsAtMost n None = Unit {0}
IsAtMost n (Some rest) = length rest ≤ n

-- one reading after another
pub leaves_then : {A B : Type 0} (n : ℕ) (o : Option (A × List ℕ)) (f : A × List ℕ → Option (B × List ℕ)) → LeavesAtMost n o
    → ((a : A) (rest : List ℕ) → length rest ≤ n → LeavesAtMost n (f (a, rest))) → LeavesAtMost n (o >>= f)
leaves_then n None f within next = tt
leaves_then n (Some r) f within next = next r.0 r.1 within

leaves_behind : {A B : Type 0} (n : ℕ) (o : Option A) (f : A → B) (rest : List ℕ) → length rest ≤ n → LeavesAtMost n (o >>= λ a. Some (f a, rest))
leaves_behind n None f rest within = tt
leaves_behind n (Some a) f rest within = within

by_test : {A : Type 0} (n : ℕ) (b : Bool) (x y : Option (A × List ℕ)) → LeavesAtMost n x → LeavesAtMost n y → LeavesAtMost n (if b then x else y)
by_test n true x y first second = first
by_test n false x y first second = second

pub wider : (n : ℕ) (text : List ℕ) → length text ≤ n → length text ≤ suc n
wider n text within = omega (arith, within)

tail : (n c : ℕ) (rest : List ℕ) → length (c ∷ rest) ≤ suc n → length rest ≤ n
tail n c rest within = let more : suc (length rest) ≤ suc n = within in omega (arith, more)

tail_within : (n c : ℕ) (rest : List ℕ) → length (c ∷ rest) ≤ n → length rest ≤ n
tail_within n c rest within = let more : suc (length rest) ≤ n = within in omega (arith, more)

dropped : (n k : ℕ) (text : List ℕ) → length text ≤ n → length (drop k text) ≤ n
dropped n k text within = omega (arith, length-drop k text, within)

-- words, spaces, single bytes
word_over : (n : ℕ) (text : List ℕ) → length text ≤ n → length (after_word text) ≤ n
unfolding after_word
word_over n text within = dropped n (prefix_len is_word_byte text) text within

spaces_over : (n : ℕ) (text : List ℕ) → length text ≤ n → length (after_spaces text) ≤ n
unfolding after_spaces
spaces_over n text within = dropped n (prefix_len is_space text) text within

pub byte_over : (n c : ℕ) (text : List ℕ) → length text ≤ suc n → IsAtMost n (byte c text)
unfolding byte
byte_over n c [] within = tt
byte_over n c (x ∷ rest) within = by (x == c)
  where
    by : (b : Bool) → IsAtMost n (if b then Some rest else None)
    by true = tail n x rest within
    by false = tt

pub comma_over : (n : ℕ) (text : List ℕ) → length text ≤ suc n → IsAtMost n (comma text)
unfolding comma
comma_over n text within = by (byte 44 (after_spaces text)) (byte_over n 44 (after_spaces text) (spaces_over (suc n) text within))
  where
    by : (o : Option (List ℕ)) → IsAtMost n o → IsAtMost n (o >>= λ rest. Some (after_spaces rest))
    by None v = tt
    by (Some rest) v = spaces_over n rest v

-- numbers
pub sign_over : (n : ℕ) (text : List ℕ) → length text ≤ suc n → LeavesAtMost n (sign text)
unfolding sign
sign_over n [] within = tt
sign_over n (c ∷ rest) within =
    by_test n (c == 45) (Some (true, rest)) _ (tail n c rest within) (by_test n (c == 43) (Some (false, rest)) None (tail n c rest within) tt)

quoted_over : (n : ℕ) (text : List ℕ) → length text ≤ n → LeavesAtMost n (quoted_byte text)
quoted_over n [] within = tt
quoted_over n (c ∷ []) within = tt
quoted_over n (c ∷ quote ∷ rest) within =
    by_test n (is_in_range 32 126 c && quote == 39) (Some (Some c, rest)) None
    (tail_within n quote rest (tail_within n c (quote ∷ rest) within)) tt

pub term_over : (n : ℕ) (labels : Lookup) (text : List ℕ) → length text ≤ n → LeavesAtMost n (term labels text)
unfolding term
term_over n labels [] within = tt
term_over n labels (c ∷ rest) within =
    let v : length rest ≤ n = tail_within n c rest within in
    by_test n (c == 39) (quoted_byte rest) _ (quoted_over n rest v)
    (by_test n (c == 38) (hexadecimal rest) (named_term labels (c ∷ rest))
    (leaves_behind n (numeral 16 (word rest)) (λ k. Some k) (after_word rest) (word_over n rest v))
    (leaves_behind n (word_value labels (word (c ∷ rest))) (λ value. value) (after_word (c ∷ rest)) (word_over n (c ∷ rest) within)))

more_over : (count n : ℕ) (labels : Lookup) (sum : Value) (text : List ℕ) → length text ≤ n → LeavesAtMost n (more_terms count labels sum text)
unfolding more_terms
more_over zero n labels sum text within = within
more_over (suc count) n labels sum text within = by (sign text) (sign_over n text (wider n text within)) (more_over count n labels)
  where
    by : (s : Option (Bool × List ℕ)) → LeavesAtMost n s
        → ((v : Value) (rest : List ℕ) → length rest ≤ n → LeavesAtMost n (more_terms count labels v rest))
        → LeavesAtMost n (next_term (more_terms count labels) labels sum text s)
    by None v others = within
    by (Some s) v others = leaves_then n (term labels s.1) _ (term_over n labels s.1 v) (λ a rest u. others _ rest u)

expression_over : (n : ℕ) (labels : Lookup) (text : List ℕ) → length text ≤ n → LeavesAtMost n (expression labels text)
unfolding expression
expression_over n labels text within =
    leaves_then n (term labels text) _ (term_over n labels text within) (λ a rest u. more_over (length rest) n labels a rest u)

-- items of DCD and DCB
pub item_over : (n : ℕ) (kind : Data) (labels : Lookup) (written : Written) (text : List ℕ) → length text ≤ n
    → LeavesAtMost n (with_item_read kind labels written text)
unfolding with_item_read
item_over n Words labels written text within = leaves_then n (expression labels text) _ (expression_over n labels text within) (λ a rest u. u)
item_over n Bytes labels written text within = by (byte 34 text) (byte_over n 34 text (wider n text within))
  where
    closed : (w : Written) (o : Option (List ℕ)) → IsAtMost n o → LeavesAtMost n (o >>= λ rest. Some (w, rest))
    closed w None v = tt
    closed w (Some rest) v = v

    by : (o : Option (List ℕ)) → IsAtMost n o → LeavesAtMost n (text_or_byte labels written text o)
    by None v = leaves_then n (expression labels text) _ (expression_over n labels text within) (λ a rest u. u)
    by (Some after) v =
        let inside : length (drop (prefix_len is_text_byte after) after) ≤ n = dropped n (prefix_len is_text_byte after) after v in
        closed _ (byte 34 (drop (prefix_len is_text_byte after) after))
        (byte_over n 34 (drop (prefix_len is_text_byte after) after) (wider n (drop (prefix_len is_text_byte after) after) inside))

-- registers
register_over : (n : ℕ) (text : List ℕ) → length text ≤ n → LeavesAtMost n (register text)
unfolding register
register_over n text within = leaves_behind n (register_named (word text)) (λ r. r) (after_word text) (word_over n text within)

last_over : (n first : ℕ) (text : List ℕ) (o : Option (List ℕ)) → length text ≤ n → IsAtMost n o → LeavesAtMost n (last_register first text o)
last_over n first text None within v = within
last_over n first text (Some after) within v =
    leaves_then n (register after) _ (register_over n after v) (λ b rest u. by_test n (nat_le first b) (Some (b, rest)) None u tt)

pub range_over : (n : ℕ) (text : List ℕ) → length text ≤ n → LeavesAtMost n (register_range text)
range_over n text within =
    leaves_then n (register text) _ (register_over n text within)
    (λ a rest u. leaves_then n (last_register a rest (byte 45 rest)) _ (last_over n a rest (byte 45 rest) u (byte_over n 45 rest (wider n rest u)))
    (λ b after v. v))
