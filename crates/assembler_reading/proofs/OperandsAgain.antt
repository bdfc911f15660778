-- A printed second operand is read back.
use Rattle.std.proofs.Common.{◌≡◌, ◌<◌, ◌≤◌, ◌*◌, ◌%◌, ◌^◌, ℕ, zero, suc, Bool, true, false, List, ◌∷◌, ◌++◌, Option, Some, None, Result, Ok, refl, sym, ap, subst, ◌∙◌, arith, append_assoc}
use Rattle.std.proofs.lemmas.Bool.{eqb-true}
use Rattle.std.proofs.lemmas.Bool.Decides.{nat_tests}
use Rattle.std.specs.Prelude.{◌==◌, nat_le, codes, decimal}
use Rattle.std.specs.List.{prefix_len}
use Rattle.arm_decode.specs.Ranges.{FitsOperand, FitsShifted}
use Rattle.arm_decode.specs.declared.operand.Operand.{Operand}
use Rattle.arm_decode.specs.declared.operand.Operand.TheVariants as operand
use Rattle.arm_decode.specs.declared.shift.Shift.{Shift}
use Rattle.arm_decode.specs.declared.shift.Shift.TheVariants as shift
use Rattle.arm_decode.specs.declared.shift.ShiftedRegister.{ShiftedRegister}
use Rattle.assembler_text.specs.Names.{register_text, shift_text}
use Rattle.assembler_text.specs.Numbers.{immediate_text, immediate_value, is_field, least_rotation, number_text, rotated_back}
use Rattle.assembler_text.specs.Operands.{amount_text, by_register_text, operand_text, shifted_text, shifting_text}
use Rattle.assembler_text.specs.naming.Expressions.{Lookup, Value, expression, sign}
use Rattle.assembler_text.specs.naming.Names.{register, shift_named}
use Rattle.assembler_text.specs.naming.Words.{after_spaces, after_word, byte, comma, is_word_byte, spaces, word}
use Rattle.assembler_text.specs.declared.naming.reason.Reason.{Reason}
use Rattle.assembler_reading.specs.Operands.{amount_at, immediate_operand, immediate_of, most_places, named_shift, places_of, rotated_of, rotation_at, second_operand, shift_at, shifted_operand, register_shifted_by}
use Rattle.assembler_reading.proofs.Numbers.{amount_again, is_amount, number_again}
use Rattle.assembler_reading.proofs.Pieces.{Ends, after_before, comma_then, is_register, register_again, word_before}

-- a byte rotated to the right and back
pub rotated_twice : (r b : ℕ) → r < 16 → b < 256 → rotated_back (immediate_value r b) r ≡ b
rotated_twice zero b h low = omega arith
rotated_twice (suc zero) b h low = omega arith
rotated_twice (suc (suc zero)) b h low = omega arith
rotated_twice (suc (suc (suc zero))) b h low = omega arith
rotated_twice (suc (suc (suc (suc zero)))) b h low = omega arith
rotated_twice (suc (suc (suc (suc (suc zero))))) b h low = omega arith
rotated_twice (suc (suc (suc (suc (suc (suc zero)))))) b h low = omega arith
rotated_twice (suc (suc (suc (suc (suc (suc (suc zero))))))) b h low = omega arith
rotated_twice (suc (suc (suc (suc (suc (suc (suc (suc zero)))))))) b h low = omega arith
rotated_twice (suc (suc (suc (suc (suc (suc (suc (suc (suc zero))))))))) b h low = omega arith
rotated_twice (suc (suc (suc (suc (suc (suc (suc (suc (suc (suc zero)))))))))) b h low = omega arith
rotated_twice (suc (suc (suc (suc (suc (suc (suc (suc (suc (suc (suc zero))))))))))) b h low = omega arith
rotated_twice (suc (suc (suc (suc (suc (suc (suc (suc (suc (suc (suc (suc zero)))))))))))) b h low = omega arith
rotated_twice (suc (suc (suc (suc (suc (suc (suc (suc (suc (suc (suc (suc (suc zero))))))))))))) b h low = omega arith
rotated_twice (suc (suc (suc (suc (suc (suc (suc (suc (suc (suc (suc (suc (suc (suc zero)))))))))))))) b h low = omega arith
rotated_twice (suc (suc (suc (suc (suc (suc (suc (suc (suc (suc (suc (suc (suc (suc (suc zero))))))))))))))) b h low = omega arith
rotated_twice (suc (suc (suc (suc (suc (suc (suc (suc (suc (suc (suc (suc (suc (suc (suc (suc n)))))))))))))))) b h low = absurd (omega (arith, h))

pub rotated_low : (r b : ℕ) → r < 16 → b < 256 → immediate_value r b < 2 ^ 32
rotated_low zero b h low = omega arith
rotated_low (suc zero) b h low = omega arith
rotated_low (suc (suc zero)) b h low = omega arith
rotated_low (suc (suc (suc zero))) b h low = omega arith
rotated_low (suc (suc (suc (suc zero)))) b h low = omega arith
rotated_low (suc (suc (suc (suc (suc zero))))) b h low = omega arith
rotated_low (suc (suc (suc (suc (suc (suc zero)))))) b h low = omega arith
rotated_low (suc (suc (suc (suc (suc (suc (suc zero))))))) b h low = omega arith
rotated_low (suc (suc (suc (suc (suc (suc (suc (suc zero)))))))) b h low = omega arith
rotated_low (suc (suc (suc (suc (suc (suc (suc (suc (suc zero))))))))) b h low = omega arith
rotated_low (suc (suc (suc (suc (suc (suc (suc (suc (suc (suc zero)))))))))) b h low = omega arith
rotated_low (suc (suc (suc (suc (suc (suc (suc (suc (suc (suc (suc zero))))))))))) b h low = omega arith
rotated_low (suc (suc (suc (suc (suc (suc (suc (suc (suc (suc (suc (suc zero)))))))))))) b h low = omega arith
rotated_low (suc (suc (suc (suc (suc (suc (suc (suc (suc (suc (suc (suc (suc zero))))))))))))) b h low = omega arith
rotated_low (suc (suc (suc (suc (suc (suc (suc (suc (suc (suc (suc (suc (suc (suc zero)))))))))))))) b h low = omega arith
rotated_low (suc (suc (suc (suc (suc (suc (suc (suc (suc (suc (suc (suc (suc (suc (suc zero))))))))))))))) b h low = omega arith
rotated_low (suc (suc (suc (suc (suc (suc (suc (suc (suc (suc (suc (suc (suc (suc (suc (suc n)))))))))))))))) b h low = absurd (omega (arith, h))

behind_hash : (labels : Lookup) (text : List ℕ) → second_operand labels (35 ∷ text) ≡ immediate_operand labels text
unfolding second_operand byte
behind_hash labels text = refl

same_rotation : (value r : ℕ) (least : Option ℕ) → is_field least r ≡ true → least ≡ Some r
same_rotation value r None e = absurd cc
same_rotation value r (Some n) e = let same : n ≡ r = grind (arith, nat_tests, e) in ap Some same

by_least : (value r : ℕ) → least_rotation value ≡ Some r → immediate_of (Some value) ≡ Ok (operand.Immediate r (rotated_back value r))
by_least value r e = rw e refl

alone : (labels : Lookup) (text rest : List ℕ) (value : Value) → expression labels text ≡ Some (value, rest) → comma rest ≡ None
    → immediate_operand labels text ≡ Some (immediate_of value, rest)
alone labels text rest value e none = rw (e, none) refl

turned : (labels : Lookup) (text behind after rest : List ℕ) (value turns : Value) → expression labels text ≡ Some (value, behind)
    → comma behind ≡ Some after → expression labels after ≡ Some (turns, rest) → immediate_operand labels text ≡ Some (rotated_of value turns, rest)
turned labels text behind after rest value turns e some f = rw (e, some, f) refl

rotated_field : (r b : ℕ) → r < 16 → b < 256 → rotated_of (Some b) (Some (2 * r)) ≡ Ok (operand.Immediate r b)
rotated_field zero b h low = let byte : nat_le b 255 ≡ true = grind (arith, nat_tests, low) in rw byte refl
rotated_field (suc zero) b h low = let byte : nat_le b 255 ≡ true = grind (arith, nat_tests, low) in rw byte refl
rotated_field (suc (suc zero)) b h low = let byte : nat_le b 255 ≡ true = grind (arith, nat_tests, low) in rw byte refl
rotated_field (suc (suc (suc zero))) b h low = let byte : nat_le b 255 ≡ true = grind (arith, nat_tests, low) in rw byte refl
rotated_field (suc (suc (suc (suc zero)))) b h low = let byte : nat_le b 255 ≡ true = grind (arith, nat_tests, low) in rw byte refl
rotated_field (suc (suc (suc (suc (suc zero))))) b h low = let byte : nat_le b 255 ≡ true = grind (arith, nat_tests, low) in rw byte refl
rotated_field (suc (suc (suc (suc (suc (suc zero)))))) b h low = let byte : nat_le b 255 ≡ true = grind (arith, nat_tests, low) in rw byte refl
rotated_field (suc (suc (suc (suc (suc (suc (suc zero))))))) b h low = let byte : nat_le b 255 ≡ true = grind (arith, nat_tests, low) in rw byte refl
rotated_field (suc (suc (suc (suc (suc (suc (suc (suc zero)))))))) b h low = let byte : nat_le b 255 ≡ true = grind (arith, nat_tests, low) in rw byte refl
rotated_field (suc (suc (suc (suc (suc (suc (suc (suc (suc zero))))))))) b h low = let byte : nat_le b 255 ≡ true = grind (arith, nat_tests, low) in rw byte refl
rotated_field (suc (suc (suc (suc (suc (suc (suc (suc (suc (suc zero)))))))))) b h low = let byte : nat_le b 255 ≡ true = grind (arith, nat_tests, low) in rw byte refl
rotated_field (suc (suc (suc (suc (suc (suc (suc (suc (suc (suc (suc zero))))))))))) b h low = let byte : nat_le b 255 ≡ true = grind (arith, nat_tests, low) in rw byte refl
rotated_field (suc (suc (suc (suc (suc (suc (suc (suc (suc (suc (suc (suc zero)))))))))))) b h low = let byte : nat_le b 255 ≡ true = grind (arith, nat_tests, low) in rw byte refl
rotated_field (suc (suc (suc (suc (suc (suc (suc (suc (suc (suc (suc (suc (suc zero))))))))))))) b h low = let byte : nat_le b 255 ≡ true = grind (arith, nat_tests, low) in rw byte refl
rotated_field (suc (suc (suc (suc (suc (suc (suc (suc (suc (suc (suc (suc (suc (suc zero)))))))))))))) b h low = let byte : nat_le b 255 ≡ true = grind (arith, nat_tests, low) in rw byte refl
rotated_field (suc (suc (suc (suc (suc (suc (suc (suc (suc (suc (suc (suc (suc (suc (suc zero))))))))))))))) b h low = let byte : nat_le b 255 ≡ true = grind (arith, nat_tests, low) in rw byte refl
rotated_field (suc (suc (suc (suc (suc (suc (suc (suc (suc (suc (suc (suc (suc (suc (suc (suc n)))))))))))))))) b h low = absurd (omega (arith, h))

apart_comma : (rest : List ℕ) → prefix_len is_word_byte (44 ∷ rest) ≡ 0
apart_comma rest = refl

no_sign_comma : (rest : List ℕ) → sign (44 ∷ rest) ≡ None
unfolding sign
no_sign_comma rest = refl

by_value : (labels : Lookup) (r b : ℕ) (rest : List ℕ) → r < 16 → b < 256 → Ends rest → is_field (least_rotation (immediate_value r b)) r ≡ true
    → second_operand labels (35 ∷ (number_text (immediate_value r b) ++ rest)) ≡ Some (Ok (operand.Immediate r b), rest)
by_value labels r b rest h low ends e =
    let value : ℕ = immediate_value r b in
    let small : value < 2 ^ 32 = rotated_low r b h low in
    behind_hash labels (number_text value ++ rest)
    ∙ alone labels (number_text value ++ rest) rest (Some value) (number_again labels value rest small ends.apart ends.no_sign) ends.no_comma
    ∙ ap (λ (o : Result Operand Reason). Some (o, rest)) (by_least value r (same_rotation value r (least_rotation value) e))
    ∙ ap (λ (n : ℕ). Some (Ok (operand.Immediate r n), rest)) (rotated_twice r b h low)

by_rotation : (labels : Lookup) (r b : ℕ) (rest : List ℕ) → r < 16 → b < 256 → Ends rest
    → second_operand labels (35 ∷ (number_text b ++ (44 ∷ (decimal (2 * r) ++ rest)))) ≡ Some (Ok (operand.Immediate r b), rest)
by_rotation labels r b rest h low ends =
    let after : List ℕ = decimal (2 * r) ++ rest in
    let small : b < 2 ^ 32 = omega arith in
    let turns : 2 * r < 33 = omega arith in
    behind_hash labels (number_text b ++ (44 ∷ after))
    ∙ turned labels (number_text b ++ (44 ∷ after)) (44 ∷ after) after rest (Some b) (Some (2 * r))
    (number_again labels b (44 ∷ after) small (apart_comma after) (no_sign_comma after))
    (comma_then after (is_amount (2 * r) labels rest turns).no_space)
    (amount_again labels (2 * r) rest turns ends.apart ends.no_sign)
    ∙ ap (λ (o : Result Operand Reason). Some (o, rest)) (rotated_field r b h low)

regrouped : (b : ℕ) (digits rest : List ℕ) → (number_text b ++ (44 ∷ digits)) ++ rest ≡ number_text b ++ (44 ∷ (digits ++ rest))
regrouped b digits rest = append_assoc (number_text b) (44 ∷ digits) rest

immediate_again : (labels : Lookup) (r b : ℕ) (rest : List ℕ) → r < 16 → b < 256 → Ends rest
    → second_operand labels (immediate_text r b ++ rest) ≡ Some (Ok (operand.Immediate r b), rest)
immediate_again labels r b rest h low ends = by (is_field (least_rotation (immediate_value r b)) r) refl
  where
    by : (t : Bool) → is_field (least_rotation (immediate_value r b)) r ≡ t → second_operand labels (immediate_text r b ++ rest) ≡ Some (Ok (operand.Immediate r b), rest)
    by true e = rw e (by_value labels r b rest h low ends e)
    by false e = rw e (rw (regrouped b (decimal (2 * r)) rest) (by_rotation labels r b rest h low ends))

-- A shift by an amount
no_space_named : (s : Shift) (rest : List ℕ) → after_spaces (shift_text s ++ rest) ≡ shift_text s ++ rest
unfolding after_spaces
no_space_named shift.LogicalLeft rest = refl
no_space_named shift.LogicalRight rest = refl
no_space_named shift.ArithmeticRight rest = refl
no_space_named shift.RotateRight rest = refl

-- no shift is RRX, and each is found by its name
behind_name : (labels : Lookup) (rm : ℕ) (s : Shift) (rest : List ℕ) → after_spaces rest ≡ rest
    → shift_at labels rm (44 ∷ (shift_text s ++ (32 ∷ rest))) (Some (shift_text s ++ (32 ∷ rest))) ≡ amount_at labels rm s rest (byte 35 rest)
unfolding word after_word spaces byte after_spaces shift_named
behind_name labels rm shift.LogicalLeft rest h = rw h refl
behind_name labels rm shift.LogicalRight rest h = rw h refl
behind_name labels rm shift.ArithmeticRight rest h = rw h refl
behind_name labels rm shift.RotateRight rest h = rw h refl

by_amount : (labels : Lookup) (rm n : ℕ) (s : Shift) (rest : List ℕ) → n < 33 → Ends rest
    → amount_at labels rm s (35 ∷ (decimal n ++ rest)) (byte 35 (35 ∷ (decimal n ++ rest))) ≡ Some (places_of rm s (Some n), rest)
unfolding byte
by_amount labels rm n s rest h ends = rw (amount_again labels n rest h ends.apart ends.no_sign) refl

pub hash_after_space : (text : List ℕ) → after_spaces (35 ∷ text) ≡ 35 ∷ text
unfolding after_spaces
hash_after_space text = refl

amount_read : (labels : Lookup) (rm n : ℕ) (s : Shift) (rest : List ℕ) → n < 33 → Ends rest
    → shift_at labels rm (44 ∷ (shift_text s ++ (32 ∷ (35 ∷ (decimal n ++ rest))))) (comma (44 ∷ (shift_text s ++ (32 ∷ (35 ∷ (decimal n ++ rest))))))
    ≡ Some (places_of rm s (Some n), rest)
amount_read labels rm n s rest h ends =
    let tail : List ℕ = 35 ∷ (decimal n ++ rest) in
    rw (comma_then (shift_text s ++ (32 ∷ tail)) (no_space_named s (32 ∷ tail)))
    (behind_name labels rm s tail (hash_after_space (decimal n ++ rest)) ∙ by_amount labels rm n s rest h ends)

amount_shape : (s : Shift) (n : ℕ) (rest : List ℕ) → amount_text s n ++ rest ≡ 44 ∷ (shift_text s ++ (32 ∷ (35 ∷ (decimal n ++ rest))))
amount_shape shift.LogicalLeft n rest = refl
amount_shape shift.LogicalRight n rest = refl
amount_shape shift.ArithmeticRight n rest = refl
amount_shape shift.RotateRight n rest = refl

placed_amount : (rm n : ℕ) (s : Shift) → 1 ≤ n → n ≤ most_places s → places_of rm s (Some n) ≡ Ok (operand.Shifted (register_shifted_by rm s (n % 32)))
placed_amount rm n s some most =
    let low : nat_le 1 n ≡ true = grind (arith, nat_tests, some) in
    let high : nat_le n (most_places s) ≡ true = grind (arith, nat_tests, most) in rw (low, high) refl

amount_shifts : (labels : Lookup) (rm n : ℕ) (s : Shift) (rest : List ℕ) → n < 33 → 1 ≤ n → n ≤ most_places s → Ends rest
    → shift_at labels rm (amount_text s n ++ rest) (comma (amount_text s n ++ rest)) ≡ Some (Ok (operand.Shifted (register_shifted_by rm s (n % 32))), rest)
amount_shifts labels rm n s rest h some most ends =
    subst (λ (text : List ℕ). shift_at labels rm text (comma text) ≡ Some (Ok (operand.Shifted (register_shifted_by rm s (n % 32))), rest))
    (sym (amount_shape s n rest))
    (amount_read labels rm n s rest h ends ∙ ap (λ (o : Result Operand Reason). Some (o, rest)) (placed_amount rm n s some most))

plain_shifts : (labels : Lookup) (rm : ℕ) (rest : List ℕ) → Ends rest
    → shift_at labels rm rest (comma rest) ≡ Some (Ok (operand.Shifted (register_shifted_by rm shift.LogicalLeft 0)), rest)
plain_shifts labels rm rest ends = rw ends.no_comma refl

extended_read : (labels : Lookup) (rm : ℕ) (rest : List ℕ) → word (codes "RRX" ++ rest) ≡ codes "RRX" → after_word (codes "RRX" ++ rest) ≡ rest
    → shift_at labels rm (44 ∷ (codes "RRX" ++ rest)) (Some (codes "RRX" ++ rest)) ≡ Some (Ok (operand.Shifted (register_shifted_by rm shift.RotateRight 0)), rest)
extended_read labels rm rest named after = rw (named, after) refl

no_space_extended : (rest : List ℕ) → after_spaces (codes "RRX" ++ rest) ≡ codes "RRX" ++ rest
unfolding after_spaces
no_space_extended rest = refl

extended_shifts : (labels : Lookup) (rm : ℕ) (rest : List ℕ) → Ends rest
    → shift_at labels rm (codes ",RRX" ++ rest) (comma (codes ",RRX" ++ rest)) ≡ Some (Ok (operand.Shifted (register_shifted_by rm shift.RotateRight 0)), rest)
extended_shifts labels rm rest ends =
    rw (comma_then (codes "RRX" ++ rest) (no_space_extended rest))
    (extended_read labels rm rest (word_before (codes "RRX") rest refl ends.apart) (after_before (codes "RRX") rest refl ends.apart))

is_some_left : (n : ℕ) → (n == 0) ≡ false → 1 ≤ n
is_some_left n e = grind (arith, nat_tests, e)

shifting_again : (labels : Lookup) (rm n : ℕ) (s : Shift) (rest : List ℕ) → n < 32 → Ends rest
    → shift_at labels rm (shifting_text s n ++ rest) (comma (shifting_text s n ++ rest)) ≡ Some (Ok (operand.Shifted (register_shifted_by rm s n)), rest)
shifting_again labels rm n s rest h ends = by s (n == 0) refl
  where
    same : n % 32 ≡ n
    same = omega arith

    by : (s : Shift) (t : Bool) → (n == 0) ≡ t
        → shift_at labels rm (shifting_text s n ++ rest) (comma (shifting_text s n ++ rest)) ≡ Some (Ok (operand.Shifted (register_shifted_by rm s n)), rest)
    by shift.LogicalLeft true e = let z = eqb-true n 0 e in rw z (plain_shifts labels rm rest ends)
    by shift.LogicalRight true e = let z = eqb-true n 0 e in rw z (amount_shifts labels rm 32 shift.LogicalRight rest (omega arith) (omega arith) (omega arith) ends)
    by shift.ArithmeticRight true e = let z = eqb-true n 0 e in rw z (amount_shifts labels rm 32 shift.ArithmeticRight rest (omega arith) (omega arith) (omega arith) ends)
    by shift.RotateRight true e = let z = eqb-true n 0 e in rw z (extended_shifts labels rm rest ends)
    by shift.LogicalLeft false e =
        rw e (amount_shifts labels rm n shift.LogicalLeft rest (omega arith) (is_some_left n e) (omega arith) ends
        ∙ ap (λ (k : ℕ). Some (Ok (operand.Shifted (register_shifted_by rm shift.LogicalLeft k)), rest)) same)
    by shift.LogicalRight false e =
        rw e (amount_shifts labels rm n shift.LogicalRight rest (omega arith) (is_some_left n e) (omega arith) ends
        ∙ ap (λ (k : ℕ). Some (Ok (operand.Shifted (register_shifted_by rm shift.LogicalRight k)), rest)) same)
    by shift.ArithmeticRight false e =
        rw e (amount_shifts labels rm n shift.ArithmeticRight rest (omega arith) (is_some_left n e) (omega arith) ends
        ∙ ap (λ (k : ℕ). Some (Ok (operand.Shifted (register_shifted_by rm shift.ArithmeticRight k)), rest)) same)
    by shift.RotateRight false e =
        rw e (amount_shifts labels rm n shift.RotateRight rest (omega arith) (is_some_left n e) (omega arith) ends
        ∙ ap (λ (k : ℕ). Some (Ok (operand.Shifted (register_shifted_by rm shift.RotateRight k)), rest)) same)

apart_shifting : (s : Shift) (n : ℕ) (rest : List ℕ) → prefix_len is_word_byte rest ≡ 0 → prefix_len is_word_byte (shifting_text s n ++ rest) ≡ 0
apart_shifting s n rest apart = by s (n == 0) refl
  where
    by : (s : Shift) (t : Bool) → (n == 0) ≡ t → prefix_len is_word_byte (shifting_text s n ++ rest) ≡ 0
    by shift.LogicalLeft true e = rw e apart
    by shift.LogicalLeft false e = rw e refl
    by shift.LogicalRight t e = refl
    by shift.ArithmeticRight t e = refl
    by shift.RotateRight true e = rw e refl
    by shift.RotateRight false e = rw e refl

behind_register : (labels : Lookup) (text behind : List ℕ) (rm : ℕ) → register text ≡ Some (rm, behind)
    → shifted_operand labels text ≡ shift_at labels rm behind (comma behind)
unfolding shifted_operand
behind_register labels text behind rm e = rw e refl

pub shifted_again : (labels : Lookup) (s : ShiftedRegister) (rest : List ℕ) → FitsShifted s → Ends rest
    → shifted_operand labels (shifted_text s ++ rest) ≡ Some (Ok (operand.Shifted s), rest)
shifted_again labels s rest fits ends =
    let tail : List ℕ = shifting_text s.shift s.amount ++ rest in
    rw (append_assoc (register_text s.rm) (shifting_text s.shift s.amount) rest)
    (behind_register labels (register_text s.rm ++ tail) tail s.rm (register_again s.rm tail fits.0 (apart_shifting s.shift s.amount rest ends.apart))
    ∙ shifting_again labels s.rm s.amount s.shift rest fits.1 ends)

pub shifted_shape : (s : ShiftedRegister) (rest : List ℕ) → shifted_text s ++ rest ≡ register_text s.rm ++ (shifting_text s.shift s.amount ++ rest)
shifted_shape s rest = append_assoc (register_text s.rm) (shifting_text s.shift s.amount) rest

no_hash_then : (labels : Lookup) (text : List ℕ) → byte 35 text ≡ None → second_operand labels text ≡ shifted_operand labels text
unfolding second_operand
no_hash_then labels text e = rw e refl

by_other : (labels : Lookup) (rm rs : ℕ) (s : Shift) (rest : List ℕ) → rs < 16 → Ends rest
    → amount_at labels rm s (register_text rs ++ rest) (byte 35 (register_text rs ++ rest)) ≡ Some (Ok (operand.ShiftedByRegister rm s rs), rest)
by_other labels rm rs s rest h ends = rw ((is_register rs rest h).no_hash, register_again rs rest h ends.apart) refl

other_shape : (rm rs : ℕ) (s : Shift) (rest : List ℕ)
    → by_register_text rm s rs ++ rest ≡ register_text rm ++ (44 ∷ (shift_text s ++ (32 ∷ (register_text rs ++ rest))))
other_shape rm rs shift.LogicalLeft rest = append_assoc (register_text rm) (codes ",LSL " ++ register_text rs) rest
other_shape rm rs shift.LogicalRight rest = append_assoc (register_text rm) (codes ",LSR " ++ register_text rs) rest
other_shape rm rs shift.ArithmeticRight rest = append_assoc (register_text rm) (codes ",ASR " ++ register_text rs) rest
other_shape rm rs shift.RotateRight rest = append_assoc (register_text rm) (codes ",ROR " ++ register_text rs) rest

other_again : (labels : Lookup) (rm rs : ℕ) (s : Shift) (rest : List ℕ) → rm < 16 → rs < 16 → Ends rest
    → shifted_operand labels (register_text rm ++ (44 ∷ (shift_text s ++ (32 ∷ (register_text rs ++ rest))))) ≡ Some (Ok (operand.ShiftedByRegister rm s rs), rest)
other_again labels rm rs s rest h k ends =
    let tail : List ℕ = register_text rs ++ rest in
    behind_register labels (register_text rm ++ (44 ∷ (shift_text s ++ (32 ∷ tail)))) (44 ∷ (shift_text s ++ (32 ∷ tail))) rm
    (register_again rm (44 ∷ (shift_text s ++ (32 ∷ tail))) h refl)
    ∙ rw (comma_then (shift_text s ++ (32 ∷ tail)) (no_space_named s (32 ∷ tail)))
    (behind_name labels rm s tail (is_register rs rest k).no_space ∙ by_other labels rm rs s rest k ends)

register_first : (labels : Lookup) (rm : ℕ) (rest : List ℕ) → rm < 16 → second_operand labels (register_text rm ++ rest) ≡ shifted_operand labels (register_text rm ++ rest)
register_first labels rm rest h = no_hash_then labels (register_text rm ++ rest) (is_register rm rest h).no_hash

pub operand_again : (labels : Lookup) (o : Operand) (rest : List ℕ) → FitsOperand o → Ends rest
    → second_operand labels (operand_text o ++ rest) ≡ Some (Ok o, rest)
operand_again labels (operand.Immediate r b) rest fits ends = immediate_again labels r b rest fits.0 fits.1 ends
operand_again labels (operand.Shifted s) rest fits ends =
    subst (λ (text : List ℕ). second_operand labels text ≡ shifted_operand labels text) (sym (shifted_shape s rest))
    (register_first labels s.rm (shifting_text s.shift s.amount ++ rest) fits.0)
    ∙ shifted_again labels s rest fits ends
operand_again labels (operand.ShiftedByRegister rm s rs) rest fits ends =
    rw (other_shape rm rs s rest)
    (register_first labels rm (44 ∷ (shift_text s ++ (32 ∷ (register_text rs ++ rest)))) fits.0 ∙ other_again labels rm rs s rest fits.0 fits.1 ends)
