-- The loops over the ranges of a register list and the registers of a range.
use Rattle.std.proofs.Common.{◌≡◌, ◌<◌, ◌≤◌, ◌+◌, ◌-◌, ◌/◌, ◌%◌, ◌^◌, ℕ, zero, suc, false, List, Some, None, refl, arith}
use Rattle.std.proofs.lemmas.Bool.Decides.{nat_tests}
use Rattle.std.specs.Prelude.{fold, ◌==◌}
use Rattle.std.specs.List.{range_with_len}
use Rattle.profile.specs.Word.{bit_of}
use Rattle.assembler_text.specs.naming.Words.{comma, byte}
use Rattle.assembler_reading.specs.RegisterLists.{more_registers, register_range, with_range, list_with_register}

-- the registers from the n-th to the one before `stop`, put into a list
unfoldable pub with_rest : ℕ → ℕ → ℕ → ℕ
with_rest list n stop = fold list_with_register list (range_with_len n (stop - n))

pub range_starts : (list first last : ℕ) → with_rest list first (last + 1) ≡ with_range list first last
unfolding with_rest with_range
range_starts list first last = refl

pub range_goes_on : (list n stop : ℕ) → n < stop → with_rest list n stop ≡ with_rest (list_with_register list n) (n + 1) stop
unfolding with_rest
range_goes_on list n stop h = let k : stop - n ≡ suc (stop - (n + 1)) = omega arith in rw k refl

pub range_ends : (list n stop : ℕ) → stop ≤ n → with_rest list n stop ≡ list
unfolding with_rest
range_ends list n stop h = let k : stop - n ≡ 0 = omega arith in rw k refl

pub ruleset range_steps = (range_starts, range_goes_on, range_ends)

pub list_ends : (count i list : ℕ) (text : List ℕ) → count ≤ i → more_registers (count - i) list text ≡ None
unfolding more_registers
list_ends count i list text h = let k : count - i ≡ 0 = omega arith in rw k refl

pub no_range : (count i list : ℕ) (text : List ℕ) → i < count → None ≡ register_range text → more_registers (count - i) list text ≡ None
unfolding more_registers
no_range count i list text h e = let k : count - i ≡ suc (count - (i + 1)) = omega arith in rw (k, ← e) refl

pub open_list : (count i list first last : ℕ) (text behind : List ℕ) → i < count → Some ((first, last), behind) ≡ register_range text
    → None ≡ comma behind → None ≡ byte 125 behind → more_registers (count - i) list text ≡ None
unfolding more_registers
open_list count i list first last text behind h e c b = let k : count - i ≡ suc (count - (i + 1)) = omega arith in rw (k, ← e, ← c, ← b) refl

pub closed_list : (count i list first last : ℕ) (text behind rest : List ℕ) → i < count → Some ((first, last), behind) ≡ register_range text
    → None ≡ comma behind → Some rest ≡ byte 125 behind → more_registers (count - i) list text ≡ Some (with_range list first last, rest)
unfolding more_registers
closed_list count i list first last text behind rest h e c b = let k : count - i ≡ suc (count - (i + 1)) = omega arith in rw (k, ← e, ← c, ← b) refl

pub one_range : (count i list first last : ℕ) (text behind after : List ℕ) → i < count → Some ((first, last), behind) ≡ register_range text
    → Some after ≡ comma behind → more_registers (count - i) list text ≡ more_registers (count - (i + 1)) (with_range list first last) after
unfolding more_registers
one_range count i list first last text behind after h e c = let k : count - i ≡ suc (count - (i + 1)) = omega arith in rw (k, ← e, ← c) refl

pub ruleset list_steps = (list_ends, no_range, open_list, closed_list, one_range)

pub no_bit_value : (x : ℕ) → (x % 2 == 1) ≡ false → x % 2 ≡ 0
no_bit_value x e = grind (arith, nat_tests, e)

-- a bit that is clear can be added
pub fits : (list n : ℕ) → n < 16 → list < 2 ^ 16 → bit_of list n ≡ false → list + 2 ^ n < 2 ^ 16
fits list zero within low e = let bit : list / 1 % 2 ≡ 0 = no_bit_value (list / 1) e in omega arith
fits list (suc zero) within low e = let bit : list / 2 % 2 ≡ 0 = no_bit_value (list / 2) e in omega arith
fits list (suc (suc zero)) within low e = let bit : list / 4 % 2 ≡ 0 = no_bit_value (list / 4) e in omega arith
fits list (suc (suc (suc zero))) within low e = let bit : list / 8 % 2 ≡ 0 = no_bit_value (list / 8) e in omega arith
fits list (suc (suc (suc (suc zero)))) within low e = let bit : list / 16 % 2 ≡ 0 = no_bit_value (list / 16) e in omega arith
fits list (suc (suc (suc (suc (suc zero))))) within low e = let bit : list / 32 % 2 ≡ 0 = no_bit_value (list / 32) e in omega arith
fits list (suc (suc (suc (suc (suc (suc zero)))))) within low e = let bit : list / 64 % 2 ≡ 0 = no_bit_value (list / 64) e in omega arith
fits list (suc (suc (suc (suc (suc (suc (suc zero))))))) within low e = let bit : list / 128 % 2 ≡ 0 = no_bit_value (list / 128) e in omega arith
fits list (suc (suc (suc (suc (suc (suc (suc (suc zero)))))))) within low e = let bit : list / 256 % 2 ≡ 0 = no_bit_value (list / 256) e in omega arith
fits list (suc (suc (suc (suc (suc (suc (suc (suc (suc zero))))))))) within low e = let bit : list / 512 % 2 ≡ 0 = no_bit_value (list / 512) e in omega arith
fits list (suc (suc (suc (suc (suc (suc (suc (suc (suc (suc zero)))))))))) within low e = let bit : list / 1024 % 2 ≡ 0 = no_bit_value (list / 1024) e in omega arith
fits list (suc (suc (suc (suc (suc (suc (suc (suc (suc (suc (suc zero))))))))))) within low e = let bit : list / 2048 % 2 ≡ 0 = no_bit_value (list / 2048) e in omega arith
fits list (suc (suc (suc (suc (suc (suc (suc (suc (suc (suc (suc (suc zero)))))))))))) within low e = let bit : list / 4096 % 2 ≡ 0 = no_bit_value (list / 4096) e in omega arith
fits list (suc (suc (suc (suc (suc (suc (suc (suc (suc (suc (suc (suc (suc zero))))))))))))) within low e = let bit : list / 8192 % 2 ≡ 0 = no_bit_value (list / 8192) e in omega arith
fits list (suc (suc (suc (suc (suc (suc (suc (suc (suc (suc (suc (suc (suc (suc zero)))))))))))))) within low e = let bit : list / 16384 % 2 ≡ 0 = no_bit_value (list / 16384) e in omega arith
fits list (suc (suc (suc (suc (suc (suc (suc (suc (suc (suc (suc (suc (suc (suc (suc zero))))))))))))))) within low e = let bit : list / 32768 % 2 ≡ 0 = no_bit_value (list / 32768) e in omega arith
fits list (suc (suc (suc (suc (suc (suc (suc (suc (suc (suc (suc (suc (suc (suc (suc (suc n)))))))))))))))) within low e = absurd (omega (arith, within))
