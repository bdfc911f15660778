-- What instructions read of a core are words.
use Rattle.std.proofs.Common.{◌≡◌, ℕ, ◌+◌, ◌-◌, ◌*◌, ◌/◌, ◌%◌, ◌^◌, ◌<◌, ◌≤◌, Bool, true, false, cond, nat_lt, nat_eq, refl, ap, sym, ◌∙◌, arith}
use Rattle.std.specs.Int.{cast_unsigned, int_shr, from_bool, w32}
use Rattle.std.proofs.lemmas.Bool.{le-ltb}
use Rattle.std.proofs.lemmas.Bool.Decides.{nat_tests}
use Rattle.std.proofs.lemmas.Int.{to_z_pos}
use Rattle.std.proofs.lemmas.Nat.{pow-add, pow_pos, shr_below, shr_le, mul-add-lt}
use Rattle.arm_decode.specs.Sums.{signed_value_of}
use Rattle.arm_decode.specs.Shifted.{rotation_of}
use Rattle.arm_decode.specs.declared.shifted.Shifted.{Shifted}
use Rattle.arm_decode.specs.Ranges.{FitsOperand}
use Rattle.arm_decode.specs.declared.shift.Shift.{Shift}
use Rattle.arm_decode.specs.declared.shift.Shift.TheVariants as shift
use Rattle.arm_decode.specs.declared.operand.Operand.{Operand}
use Rattle.arm_decode.specs.declared.operand.Operand.TheVariants as operand
use Rattle.arm_core.specs.declared.psr.Mode.{Mode}
use Rattle.arm_core.specs.declared.psr.Mode.TheVariants.{User, FastInterrupt, Interrupt, Supervisor}
use Rattle.arm_core.specs.declared.psr.Psr.{Psr}
use Rattle.arm_core.specs.Psr.{psr_bits, mode_number}
use Rattle.arm_core.specs.State.{State, IsCore, register_in}
use Rattle.arm_core.specs.Effect.{ahead, plain_operand, status_operand}
use Rattle.arm_core.specs.Operand.{unshifted_value, shifted_value, shifted_by_zero, shifted_by_number, shifted_by_byte, rotated_immediate, operand_of}
use Rattle.arm_core.proofs.Turning.{one_below}

pub is_word : (s : State) (m : Mode) (r : ℕ) → IsCore s → register_in m s r < 2 ^ 32
is_word s m r i = i.words _

ahead_below : (s : State) (k : ℕ) → ahead s k < 2 ^ 26
ahead_below s k = omega arith

ahead_aligned : (s : State) (k : ℕ) → s.pc % 4 ≡ 0 → ahead s k % 4 ≡ 0
ahead_aligned s k h = omega arith

plain_by : (s : State) (n k : ℕ) (pc : Bool) → IsCore s → cond pc (ahead s k) (register_in s.psr.mode s n) < 2 ^ 32
plain_by s n k true i = let below = ahead_below s k in omega (arith, below)
plain_by s n k false i = is_word s s.psr.mode n i

pub plain_word : (s : State) (n k : ℕ) → IsCore s → plain_operand s n k < 2 ^ 32
plain_word s n k i = plain_by s n k (nat_eq n 15) i

bit_most : (b : Bool) → from_bool b ≤ 1
bit_most true = omega arith
bit_most false = omega arith

mode_most : (m : Mode) → mode_number m ≤ 3
mode_most User = omega arith
mode_most FastInterrupt = omega arith
mode_most Interrupt = omega arith
mode_most Supervisor = omega arith

bits_most : (n z c v i f m : ℕ) → n ≤ 1 → z ≤ 1 → c ≤ 1 → v ≤ 1 → i ≤ 1 → f ≤ 1 → m ≤ 3
    → n * 2 ^ 31 + z * 2 ^ 30 + c * 2 ^ 29 + v * 2 ^ 28 + i * 2 ^ 27 + f * 2 ^ 26 + m ≤ 0xFC000003
bits_most n z c v i f m a b d e g h j = omega arith

psr_most : (p : Psr) → psr_bits p ≤ 0xFC000003
psr_most p =
    bits_most _ _ _ _ _ _ _ (bit_most p.negative) (bit_most p.zero) (bit_most p.carry) (bit_most p.overflow)
    (bit_most p.interrupts_off) (bit_most p.fast_interrupts_off) (mode_most p.mode)

r15_below : (x y : ℕ) → x ≤ 0xFC000003 → y < 2 ^ 26 → y % 4 ≡ 0 → x + y < 2 ^ 32
r15_below x y h g e = omega arith

status_by : (m : Mode) (s : State) (n k : ℕ) (pc : Bool) → IsCore s → cond pc (psr_bits s.psr + ahead s k) (register_in m s n) < 2 ^ 32
status_by m s n k true i = r15_below (psr_bits s.psr) (ahead s k) (psr_most s.psr) (ahead_below s k) (ahead_aligned s k i.aligned)
status_by m s n k false i = is_word s m n i

pub status_word : (m : Mode) (s : State) (n k : ℕ) → IsCore s → status_operand m s n k < 2 ^ 32
status_word m s n k i = status_by m s n k (nat_eq n 15) i

-- shifts of a word
signed_word : (x n : ℕ) (b : Bool) → nat_lt x (2 ^ 31) ≡ b → x < 2 ^ 32 → cast_unsigned w32 (int_shr (signed_value_of x) n) < 2 ^ 32
signed_word x n true e h = let low : x < 2 ^ 31 = grind (arith, nat_tests) in let less = shr_le x n in rw (to_z_pos w32 x low) (omega (arith, less))
signed_word x n false e h = let high : 2 ^ 31 ≤ x = grind (arith, nat_tests) in rw (le-ltb x (2 ^ 31) high) (omega arith)

below_power : (x n : ℕ) → x % 2 ^ n < 2 ^ n
below_power x n = let some : 0 < 2 ^ n = pow_pos n in omega arith

turned_word : (x k : ℕ) → k < 32 → x < 2 ^ 32 → x / 2 ^ k + x % 2 ^ k * 2 ^ (32 - k) < 2 ^ 32
turned_word x k h g =
    let one : k + (32 - k) ≡ 32 = omega arith in
    let other : (32 - k) + k ≡ 32 = omega arith in
    let wide : x < 2 ^ ((32 - k) + k) = rw other g in
    let high : x / 2 ^ k < 2 ^ (32 - k) = shr_below x (32 - k) k wide in
    let all : x % 2 ^ k * 2 ^ (32 - k) + x / 2 ^ k < 2 ^ (32 - k) * 2 ^ k = mul-add-lt (x % 2 ^ k) (2 ^ (32 - k)) (x / 2 ^ k) (2 ^ k) (below_power x k) high in
    let power : 2 ^ (32 - k) * 2 ^ k ≡ 2 ^ 32 = sym (pow-add 2 (32 - k) k) ∙ ap (λ j. 2 ^ j) other in
    omega arith

rotated_word : (x n : ℕ) → x < 2 ^ 32 → (rotation_of x n).value < 2 ^ 32
rotated_word x n h = turned_word x (n % 32) (omega arith) h

shifted_word : (kind : Shift) (x n : ℕ) → x < 2 ^ 32 → (shifted_value kind x n).value < 2 ^ 32
shifted_word shift.LogicalLeft x n h = omega arith
shifted_word shift.LogicalRight x n h = let less = shr_le x n in omega (arith, less)
shifted_word shift.ArithmeticRight x n h = signed_word x n (nat_lt x (2 ^ 31)) refl h
shifted_word shift.RotateRight x n h = rotated_word x n h

zero_word : (kind : Shift) (x : ℕ) (c : Bool) → x < 2 ^ 32 → (shifted_by_zero kind x c).value < 2 ^ 32
zero_word shift.LogicalLeft x c h = h
zero_word shift.LogicalRight x c h = let less = shr_le x 32 in omega (arith, less)
zero_word shift.ArithmeticRight x c h = signed_word x 32 (nat_lt x (2 ^ 31)) refl h
zero_word shift.RotateRight x c h = one_below x c h

either : (b : Bool) (y z : Shifted) → y.value < 2 ^ 32 → z.value < 2 ^ 32 → (cond b y z).value < 2 ^ 32
either true y z h g = h
either false y z h g = g

number_word : (kind : Shift) (x n : ℕ) (c : Bool) → x < 2 ^ 32 → (shifted_by_number kind x n c).value < 2 ^ 32
number_word kind x n c h = either (nat_eq n 0) (shifted_by_zero kind x c) (shifted_value kind x n) (zero_word kind x c h) (shifted_word kind x n h)

byte_word : (kind : Shift) (x n : ℕ) (c : Bool) → x < 2 ^ 32 → (shifted_by_byte kind x n c).value < 2 ^ 32
byte_word kind x n c h = either (nat_eq n 0) (unshifted_value x c) (shifted_value kind x n) h (shifted_word kind x n h)

immediate_word : (rotation byte : ℕ) (c : Bool) → byte < 2 ^ 8 → (rotated_immediate rotation byte c).value < 2 ^ 32
immediate_word rotation byte c h =
    let word : byte < 2 ^ 32 = omega arith in
    either (nat_eq rotation 0) (unshifted_value byte c) (rotation_of byte (2 * rotation)) word (rotated_word byte (2 * rotation) word)

pub operand_word : (s : State) (o : Operand) → IsCore s → FitsOperand o → (operand_of s o).value < 2 ^ 32
operand_word s (operand.Immediate rotation byte) i f = immediate_word rotation byte s.psr.carry f.1
operand_word s (operand.Shifted r) i f = number_word r.shift (status_operand s.psr.mode s r.rm 2) r.amount s.psr.carry (status_word s.psr.mode s r.rm 2 i)
operand_word s (operand.ShiftedByRegister rm kind rs) i f =
    byte_word kind (status_operand s.psr.mode s rm 3) (plain_operand s rs 3 % 256) s.psr.carry (status_word s.psr.mode s rm 3 i)
