-- Shifts by 32 and more, and the bits that fall out.
use Rattle.std.proofs.Common.{◌≡◌, ℕ, zero, suc, ◌+◌, ◌-◌, ◌*◌, ◌/◌, ◌%◌, ◌^◌, ◌<◌, ◌≤◌, ap, sym, ◌∙◌, arith, bit_or}
use Rattle.std.specs.Int.{cast_unsigned, int_shr, rotate_right, w32}
use Rattle.std.proofs.lemmas.Nat.{pow-add, shl-shr, shr-shr, mod-pow-add, shr_below, pow_pos}
use Rattle.std.specs.Int.Bits.{or_self, or_shifted_r as or_high}
use Rattle.std.proofs.lemmas.Int.{to_z_pos}
use Rattle.std.proofs.lemmas.Bool.{le-ltb}
use Rattle.std.proofs.Math.Nat.{mul-mod_left, div-eq_of_lt, pow-le-pow_right}
use Rattle.arm_decode.specs.Shifted.{rotated_right}
use Rattle.profile.specs.Sums.{signed_value_of}

-- what a shift to the left by n pushes out at the top
pub lost_left : (x n : ℕ) → n ≤ 32 → x * 2 ^ n / 2 ^ 32 ≡ x / 2 ^ (32 - n)
lost_left x n h =
    let e : n + (32 - n) ≡ 32 = omega arith in
    ap (λ k. x * 2 ^ n / 2 ^ k) (sym e) ∙ sym (shr-shr (x * 2 ^ n) n (32 - n)) ∙ ap (λ y. y / 2 ^ (32 - n)) (shl-shr x n)

-- a shift to the left by 32 and m more, as one by m and one by 32
pub left_past : (x m : ℕ) → x * 2 ^ (m + 32) ≡ x * 2 ^ m * 2 ^ 32
left_past x m = let e : 2 ^ (m + 32) ≡ 2 ^ m * 2 ^ 32 = pow-add 2 m 32 in rw e (omega arith)

pub gone_left : (x n : ℕ) → 32 ≤ n → x * 2 ^ n % 2 ^ 32 ≡ 0
gone_left x n h =
    let e : (n - 32) + 32 ≡ n = omega arith in
    ap (λ k. x * 2 ^ k % 2 ^ 32) (sym e) ∙ ap (λ y. y % 2 ^ 32) (left_past x (n - 32)) ∙ mul-mod_left (x * 2 ^ (n - 32)) (2 ^ 32)

regroup : (x y : ℕ) → x * (y * 2) ≡ x * y * 2
regroup x y = omega arith

pub clear_left : (x n : ℕ) → 33 ≤ n → x * 2 ^ n / 2 ^ 32 % 2 ≡ 0
clear_left x n h =
    let e : ((n - 33) + 1) + 32 ≡ n = omega arith in
    let two : 2 ^ ((n - 33) + 1) ≡ 2 ^ (n - 33) * 2 ^ 1 = pow-add 2 (n - 33) 1 in
    let even : x * 2 ^ ((n - 33) + 1) % 2 ≡ 0 = rw two (ap (λ y. y % 2) (regroup x (2 ^ (n - 33))) ∙ mul-mod_left (x * 2 ^ (n - 33)) 2) in
    ap (λ k. x * 2 ^ k / 2 ^ 32 % 2) (sym e) ∙ ap (λ y. y / 2 ^ 32 % 2) (left_past x ((n - 33) + 1))
    ∙ ap (λ y. y % 2) (shl-shr (x * 2 ^ ((n - 33) + 1)) 32) ∙ even

pub gone_right : (x n k : ℕ) → x < 2 ^ k → k ≤ n → x / 2 ^ n ≡ 0
gone_right x n k h g =
    let p : 2 ^ k ≤ 2 ^ n = pow-le-pow_right (pow_pos 1) g in
    let q : x < 2 ^ n = omega arith in
    div-eq_of_lt q

pub gone_word : (x n : ℕ) → x < 2 ^ 32 → 32 ≤ n → x / 2 ^ n ≡ 0
gone_word x n h g = gone_right x n 32 h g

pub clear_right : (x n : ℕ) → x < 2 ^ 32 → 33 ≤ n → x / 2 ^ (n - 1) % 2 ≡ 0
clear_right x n h g = let k : 32 ≤ n - 1 = omega arith in ap (λ y. y % 2) (gone_right x (n - 1) 32 h k)

pub gone_positive : (x n : ℕ) → x < 2 ^ 31 → 32 ≤ n → cast_unsigned w32 (int_shr (signed_value_of x) n) ≡ 0
gone_positive x n h g = let k : 31 ≤ n = omega arith in rw (to_z_pos w32 x h) (gone_right x n 31 h k)

pub gone_negative : (x n : ℕ) → 2 ^ 31 ≤ x → x < 2 ^ 32 → 32 ≤ n → cast_unsigned w32 (int_shr (signed_value_of x) n) ≡ 2 ^ 32 - 1
gone_negative x n g h k =
    let small : 2 ^ 32 - suc x < 2 ^ 31 = omega arith in
    let most : 31 ≤ n = omega arith in
    rw (le-ltb x (2 ^ 31) g) (ap (λ y. 2 ^ 32 - suc y) (gone_right (2 ^ 32 - suc x) n 31 small most))

-- what std's rotation of a word is in numbers
turned_part : (x k : ℕ) → k < 32 → x * 2 ^ (32 - k) % 2 ^ 32 ≡ x % 2 ^ k * 2 ^ (32 - k)
turned_part x k h =
    let e : k + (32 - k) ≡ 32 = omega arith in
    let split : x * 2 ^ (32 - k) % 2 ^ (k + (32 - k)) ≡ (x * 2 ^ (32 - k) / 2 ^ (32 - k) % 2 ^ k) * 2 ^ (32 - k) + x * 2 ^ (32 - k) % 2 ^ (32 - k) =
    mod-pow-add (x * 2 ^ (32 - k)) k (32 - k) in
    ap (λ j. x * 2 ^ (32 - k) % 2 ^ j) (sym e) ∙ split
    ∙ ap (λ y. (y % 2 ^ k) * 2 ^ (32 - k) + x * 2 ^ (32 - k) % 2 ^ (32 - k)) (shl-shr x (32 - k))
    ∙ ap (λ y. x % 2 ^ k * 2 ^ (32 - k) + y) (mul-mod_left x (2 ^ (32 - k)))
    ∙ omega arith

joined : (x k : ℕ) → k < 32 → x < 2 ^ 32 → bit_or (x / 2 ^ k) (x % 2 ^ k * 2 ^ (32 - k)) ≡ x / 2 ^ k + x % 2 ^ k * 2 ^ (32 - k)
joined x k h g =
    let e : (32 - k) + k ≡ 32 = omega arith in
    let whole : x < 2 ^ ((32 - k) + k) = rw e g in
    or_high (x % 2 ^ k) (32 - k) (x / 2 ^ k) (shr_below x (32 - k) k whole) ∙ omega arith

turned : (x k : ℕ) → 0 < k → k < 32 → x < 2 ^ 32 → bit_or (x / 2 ^ k) (x * 2 ^ ((32 - k) % 32) % 2 ^ 32) ≡ x / 2 ^ k + x % 2 ^ k * 2 ^ (32 - k)
turned x k p h g =
    let e : (32 - k) % 32 ≡ 32 - k = omega arith in
    ap (λ j. bit_or (x / 2 ^ k) (x * 2 ^ j % 2 ^ 32)) e ∙ ap (λ y. bit_or (x / 2 ^ k) y) (turned_part x k h) ∙ joined x k h g

unturned : (x : ℕ) → x < 2 ^ 32 → bit_or (x / 2 ^ 0) (x * 2 ^ 0 % 2 ^ 32) ≡ x / 2 ^ 0 + x % 2 ^ 0 * 2 ^ 32
unturned x g =
    let a : x * 1 % 2 ^ 32 ≡ x = omega arith in
    let b : x / 1 ≡ x = omega arith in
    rw (a, b) (or_self x ∙ omega arith)

rotated_by : (x k : ℕ) → k < 32 → x < 2 ^ 32 → bit_or (x / 2 ^ k) (x * 2 ^ ((32 - k) % 32) % 2 ^ 32) ≡ x / 2 ^ k + x % 2 ^ k * 2 ^ (32 - k)
rotated_by x zero h g = unturned x g
rotated_by x (suc k) h g = turned x (suc k) (omega arith) h g

pub rotation : (x n : ℕ) → x < 2 ^ 32 → rotate_right w32 x n ≡ rotated_right x n
rotation x n g = rotated_by x (n % 32) (omega arith) g

pub ruleset past = (lost_left, gone_left, clear_left, gone_word, clear_right, gone_positive, gone_negative)
