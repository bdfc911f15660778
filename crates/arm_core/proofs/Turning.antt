-- ROR as two shifts, and RRX as a rotation of 33 bits.
use Rattle.std.proofs.Common.{◌≡◌, ℕ, zero, suc, ◌+◌, ◌-◌, ◌*◌, ◌/◌, ◌%◌, ◌^◌, ◌<◌, ◌≤◌, Bool, true, false, ap, sym, ◌∙◌, arith, ◌==◌}
use Rattle.std.specs.Int.{from_bool}
use Rattle.std.proofs.lemmas.Bool.Decides.{nat_tests}
use Rattle.std.proofs.lemmas.Nat.{pow-add, shl-shr, shr-shr, mod-pow-add}
use Rattle.std.proofs.Math.Nat.{mul-mod_left}
use Rattle.arm_decode.specs.Shifted.{rotated_through}
use Rattle.arm_decode.specs.declared.shifted.Shifted.{Shifted}
use Rattle.arm_core.specs.Operand.{unshifted_value}
use Rattle.arm_core.specs.Laws.{turned_times, RotatesByShifting, TurnsRound}

left_part : (x n : ℕ) → n < 32 → x * 2 ^ (32 - n) % 2 ^ 32 ≡ x % 2 ^ n * 2 ^ (32 - n)
left_part x n h =
    let e : n + (32 - n) ≡ 32 = omega arith in
    let split : x * 2 ^ (32 - n) % 2 ^ (n + (32 - n)) ≡ (x * 2 ^ (32 - n) / 2 ^ (32 - n) % 2 ^ n) * 2 ^ (32 - n) + x * 2 ^ (32 - n) % 2 ^ (32 - n) =
    mod-pow-add (x * 2 ^ (32 - n)) n (32 - n) in
    ap (λ j. x * 2 ^ (32 - n) % 2 ^ j) (sym e) ∙ split
    ∙ ap (λ y. (y % 2 ^ n) * 2 ^ (32 - n) + x * 2 ^ (32 - n) % 2 ^ (32 - n)) (shl-shr x (32 - n))
    ∙ ap (λ y. x % 2 ^ n * 2 ^ (32 - n) + y) (mul-mod_left x (2 ^ (32 - n)))
    ∙ omega arith

pub rotation_parts : RotatesByShifting
rotation_parts x n g low high =
    let e : n % 32 ≡ n = omega arith in
    ap (λ k. x / 2 ^ k + x % 2 ^ k * 2 ^ (32 - k)) e ∙ ap (λ y. x / 2 ^ n + y) (sym (left_part x n high))

-- value and carry as one number of 33 bits
abbrev whole : Shifted → ℕ
whole s = s.value + from_bool s.carry * 2 ^ 32

-- such a number turned by one place, and by k
abbrev turn : ℕ → ℕ
turn n = n / 2 + n % 2 * 2 ^ 32

abbrev turned : ℕ → ℕ → ℕ
turned n k = n / 2 ^ k + n % 2 ^ k * 2 ^ (33 - k)

bit_value : (n : ℕ) → from_bool (n / 1 % 2 == 1) ≡ n % 2
bit_value n = grind (arith, nat_tests)

one_turn : (v : ℕ) (c : Bool) → v < 2 ^ 32 → whole (rotated_through v c) ≡ turn (v + from_bool c * 2 ^ 32)
one_turn v true h = rw (bit_value v) (omega arith)
one_turn v false h = rw (bit_value v) (omega arith)

pub one_below : (v : ℕ) (c : Bool) → v < 2 ^ 32 → (rotated_through v c).value < 2 ^ 32
one_below v true h = omega arith
one_below v false h = omega arith

mixed : (q r k p : ℕ) → k * p ≡ 2 ^ 32 → (q + r * (p * 2)) / 2 + (q + r * (p * 2)) % 2 * 2 ^ 32 ≡ q / 2 + ((q % 2) * k + r) * p
mixed q r k p e =
    let apart : ((q % 2) * k + r) * p ≡ (q % 2) * (k * p) + r * p = omega arith in
    rw (apart, e) (omega arith)

next_turn : (n k : ℕ) → k ≤ 32 → turn (turned n k) ≡ turned n (k + 1)
next_turn n k h =
    let e : (32 - k) + 1 ≡ 33 - k = omega arith in
    let f : 33 - (k + 1) ≡ 32 - k = omega arith in
    let g : k + (32 - k) ≡ 32 = omega arith in
    let o : 1 + k ≡ k + 1 = omega arith in
    let double : 2 ^ (33 - k) ≡ 2 ^ (32 - k) * 2 = ap (λ j. 2 ^ j) (sym e) ∙ pow-add 2 (32 - k) 1 in
    let whole_power : 2 ^ k * 2 ^ (32 - k) ≡ 2 ^ 32 = sym (pow-add 2 k (32 - k)) ∙ ap (λ j. 2 ^ j) g in
    let low : n % 2 ^ (k + 1) ≡ (n / 2 ^ k % 2) * 2 ^ k + n % 2 ^ k = ap (λ j. n % 2 ^ j) (sym o) ∙ mod-pow-add n 1 k in
    let high : n / 2 ^ (k + 1) ≡ n / 2 ^ k / 2 = sym (shr-shr n k 1) in
    ap (λ d. turn (n / 2 ^ k + n % 2 ^ k * d)) double ∙ mixed (n / 2 ^ k) (n % 2 ^ k) (2 ^ k) (2 ^ (32 - k)) whole_power
    ∙ ap (λ x. n / 2 ^ k / 2 + x * 2 ^ (32 - k)) (sym low) ∙ ap (λ x. x + n % 2 ^ (k + 1) * 2 ^ (32 - k)) (sym high)
    ∙ ap (λ j. n / 2 ^ (k + 1) + n % 2 ^ (k + 1) * 2 ^ j) (sym f)

record IsTurned (s : Shifted) (n k : ℕ) : Type 0 where
  below : s.value < 2 ^ 32
  place : whole s ≡ turned n k

turned_on : (k j n : ℕ) (s : Shifted) → j + k ≤ 33 → IsTurned s n j → IsTurned (turned_times k s) n (j + k)
unfolding turned_times
turned_on zero j n s h i = let e : j ≡ j + zero = omega arith in record { below = i.below; place = i.place ∙ ap (turned n) e }
turned_on (suc k) j n s h i =
    let few : j ≤ 32 = omega arith in
    let rest : (j + 1) + k ≤ 33 = omega arith in
    let e : (j + 1) + k ≡ j + suc k = omega arith in
    let next = turned_on k (j + 1) n (rotated_through s.value s.carry) rest (record {
      below = one_below s.value s.carry i.below;
      place = one_turn s.value s.carry i.below ∙ ap turn i.place ∙ next_turn n j few;
    }) in
    record { below = next.below; place = next.place ∙ ap (turned n) e }

same_parts : (x y : ℕ) (b c : Bool) → x < 2 ^ 32 → y < 2 ^ 32 → x + from_bool b * 2 ^ 32 ≡ y + from_bool c * 2 ^ 32 → unshifted_value x b ≡ unshifted_value y c
same_parts x y true true h g e = let same : x ≡ y = omega arith in ap (λ z. unshifted_value z true) same
same_parts x y false false h g e = let same : x ≡ y = omega arith in ap (λ z. unshifted_value z false) same
same_parts x y true false h g e = absurd (omega arith)
same_parts x y false true h g e = absurd (omega arith)

all_round : (n : ℕ) → n < 2 ^ 33 → turned n 33 ≡ n
all_round n h = omega arith

none_round : (n : ℕ) → turned n 0 ≡ n
none_round n = omega arith

carried_below : (v : ℕ) (c : Bool) → v < 2 ^ 32 → v + from_bool c * 2 ^ 32 < 2 ^ 33
carried_below v true h = omega arith
carried_below v false h = omega arith

pub turns_round : TurnsRound
turns_round v c h =
    let n = v + from_bool c * 2 ^ 32 in
    let start : IsTurned (unshifted_value v c) (v + from_bool c * 2 ^ 32) 0 = record { below = h; place = sym (none_round n) } in
    let end = turned_on 33 0 n (unshifted_value v c) (omega arith) start in
    same_parts (turned_times 33 (unshifted_value v c)).value v (turned_times 33 (unshifted_value v c)).carry c end.below h (end.place ∙ all_round n (carried_below v c h))
