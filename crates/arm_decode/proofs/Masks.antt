-- A mask is made of runs of ones, and a word under a mask is its fields at those runs.
use Rattle.std.proofs.Common.{◌≡◌, ℕ, ◌+◌, ◌*◌, ◌-◌, ◌/◌, ◌%◌, ◌^◌, ◌<◌, bit_and, sym, ap, ◌∙◌, arith, add-zero, lit<}
use Rattle.std.proofs.lemmas.Nat.{and_block, and_mask, shr_split, mod_below, pow_pos}
use Rattle.std.specs.Int.Bits.{and_zero_r}
use Rattle.profile.specs.Word.{field}

-- the highest run of a mask
pub and_run : (w low size m : ℕ) → m < 2 ^ low → bit_and w ((2 ^ size - 1) * 2 ^ low + m) ≡ field w low size * 2 ^ low + bit_and w m
and_run w low size m h =
    let q = w / 2 ^ low in
    let r = w % 2 ^ low in
    let split : q * 2 ^ low + r ≡ w = shr_split w low in
    let small : r < 2 ^ low = mod_below w (2 ^ low) (pow_pos low) in
    let high = and_block low q (2 ^ size - 1) r m small h in
    let rest : bit_and (q * 2 ^ low + r) (0 * 2 ^ low + m) ≡ bit_and q 0 * 2 ^ low + bit_and r m = and_block low q 0 r m small h in
    let none : bit_and q 0 ≡ 0 = and_zero_r q in
    let nothing : (y : ℕ) → 0 * 2 ^ low + y ≡ y = λ y. omega arith in
    let low_bits : bit_and w m ≡ bit_and r m =
    ap (λ x. bit_and x m) (sym split) ∙ ap (λ x. bit_and (q * 2 ^ low + r) x) (sym (nothing m)) ∙ rest
    ∙ ap (λ x. x * 2 ^ low + bit_and r m) none ∙ nothing (bit_and r m) in
    ap (λ x. bit_and x ((2 ^ size - 1) * 2 ^ low + m)) (sym split) ∙ high
    ∙ ap (λ x. x * 2 ^ low + bit_and r m) (and_mask q size) ∙ ap (λ x. field w low size * 2 ^ low + x) (sym low_bits)

-- the lowest run, at bit `low`
pub and_last : (w low size : ℕ) → bit_and w ((2 ^ size - 1) * 2 ^ low) ≡ field w low size * 2 ^ low
and_last w low size =
    ap (λ x. bit_and w x) (sym (add-zero ((2 ^ size - 1) * 2 ^ low))) ∙ and_run w low size 0 (pow_pos low)
    ∙ ap (λ x. field w low size * 2 ^ low + x) (and_zero_r w) ∙ add-zero (field w low size * 2 ^ low)

pub mask_class : (w : ℕ) → bit_and w 0x0E000000 ≡ field w 25 3 * 2 ^ 25
mask_class w = and_last w 25 3

pub mask_swi : (w : ℕ) → bit_and w 0x0F000000 ≡ field w 24 4 * 2 ^ 24
mask_swi w = and_last w 24 4

pub mask_4 : (w : ℕ) → bit_and w 0x0E000010 ≡ field w 25 3 * 2 ^ 25 + field w 4 1 * 2 ^ 4
mask_4 w = and_run w 25 3 0x10 (lit< tt) ∙ ap (λ x. field w 25 3 * 2 ^ 25 + x) (and_last w 4 1)

pub mask_7_4 : (w : ℕ) → bit_and w 0x0E000090 ≡ field w 25 3 * 2 ^ 25 + field w 7 1 * 2 ^ 7 + field w 4 1 * 2 ^ 4
mask_7_4 w = and_run w 25 3 0x90 (lit< tt) ∙ ap (λ x. field w 25 3 * 2 ^ 25 + x) (and_run w 7 1 0x10 (lit< tt))
    ∙ ap (λ x. field w 25 3 * 2 ^ 25 + (field w 7 1 * 2 ^ 7 + x)) (and_last w 4 1) ∙ omega arith

pub mask_multiply : (w : ℕ) → bit_and w 0x0FC000F0 ≡ field w 22 6 * 2 ^ 22 + field w 4 4 * 2 ^ 4
mask_multiply w = and_run w 22 6 0xF0 (lit< tt) ∙ ap (λ x. field w 22 6 * 2 ^ 22 + x) (and_last w 4 4)

pub ruleset masks = (mask_class, mask_swi, mask_4, mask_7_4, mask_multiply)
