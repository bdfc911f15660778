-- Lanes of bytes that are compared at once.
use Rattle.std.proofs.Common.{◌≡◌, ℕ, zero, suc, ◌+◌, ◌-◌, ◌%◌, ◌^◌, ◌<◌, ◌≤◌, ◌==◌, Bool, true, false, not, List, [], ◌∷◌, length, get_or, map, cond, refl, sym, ap, ◌∙◌, arith, inl, inr}
use Rattle.std.proofs.lemmas.Bool.{cases_Bool, eqb-true, false≢true}
use Rattle.std.proofs.lemmas.Simd.{get_or-chunk, get_or-zip2, length-chunk, length-zip2, mask_l-mod, tops_compared}
use Rattle.store_copies.specs.Words.{AreSameBytes}
use lib.Lanes.{chunk, mask_l, top, zip2}
use mir.Syntax.{w8}
use mir.Val.{bits, hbits}

abbrev differ : ℕ → ℕ → Bool
differ x y = not (x == y)

same : (x y : ℕ) → differ x y ≡ false → x ≡ y
same x y is = elim (cases_Bool (x == y)) [
  | inl alike ↦ eqb-true x y alike
  | inr unlike ↦ absurd (false≢true (sym is ∙ ap not unlike))
]

-- a mask without a bit
none : (bs : List Bool) → mask_l bs ≡ 0 → (k : ℕ) → get_or bs k false ≡ false
none [] e k = refl
none (true ∷ bs) e k = absurd (omega arith)
none (false ∷ bs) e zero = refl
none (false ∷ bs) e (suc k) = none bs (omega arith) k

alike : (xs ys : List ℕ) → length xs ≡ 64 → length ys ≡ 64
    → mask_l (map (top (hbits w8)) (zip2 (λ a b. cond (differ a b) (2 ^ bits w8 - 1) 0) xs ys)) % 2 ^ 64 ≡ 0
    → (k : ℕ) → k < 64 → get_or xs k 0 ≡ get_or ys k 0
alike xs ys long long' empty k inside =
    let ms : List Bool = zip2 differ xs ys in
    let size : length ms ≡ 64 = length-zip2 differ xs ys (long ∙ sym long') ∙ long in
    let mask : mask_l ms ≡ 0 =
    sym (mask_l-mod ms 64 (omega (arith, size))) ∙ (ap (λ (bs : List Bool). mask_l bs % 2 ^ 64) (sym (tops_compared w8 differ xs ys)) ∙ empty) in
    let bit : differ (get_or xs k 0) (get_or ys k 0) ≡ false =
    sym (get_or-zip2 differ xs ys k 0 0 false (omega (arith, long, inside)) (omega (arith, long', inside))) ∙ none ms mask k in
    same (get_or xs k 0) (get_or ys k 0) bit

pub same_lane : (xs ys : List ℕ) (at : ℕ) → at + 64 ≤ length xs → at + 64 ≤ length ys
    → mask_l (map (top (hbits w8)) (zip2 (λ a b. cond (differ a b) (2 ^ bits w8 - 1) 0) (chunk at 64 xs) (chunk at 64 ys))) % 2 ^ 64 ≡ 0
    → AreSameBytes xs ys at (at + 64)
same_lane xs ys at long long' empty k from to =
    let e : at + (k - at) ≡ k = omega (arith, from) in
    let inside : k - at < 64 = omega (arith, from, to) in
    let here : get_or xs (at + (k - at)) 0 ≡ get_or ys (at + (k - at)) 0 =
    sym (get_or-chunk at 64 xs (k - at) 0 inside)
    ∙ (alike (chunk at 64 xs) (chunk at 64 ys) (length-chunk at 64 xs long) (length-chunk at 64 ys long') empty (k - at) inside
    ∙ get_or-chunk at 64 ys (k - at) 0 inside) in
    ap (λ (i : ℕ). get_or xs i 0) (sym e) ∙ (here ∙ ap (λ (i : ℕ). get_or ys i 0) e)
