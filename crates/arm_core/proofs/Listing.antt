-- The registers of a list, one more at a time, and how many they are.
use Rattle.std.proofs.Common.{◌≡◌, ℕ, zero, suc, ◌+◌, ◌-◌, ◌*◌, ◌/◌, ◌%◌, ◌^◌, ◌<◌, ◌≤◌, Bool, true, false, cond, nat_eq, List, [], ◌∷◌, ◌++◌, length, map, ap, sym, ◌∙◌, subst, refl, arith, add-one, append-nil, length-append}
use lib.Count.{ones, ones_in}
use Rattle.std.specs.Int.RustNames.{count_ones}
use Rattle.std.proofs.lemmas.Bool.Decides.{nat_tests}
use Rattle.std.proofs.lemmas.List.{map-append}
use Rattle.std.proofs.lemmas.Nat.{mod-pow-add, ones_cat, pow_pos}
use Rattle.arm_decode.specs.Word.{bit_of}
use Rattle.arm_core.specs.Listed.{listed_below, registers_of_list}

pub listed_with : (list n : ℕ) → bit_of list n ≡ true → listed_below (n + 1) list ≡ listed_below n list ++ n ∷ []
unfolding listed_below
listed_with list n h = rw (add-one n, h) refl

pub listed_without : (list n : ℕ) → bit_of list n ≡ false → listed_below (n + 1) list ≡ listed_below n list
unfolding listed_below
listed_without list n h = rw (add-one n, h) (append-nil _)

pub listed_none : (list : ℕ) → listed_below 0 list ≡ []
unfolding listed_below
listed_none list = refl

pub listed_all : (list n : ℕ) → n ≡ 16 → listed_below n list ≡ registers_of_list list
unfolding registers_of_list
listed_all list n h = ap (λ k. listed_below k list) h

few_one : (b : Bool) (n : ℕ) (xs : List ℕ) → length xs ≤ n → length (xs ++ cond b (n ∷ []) []) ≤ suc n
few_one true n xs h = omega (arith, length-append xs (n ∷ []))
few_one false n xs h = omega (arith, length-append {A = ℕ} xs [])

pub few_listed : (list n : ℕ) → length (listed_below n list) ≤ n
unfolding listed_below
few_listed list zero = omega arith
few_listed list (suc n) = few_one (bit_of list n) n (listed_below n list) (few_listed list n)

pub few_of_all : (list : ℕ) → length (registers_of_list list) ≤ 16
unfolding registers_of_list
few_of_all list = few_listed list 16

-- as many as bits are set
mod_below : (x n : ℕ) → x % 2 ^ n < 2 ^ n
mod_below x n = let some : 0 < 2 ^ n = pow_pos n in omega arith

none_set : ones 0 ≡ 0
unfolding ones ones_in
none_set = refl

one_set : ones 1 ≡ 1
unfolding ones ones_in
one_set = refl

ones_one : (b : Bool) (x : ℕ) → nat_eq x 1 ≡ b → x < 2 → (n : ℕ) (xs : List ℕ) → ones x + length xs ≡ length (xs ++ cond b (n ∷ []) [])
ones_one true x e h n xs = let one : x ≡ 1 = grind (arith, nat_tests) in rw (one, one_set) (omega (arith, length-append xs (n ∷ [])))
ones_one false x e h n xs = let none : x ≡ 0 = grind (arith, nat_tests) in rw (none, none_set) (omega (arith, ap length (append-nil xs)))

ones_below : (list n : ℕ) → ones (list % 2 ^ n) ≡ length (listed_below n list)
unfolding listed_below
ones_below list zero = let none : list % 2 ^ 0 ≡ 0 = omega arith in ap ones none ∙ none_set
ones_below list (suc n) =
    let one_more : 1 + n ≡ suc n = omega arith in
    let parts : list % 2 ^ (suc n) ≡ (list / 2 ^ n % 2) * 2 ^ n + list % 2 ^ n = ap (λ k. list % 2 ^ k) (sym one_more) ∙ mod-pow-add list 1 n in
    let low : list % 2 ^ n < 2 ^ n = mod_below list n in
    let bit : list / 2 ^ n % 2 < 2 = omega arith in
    ap ones parts ∙ ones_cat n (list / 2 ^ n % 2) (list % 2 ^ n) low ∙ ap (λ k. ones (list / 2 ^ n % 2) + k) (ones_below list n)
    ∙ ones_one (bit_of list n) (list / 2 ^ n % 2) refl bit n (listed_below n list)

pub counted : (list : ℕ) → list < 2 ^ 16 → count_ones list ≡ length (registers_of_list list)
unfolding registers_of_list
counted list h = let all : list % 2 ^ 16 ≡ list = omega arith in ap ones (sym all) ∙ ones_below list 16

-- the words of the registers so far
below_next : (b : Bool) (n : ℕ) (xs : List ℕ) → length xs ≤ length (xs ++ cond b (n ∷ []) [])
below_next true n xs = omega (arith, length-append xs (n ∷ []))
below_next false n xs = omega (arith, length-append {A = ℕ} xs [])

below_more : (list n k : ℕ) → length (listed_below n list) ≤ length (listed_below (k + n) list)
unfolding listed_below
below_more list n zero = let same : zero + n ≡ n = omega arith in rw same (omega arith)
below_more list n (suc k) =
    let next : suc k + n ≡ suc (k + n) = omega arith in
    rw next (omega (arith, below_more list n k, below_next (bit_of list (k + n)) (k + n) (listed_below (k + n) list)))

pub has_word : (list n : ℕ) → bit_of list n ≡ true → n < 16 → length (listed_below n list) < length (registers_of_list list)
unfolding registers_of_list
has_word list n e h =
    let rest : (16 - (n + 1)) + (n + 1) ≡ 16 = omega arith in
    let more : length (listed_below n list) + 1 ≡ length (listed_below (n + 1) list) = rw (listed_with list n e) (sym (length-append _ _)) in
    let all : length (listed_below (n + 1) list) ≤ length (listed_below 16 list) = subst (λ k. length (listed_below (n + 1) list) ≤ length (listed_below k list)) rest (below_more list (n + 1) (16 - (n + 1))) in
    omega arith

pub length_none : (list : ℕ) → length (listed_below 0 list) ≡ 0
unfolding listed_below
length_none list = refl

pub length_with : (list n : ℕ) → bit_of list n ≡ true → length (listed_below (n + 1) list) ≡ length (listed_below n list) + 1
length_with list n e = rw (listed_with list n e) (length-append _ _)

pub valued_with : (f : ℕ → ℕ) (list n : ℕ) → bit_of list n ≡ true → map f (listed_below (n + 1) list) ≡ map f (listed_below n list) ++ f n ∷ []
valued_with f list n e = rw (listed_with list n e) (map-append f (listed_below n list) (n ∷ []))

pub ruleset valuing = (valued_with, listed_without, listed_none, listed_all)
