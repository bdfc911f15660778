-- Registers read after others, or they themselves, were set.
use Rattle.std.proofs.Common.{◌≡◌, ◌≢◌, ℕ, zero, suc, ◌+◌, ◌<◌, ◌≤◌, Bool, true, false, cond, ◌&&◌, nat_lt, nat_eq, List, [], ◌∷◌, ◌++◌, length, map, refl, ap, sym, ◌∙◌, arith, get_or-set_other, get_or-set_same, append-nil}
use Rattle.std.proofs.Math.ListN.{length-set}
use Rattle.std.proofs.lemmas.Bool.Decides.{nat_tests}
use Rattle.arm_core.specs.Word.{bit_of}
use Rattle.arm_core.specs.declared.psr.Mode.{Mode}
use Rattle.arm_core.specs.declared.psr.Mode.TheVariants.{User, FastInterrupt, Interrupt, Supervisor}
use Rattle.arm_core.specs.State.{State, slot_of, register_in, with_register_in, with_pc}
use Rattle.arm_core.specs.Effect.{with_result_in}
use Rattle.arm_core.specs.Listed.{listed_below}
use Rattle.arm_step.specs.Blocks.{with_loaded}

not_below : (q k : ℕ) → nat_lt q k ≡ false → k ≤ q
not_below q k e = grind (arith, nat_tests)

is_below : (q k : ℕ) → nat_lt q k ≡ true → q < k
is_below q k e = grind (arith, nat_tests)

moved_apart : (k j q r : ℕ) (a b : Bool) → nat_lt q k ≡ a → nat_lt r k ≡ b → q ≢ r → cond a q (q + j) ≢ cond b r (r + j)
moved_apart k j q r true true e f d g = d g
moved_apart k j q r false false e f d g = d (omega arith)
moved_apart k j q r true false e f d g = let x = is_below q k e in let y = not_below r k f in d (omega (arith, x, y))
moved_apart k j q r false true e f d g = let x = is_below r k f in let y = not_below q k e in d (omega (arith, x, y))

slots_differ : (m : Mode) (q r : ℕ) → q ≢ r → slot_of m q ≢ slot_of m r
slots_differ User q r d = d
slots_differ FastInterrupt q r d = moved_apart 8 7 q r (nat_lt q 8) (nat_lt r 8) refl refl d
slots_differ Interrupt q r d = moved_apart 13 9 q r (nat_lt q 13) (nat_lt r 13) refl refl d
slots_differ Supervisor q r d = moved_apart 13 11 q r (nat_lt q 13) (nat_lt r 13) refl refl d

slot_below : (m : Mode) (r : ℕ) → r < 15 → slot_of m r < 26
slot_below User r h = omega arith
slot_below FastInterrupt r h = grind (arith, nat_tests)
slot_below Interrupt r h = grind (arith, nat_tests)
slot_below Supervisor r h = grind (arith, nat_tests)

pub no_pc : (r : ℕ) → r < 15 → nat_eq r 15 ≡ false
no_pc r h = grind (arith, nat_tests)

pub same_read : (m : Mode) (s : State) (r v : ℕ) → length s.file ≡ 26 → r < 15 → register_in m (with_result_in m s r v) r ≡ v
same_read m s r v e h =
    let inside : slot_of m r < length s.file = omega (arith, slot_below m r h) in
    rw (no_pc r h) (get_or-set_same s.file (slot_of m r) v 0 inside)

other_read_by : (m : Mode) (s : State) (q r v : ℕ) (pc : Bool) → nat_eq r 15 ≡ pc → q ≢ r → register_in m (cond pc (with_pc s v) (with_register_in m s r v)) q ≡ register_in m s q
other_read_by m s q r v true e d = refl
other_read_by m s q r v false e d = get_or-set_other s.file (slot_of m r) (slot_of m q) v 0 (slots_differ m q r d)

pub other_read : (m : Mode) (s : State) (q r v : ℕ) → q ≢ r → register_in m (with_result_in m s r v) q ≡ register_in m s q
other_read m s q r v d = other_read_by m s q r v (nat_eq r 15) refl d

size_kept_by : (m : Mode) (s : State) (r v : ℕ) (pc : Bool) → length (cond pc (with_pc s v) (with_register_in m s r v)).file ≡ length s.file
size_kept_by m s r v true = refl
size_kept_by m s r v false = length-set s.file (slot_of m r) v

pub size_kept : (m : Mode) (s : State) (r v : ℕ) → length (with_result_in m s r v).file ≡ length s.file
size_kept m s r v = size_kept_by m s r v (nat_eq r 15)

-- words placed for a list of registers and one more
loaded_more : (m : Mode) (s : State) (f : ℕ → ℕ) (rs : List ℕ) (n : ℕ) → with_loaded m s (rs ++ n ∷ []) (map f (rs ++ n ∷ [])) ≡ with_result_in m (with_loaded m s rs (map f rs)) n (f n)
unfolding with_loaded
loaded_more m s f [] n = refl
loaded_more m s f (r ∷ rs) n = loaded_more m (with_result_in m s r (f r)) f rs n

loaded_size : (m : Mode) (s : State) (f : ℕ → ℕ) (rs : List ℕ) → length (with_loaded m s rs (map f rs)).file ≡ length s.file
unfolding with_loaded
loaded_size m s f [] = refl
loaded_size m s f (r ∷ rs) = loaded_size m (with_result_in m s r (f r)) f rs ∙ size_kept m s r (f r)

-- a register of the list has its word, any other what it had
abbrev Placed : Mode → State → (ℕ → ℕ) → ℕ → ℕ → ℕ → Type 0
Placed m s f list n q = register_in m (with_loaded m s (listed_below n list) (map f (listed_below n list))) q ≡ cond (nat_lt q n && bit_of list q) (f q) (register_in m s q)

-- the test at one number more
test_other : (list n q : ℕ) → q ≢ n → (nat_lt q n && bit_of list q) ≡ (nat_lt q (suc n) && bit_of list q)
test_other list n q d = let e : nat_lt q n ≡ nat_lt q (suc n) = grind (arith, nat_tests) in ap (λ b. b && bit_of list q) e

pub and_false : (b : Bool) → (b && false) ≡ false
and_false true = refl
and_false false = refl

unlisted_by : (list n q : ℕ) (r : Bool) → nat_eq q n ≡ r → bit_of list n ≡ false → (nat_lt q n && bit_of list q) ≡ (nat_lt q (suc n) && bit_of list q)
unlisted_by list n q true e g =
    let same : q ≡ n = grind (arith, nat_tests) in
    let clear : bit_of list q ≡ false = ap (bit_of list) same ∙ g in
    ap (λ b. nat_lt q n && b) clear ∙ and_false (nat_lt q n) ∙ sym (and_false (nat_lt q (suc n))) ∙ ap (λ b. nat_lt q (suc n) && b) (sym clear)
unlisted_by list n q false e g = let d : q ≢ n = grind (arith, nat_tests) in test_other list n q d

last_or_other : (m : Mode) (t s : State) (f : ℕ → ℕ) (list n q : ℕ) (r : Bool) → nat_eq q n ≡ r → bit_of list n ≡ true → length t.file ≡ 26 → q < 15
    → register_in m t q ≡ cond (nat_lt q n && bit_of list q) (f q) (register_in m s q)
    → register_in m (with_result_in m t n (f n)) q ≡ cond (nat_lt q (suc n) && bit_of list q) (f q) (register_in m s q)
last_or_other m t s f list n q true e g size h p =
    let same : q ≡ n = grind (arith, nat_tests) in
    let set : bit_of list q ≡ true = ap (bit_of list) same ∙ g in
    let below : nat_lt q (suc n) ≡ true = grind (arith, nat_tests) in
    let here : n < 15 = omega arith in
    rw (below, set) (ap (λ k. register_in m (with_result_in m t n (f n)) k) same ∙ same_read m t n (f n) size here ∙ ap f (sym same))
last_or_other m t s f list n q false e g size h p =
    let d : q ≢ n = grind (arith, nat_tests) in
    other_read m t q n (f n) d ∙ p ∙ ap (λ b. cond b (f q) (register_in m s q)) (test_other list n q d)

one_more : (m : Mode) (s : State) (f : ℕ → ℕ) (list n q : ℕ) (r : Bool) → bit_of list n ≡ r → length s.file ≡ 26 → q < 15 → Placed m s f list n q
    → register_in m (with_loaded m s (listed_below n list ++ cond r (n ∷ []) []) (map f (listed_below n list ++ cond r (n ∷ []) []))) q ≡ cond (nat_lt q (suc n) && bit_of list q) (f q) (register_in m s q)
one_more m s f list n q false e size h p =
    rw (append-nil (listed_below n list)) (p ∙ ap (λ b. cond b (f q) (register_in m s q)) (unlisted_by list n q (nat_eq q n) refl e))
one_more m s f list n q true e size h p =
    rw (loaded_more m s f (listed_below n list) n) (last_or_other m (with_loaded m s (listed_below n list) (map f (listed_below n list))) s f list n q (nat_eq q n) refl e
    (loaded_size m s f (listed_below n list) ∙ size) h p)

pub placed : (m : Mode) (s : State) (f : ℕ → ℕ) (list n q : ℕ) → length s.file ≡ 26 → q < 15 → Placed m s f list n q
unfolding listed_below with_loaded
placed m s f list zero q size h = let none : nat_lt q 0 ≡ false = grind (arith, nat_tests) in rw none refl
placed m s f list (suc n) q size h = one_more m s f list n q (bit_of list n) refl size h (placed m s f list n q size h)
