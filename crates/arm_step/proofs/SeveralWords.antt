-- Words one after another: the next of them, and what one load says of it.
use Rattle.std.proofs.Common.{◌≡◌, ℕ, suc, ◌+◌, ◌-◌, ◌*◌, ◌%◌, ◌^◌, ◌<◌, ◌≤◌, Bool, true, false, cond, ◌&&◌, List, [], ◌∷◌, ◌++◌, length, drop, get_or, refl, ap, sym, ◌∙◌, arith, append_assoc, add-one, drop-cons, Some, None, is_some, Ok, Err, nat_le, ltb}
use Rattle.std.proofs.lemmas.Bool.{le-ltb}
use Rattle.std.proofs.lemmas.Bool.Decides.{nat_tests}
use Rattle.std.proofs.lemmas.List.{drop_all}
use Rattle.address_map.specs.Bytes.{Bytes, word_at, word_loaded, ok_unless_fault, with_word, with_word_at}
use Rattle.address_map.specs.Memory.{bytes_of, byte_at, layout}
use Rattle.address_map.specs.declared.map.AddressMap.{AddressMap}
use Rattle.arm_step.specs.Words.{are_words_mapped, are_free, memory_words_at, with_words, words_loaded}
use Rattle.arm_core.specs.Fault.{Fault}
use Rattle.arm_core.specs.Fault.TheVariants.{AddressException, DataUnmapped}

pub record IsLoaded (b : Bytes) (a w : ℕ) : Type 0 where
  pub mapped : b.mapped a ≡ true
  pub word : w ≡ word_at b.at a

loaded_by : (b : Bytes) (a w : ℕ) (far mapped : Bool) → b.mapped a ≡ mapped → Ok w ≡ ok_unless_fault (cond far (Some AddressException) (cond mapped None (Some DataUnmapped))) (word_at b.at a) → IsLoaded b a w
loaded_by b a w true mapped m e = absurd (cc)
loaded_by b a w false true m e = record { mapped = m; word = cc }
loaded_by b a w false false m e = absurd (cc)

refused_by : (b : Bytes) (a : ℕ) (f : Fault) (far mapped : Bool) → far ≡ false → b.mapped a ≡ mapped → Err f ≡ ok_unless_fault (cond far (Some AddressException) (cond mapped None (Some DataUnmapped))) (word_at b.at a) → b.mapped a ≡ false
refused_by b a f true mapped g m e = absurd (cc)
refused_by b a f false true g m e = absurd (cc)
refused_by b a f false false g m e = m

pub load_gave : (b : Bytes) (a w : ℕ) → a % 4 ≡ 0 → Ok w ≡ word_loaded b a → IsLoaded b a w
unfolding word_loaded
load_gave b a w h e =
    let start : a - a % 4 ≡ a = omega arith in
    loaded_by b a w (nat_le (2 ^ 26) a) (b.mapped a) refl (rw start at e)

pub load_refused : (b : Bytes) (a : ℕ) (f : Fault) → a % 4 ≡ 0 → a < 2 ^ 26 → Err f ≡ word_loaded b a → b.mapped a ≡ false
unfolding word_loaded
load_refused b a f h g e =
    let start : a - a % 4 ≡ a = omega arith in
    let near : nat_le (2 ^ 26) a ≡ false = grind (arith, nat_tests) in
    refused_by b a f (nat_le (2 ^ 26) a) (b.mapped a) near refl (rw start at e)

pub mapped_step : (b : Bytes) (first n i : ℕ) → i < n → b.mapped (first + 4 * i) ≡ true → are_words_mapped b (first + 4 * i) (n - i) ≡ are_words_mapped b (first + 4 * (i + 1)) (n - (i + 1))
unfolding are_words_mapped
mapped_step b first n i h m =
    let e : n - i ≡ suc (n - (i + 1)) = omega arith in
    let a : first + 4 * i + 4 ≡ first + 4 * (i + 1) = omega arith in
    rw (e, m) (ap (λ x. are_words_mapped b x (n - (i + 1))) a)

pub mapped_stop : (b : Bytes) (first n i : ℕ) → i < n → b.mapped (first + 4 * i) ≡ false → are_words_mapped b (first + 4 * i) (n - i) ≡ false
unfolding are_words_mapped
mapped_stop b first n i h m = let e : n - i ≡ suc (n - (i + 1)) = omega arith in rw (e, m) refl

pub words_step : (b : Bytes) (first n i : ℕ) → i < n → memory_words_at b (first + 4 * i) (n - i) ≡ word_at b.at (first + 4 * i) ∷ memory_words_at b (first + 4 * (i + 1)) (n - (i + 1))
unfolding memory_words_at
words_step b first n i h =
    let e : n - i ≡ suc (n - (i + 1)) = omega arith in
    let a : first + 4 * i + 4 ≡ first + 4 * (i + 1) = omega arith in
    rw e (ap (λ x. word_at b.at (first + 4 * i) ∷ memory_words_at b x (n - (i + 1))) a)

pub grown : (xs ys rest : List ℕ) (w v : ℕ) → w ≡ v → ys ≡ xs ++ w ∷ [] → xs ++ v ∷ rest ≡ ys ++ rest
grown xs ys rest w v e g = ap (λ x. xs ++ x ∷ rest) (sym e) ∙ sym (append_assoc xs (w ∷ []) rest) ∙ ap (λ zs. zs ++ rest) (sym g)

pub mapped_end : (b : Bytes) (a n i : ℕ) → n ≤ i → are_words_mapped b a (n - i) ≡ true
unfolding are_words_mapped
mapped_end b a n i h = let e : n - i ≡ 0 = omega arith in rw e refl

pub words_end : (b : Bytes) (a n i : ℕ) → n ≤ i → memory_words_at b a (n - i) ≡ []
unfolding memory_words_at
words_end b a n i h = let e : n - i ≡ 0 = omega arith in rw e refl

pub words_all : (b : Bytes) (a n : ℕ) (ws : List ℕ) → a + 4 * n ≤ 2 ^ 26 → are_words_mapped b a n ≡ true → memory_words_at b a n ≡ ws → words_loaded b a n ≡ Ok ws
words_all b a n ws h m e = let near : ltb (2 ^ 26) (a + 4 * n) ≡ false = le-ltb (2 ^ 26) (a + 4 * n) h in rw (near, m) (ap (λ xs. Ok xs) e)

pub words_missing : (b : Bytes) (a n : ℕ) → a + 4 * n ≤ 2 ^ 26 → are_words_mapped b a n ≡ false → words_loaded b a n ≡ Err DataUnmapped
words_missing b a n h m = let near : ltb (2 ^ 26) (a + 4 * n) ≡ false = le-ltb (2 ^ 26) (a + 4 * n) h in rw (near, m) refl

pub free_step : (owned : ℕ → Bool) (first n i : ℕ) → i < n → owned (first + 4 * i) ≡ false → are_free owned (first + 4 * i) (n - i) ≡ are_free owned (first + 4 * (i + 1)) (n - (i + 1))
unfolding are_free
free_step owned first n i h m =
    let e : n - i ≡ suc (n - (i + 1)) = omega arith in
    let a : first + 4 * i + 4 ≡ first + 4 * (i + 1) = omega arith in
    rw (e, m) (ap (λ x. are_free owned x (n - (i + 1))) a)

pub free_stop : (owned : ℕ → Bool) (first n i : ℕ) → i < n → owned (first + 4 * i) ≡ true → are_free owned (first + 4 * i) (n - i) ≡ false
unfolding are_free
free_stop owned first n i h m = let e : n - i ≡ suc (n - (i + 1)) = omega arith in rw (e, m) refl

pub free_end : (owned : ℕ → Bool) (a n i : ℕ) → n ≤ i → are_free owned a (n - i) ≡ true
unfolding are_free
free_end owned a n i h = let e : n - i ≡ 0 = omega arith in rw e refl

first_true : (x y : Bool) → (x && y) ≡ true → x ≡ true
first_true true y e = refl
first_true false y e = e

-- a test of a pair of which the first part fails, or holds
pub mapped_head : (b : Bytes) (a n i : ℕ) → i < n → are_words_mapped b a (n - i) ≡ true → b.mapped a ≡ true
unfolding are_words_mapped
mapped_head b a n i h m = let e : n - i ≡ suc (n - (i + 1)) = omega arith in first_true (b.mapped a) _ (rw e at m)

pub mapped_tail : (b : Bytes) (first n i : ℕ) → i < n → are_words_mapped b (first + 4 * i) (n - i) ≡ true → are_words_mapped b (first + 4 * (i + 1)) (n - (i + 1)) ≡ true
mapped_tail b first n i h m = sym (mapped_step b first n i h (mapped_head b (first + 4 * i) n i h m)) ∙ m

pub words_put : (m n : AddressMap) (a w : ℕ) → layout n ≡ layout m → ((x : ℕ) → byte_at n x ≡ with_word_at (byte_at m) a w x) → bytes_of n ≡ with_word (bytes_of m) a w
words_put m n a w e f i = record { mapped = λ x. is_some ((e i).place x); at = λ x. f x i }

pub drop_next : (xs : List ℕ) (i : ℕ) → i < length xs → drop i xs ≡ get_or xs i 0 ∷ drop (i + 1) xs
drop_next xs i h = rw (add-one i) (drop-cons xs i 0 h)

pub with_words_step : (b : Bytes) (first i : ℕ) (ws : List ℕ) → i < length ws → with_words b (first + 4 * i) (drop i ws) ≡ with_words (with_word b (first + 4 * i) (get_or ws i 0)) (first + 4 * (i + 1)) (drop (i + 1) ws)
unfolding with_words
with_words_step b first i ws h =
    let a : first + 4 * i + 4 ≡ first + 4 * (i + 1) = omega arith in
    rw (drop_next ws i h) (ap (λ x. with_words (with_word b (first + 4 * i) (get_or ws i 0)) x (drop (i + 1) ws)) a)

pub with_words_end : (b : Bytes) (a i : ℕ) (ws : List ℕ) → length ws ≤ i → with_words b a (drop i ws) ≡ b
unfolding with_words
with_words_end b a i ws h = rw (drop_all i ws h) refl

pub ruleset mapping = (mapped_step, mapped_stop, mapped_end)

pub ruleset freedom = (free_step, free_stop, free_end)
