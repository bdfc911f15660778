-- The words of a block in one page: placed in registers, the lowest register first, or stored of them.
use Rattle.std.proofs.Common.{◌≡◌, ℕ, zero, suc, ◌&&◌, length, map, slice_index, slice_get, Option, Some, None, Ok, Err, ◌+◌, ◌-◌, ◌*◌, ◌<◌, Bool, true, false, cond, nat_eq, List, [], ◌∷◌, ap, sym, ◌∙◌, refl, arith}
use Rattle.std.proofs.lemmas.Bool.Decides.{nat_tests}
use Rattle.std.proofs.lemmas.List.{length-map}
use Rattle.arm_core.specs.Fault.{Fault}
use Rattle.address_map.specs.Bytes.{Bytes, word_at, with_word, with_word_at, ok_unless_fault}
use Rattle.address_map.specs.Memory.{bytes_of, byte_at, layout}
use Rattle.address_map.specs.declared.map.AddressMap.{AddressMap}
use Rattle.arm_decode.specs.declared.action.BlockTransfer.{BlockTransfer}
use Rattle.arm_core.specs.Listed.{registers_of_list}
use Rattle.arm_core.proofs.Lowest.{low_list, listed_empty, length_next}
use Rattle.arm_step.specs.Blocks.{with_loaded, stores_new_base, transferred_count, block_start, block_base, bank_of, with_block_base, block_value, block_values, block_stored}
use Rattle.arm_core.specs.Effect.{with_next_pc, with_result_in, status_operand}
use Rattle.arm_step.specs.PageWords.{words_in}
use Rattle.arm_core.specs.State.{State, register_in, with_register_in}
use Rattle.arm_step.specs.StoredBase.{changed_base, value_by}
use Rattle.arm_step.specs.Words.{with_words, words_store_fault, words_stored}
use Rattle.arm_core.specs.declared.psr.Mode.{Mode}
use Rattle.arm_core.specs.declared.psr.Mode.TheVariants.{User}
use Rattle.arm_step.proofs.SeveralWords.{words_put}

pub loaded_next : (m : Mode) (s t : State) (x y r w at : ℕ) (bytes : List ℕ) → registers_of_list x ≡ r ∷ registers_of_list y → w ≡ word_at (slice_index bytes) at
    → t ≡ with_result_in m s r w
    → with_loaded m s (registers_of_list x) (words_in bytes at (length (registers_of_list x))) ≡ with_loaded m t (registers_of_list y) (words_in bytes (at + 4) (length (registers_of_list y)))
unfolding with_loaded words_in
loaded_next m s t x y r w at bytes e word new =
    rw (e, ← word) (ap (λ u. with_loaded m u (registers_of_list y) (words_in bytes (at + 4) (length (registers_of_list y)))) (sym new))

result_below_pc : (m : Mode) (s : State) (r w : ℕ) → r < 15 → with_result_in m s r w ≡ with_register_in m s r w
result_below_pc m s r w below = let other : nat_eq r 15 ≡ false = grind (arith, nat_tests) in rw other refl

pub loaded_low : (m : Mode) (s t : State) (x y r w at : ℕ) (bytes : List ℕ) → registers_of_list x ≡ r ∷ registers_of_list y → w ≡ word_at (slice_index bytes) at
    → r < 15 → t ≡ with_register_in m s r w
    → with_loaded m s (registers_of_list x) (words_in bytes at (length (registers_of_list x))) ≡ with_loaded m t (registers_of_list y) (words_in bytes (at + 4) (length (registers_of_list y)))
loaded_low m s t x y r w at bytes e word below new = loaded_next m s t x y r w at bytes e word (new ∙ sym (result_below_pc m s r w below))

pub loaded_end : (m : Mode) (s : State) (x : ℕ) (ws : List ℕ) → x ≡ 0 → with_loaded m s (registers_of_list x) ws ≡ s
unfolding with_loaded
loaded_end m s x ws e = let none : registers_of_list x ≡ [] = ap registers_of_list e ∙ listed_empty in rw none refl

pub ruleset placing = (length_next, loaded_next, loaded_end)

pub ruleset placing_low = (low_list, length_next, loaded_low, loaded_end)

pub ruleset putting_low = (low_list, length_next)

-- the last of some words
length_in : (bytes : List ℕ) (at n : ℕ) → length (words_in bytes at n) ≡ n
unfolding words_in
length_in bytes at zero = refl
length_in bytes at (suc n) = ap suc (length_in bytes (at + 4) n)

last_in : (bytes : List ℕ) (at n : ℕ) → slice_get (words_in bytes at (suc n)) n ≡ Some (word_at (slice_index bytes) (at + 4 * n))
unfolding words_in
last_in bytes at zero = let e : at + 4 * 0 ≡ at = omega arith in rw e refl
last_in bytes at (suc n) =
    let e : at + 4 + 4 * n ≡ at + 4 * suc n = omega arith in
    last_in bytes (at + 4) n ∙ ap (λ k. Some (word_at (slice_index bytes) k)) e

pub last_word : (bytes : List ℕ) (n w : ℕ) → 0 < n → length bytes ≡ 4 * n → w ≡ word_at (slice_index bytes) (length bytes - 4)
    → slice_get (words_in bytes 0 n) (length (words_in bytes 0 n) - 1) ≡ Some w
last_word bytes zero w some size is = absurd (omega arith)
last_word bytes (suc n) w some size is =
    let one : length (words_in bytes 0 (suc n)) - 1 ≡ n = omega (arith, length_in bytes 0 (suc n)) in
    let at : 0 + 4 * n ≡ length bytes - 4 = omega arith in
    rw one (last_in bytes 0 n ∙ ap (λ k. Some (word_at (slice_index bytes) k)) at ∙ ap Some (sym is))

-- what a store finds of a register
value_is : (b is_base : Bool) (base x : ℕ) → value_by (cond b (Some base) None) is_base x ≡ cond (b && is_base) base x
value_is true is_base base x = refl
value_is false is_base base x = refl

pub stored_as : (s : State) (t : BlockTransfer) (bank : Mode) (r : ℕ) (changed : Option ℕ) (value : ℕ)
    → changed ≡ changed_base s t → bank ≡ bank_of s t
    → value ≡ value_by changed (nat_eq r t.rn) (status_operand bank s r 3) → value ≡ block_value s t r
stored_as s t bank r changed value ec ek ev =
    rw (ev, ec, ek) (value_is (stores_new_base t) (nat_eq r t.rn) (block_base s t) (status_operand (bank_of s t) s r 3))

operand_below_pc : (m : Mode) (s : State) (r words : ℕ) → r < 15 → status_operand m s r words ≡ register_in m s r
operand_below_pc m s r words below = let other : nat_eq r 15 ≡ false = grind (arith, nat_tests) in rw other refl

pub stored_low : (s : State) (t : BlockTransfer) (r value : ℕ) → bank_of s t ≡ User → stores_new_base t ≡ false → r < 15
    → value ≡ register_in User s r → value ≡ block_value s t r
stored_low s t r value user same below is = rw (same, user) (is ∙ sym (operand_below_pc User s r 3 below))

pub put_next : (m n : AddressMap) (f : ℕ → ℕ) (first offset x y r w : ℕ) → layout n ≡ layout m
    → ((a : ℕ) → byte_at n a ≡ with_word_at (byte_at m) (first + offset) w a) → registers_of_list x ≡ r ∷ registers_of_list y → w ≡ f r
    → with_words (bytes_of m) (first + offset) (map f (registers_of_list x)) ≡ with_words (bytes_of n) (first + (offset + 4)) (map f (registers_of_list y))
unfolding with_words
put_next m n f first offset x y r w same bytes e is =
    let next : first + offset + 4 ≡ first + (offset + 4) = omega arith in
    let put : bytes_of n ≡ with_word (bytes_of m) (first + offset) w = words_put m n (first + offset) w same bytes in
    rw (e, ← is, ← next, put) refl

pub put_end : (b : Bytes) (f : ℕ → ℕ) (a x : ℕ) → x ≡ 0 → with_words b a (map f (registers_of_list x)) ≡ b
unfolding with_words
put_end b f a x e = let none : registers_of_list x ≡ [] = ap registers_of_list e ∙ listed_empty in rw none refl

-- all words of a block, by the fault that a store of them meets
length_values : (s : State) (t : BlockTransfer) → length (block_values s t) ≡ transferred_count t
length_values s t = length-map (registers_of_list t.list) (block_value s t)

block_words : (owned : ℕ → Bool) (s : State) (b : Bytes) (t : BlockTransfer) (first : ℕ) (fault : Option Fault) → words_store_fault owned b first (transferred_count t) ≡ fault
    → words_stored owned b first (block_values s t) ≡ ok_unless_fault fault (with_words b first (block_values s t))
block_words owned s b t first fault h = rw (length_values s t, h) refl

pub block_refused : (owned : ℕ → Bool) (s : State) (b : Bytes) (t : BlockTransfer) (first : ℕ) (fault : Fault) → first ≡ block_start s t
    → words_store_fault owned b first (transferred_count t) ≡ Some fault → block_stored owned s b t ≡ Err fault
block_refused owned s b t first fault start h = rw (← start, block_words owned s b t first (Some fault) h) refl

pub block_done : (owned : ℕ → Bool) (s : State) (b : Bytes) (t : BlockTransfer) (first base : ℕ) → first ≡ block_start s t → base ≡ block_base s t
    → words_store_fault owned b first (transferred_count t) ≡ None
    → block_stored owned s b t ≡ Ok (with_block_base (with_next_pc s) t base, with_words b first (block_values s t))
block_done owned s b t first base start to h = rw (← start, ← to, block_words owned s b t first None h) refl
