-- The words of a block in the order of their registers.
use Rattle.std.proofs.Common.{◌≡◌, ℕ, zero, suc, ◌+◌, ◌*◌, ◌^◌, ◌<◌, Bool, true, false, cond, nat_lt, List, [], ◌∷◌, ◌++◌, length, map, refl, ap, sym, ◌∙◌, arith, Option, Some, None, append-nil, length-append}
use Rattle.std.proofs.lemmas.Bool.Decides.{nat_tests}
use Rattle.std.proofs.lemmas.List.{map-append, length-map}
use Rattle.arm_core.specs.Word.{bit_of}
use Rattle.address_map.specs.Bytes.{Bytes, word_at}
use Rattle.arm_decode.specs.declared.action.BlockTransfer.{BlockTransfer}
use Rattle.arm_decode.specs.declared.address.BlockMode.{BlockMode}
use Rattle.arm_decode.specs.declared.address.BlockMode.TheVariants.{DecrementAfter, IncrementAfter, DecrementBefore, IncrementBefore}
use Rattle.arm_core.specs.declared.psr.Mode.{Mode}
use Rattle.arm_core.specs.State.{State, IsCore, register_in}
use Rattle.arm_core.specs.Effect.{with_next_pc, plain_operand, with_result}
use Rattle.arm_step.specs.Words.{memory_words_at, with_words}
use Rattle.arm_core.specs.Listed.{listed_below, registers_of_list}
use Rattle.arm_step.specs.Blocks.{stepped_base, transferred_count, block_start, block_base, bank_of, with_block_base, with_loaded, with_status_if, with_block_status, block_value, block_values}
use Rattle.arm_step.specs.BlockOrder.{LoadsInOrder, StoresInOrder}
use Rattle.arm_step.proofs.Back.{AreWords, words_back, store_left, load_left}
use Rattle.arm_core.proofs.OperandWords.{status_word}
use Rattle.arm_step.proofs.Restoring.{placed, size_kept}

-- one word more, and the words of the registers so far
words_more : (b : Bytes) (a k : ℕ) → memory_words_at b a (suc k) ≡ memory_words_at b a k ++ word_at b.at (a + 4 * k) ∷ []
unfolding memory_words_at
words_more b a zero = let e : a ≡ a + 4 * zero = omega arith in ap (λ x. word_at b.at x ∷ []) e
words_more b a (suc k) =
    let e : (a + 4) + 4 * k ≡ a + 4 * suc k = omega arith in
    ap (λ xs. word_at b.at a ∷ xs) (words_more b (a + 4) k) ∙ ap (λ x. word_at b.at a ∷ (memory_words_at b (a + 4) k ++ word_at b.at x ∷ [])) e

abbrev word_of : Bytes → ℕ → ℕ → ℕ → ℕ
word_of b a list r = word_at b.at (a + 4 * length (listed_below r list))

next_word : (b : Bytes) (a list n : ℕ) (r : Bool) → memory_words_at b a (length (listed_below n list)) ≡ map (word_of b a list) (listed_below n list)
    → memory_words_at b a (length (listed_below n list ++ cond r (n ∷ []) [])) ≡ map (word_of b a list) (listed_below n list ++ cond r (n ∷ []) [])
next_word b a list n false h = rw (append-nil (listed_below n list)) h
next_word b a list n true h =
    let longer : length (listed_below n list ++ n ∷ []) ≡ suc (length (listed_below n list)) = omega (arith, length-append (listed_below n list) (n ∷ [])) in
    ap (memory_words_at b a) longer ∙ words_more b a (length (listed_below n list)) ∙ ap (λ xs. xs ++ word_of b a list n ∷ []) h
    ∙ sym (map-append (word_of b a list) (listed_below n list) (n ∷ []))

words_below : (b : Bytes) (a list n : ℕ) → memory_words_at b a (length (listed_below n list)) ≡ map (word_of b a list) (listed_below n list)
unfolding listed_below memory_words_at
words_below b a list zero = refl
words_below b a list (suc n) = next_word b a list n (bit_of list n) (words_below b a list n)

words_listed : (b : Bytes) (a list : ℕ) → memory_words_at b a (length (registers_of_list list)) ≡ map (word_of b a list) (registers_of_list list)
unfolding registers_of_list
words_listed b a list = words_below b a list 16

-- base and status keep what was loaded
base_size_by : (s : State) (r v : ℕ) (writes : Bool) → length s.file ≡ 26 → length (cond writes (with_result (with_next_pc s) r v) (with_next_pc s)).file ≡ 26
base_size_by s r v true h = size_kept s.psr.mode (with_next_pc s) r v ∙ h
base_size_by s r v false h = h

base_size : (s : State) (t : BlockTransfer) (v : ℕ) → length s.file ≡ 26 → length (with_block_base (with_next_pc s) t v).file ≡ 26
base_size s t v h = base_size_by s t.rn v t.writes_back h

status_read_by : (m : Mode) (s : State) (n : ℕ) (w : Option ℕ) (loads : Bool) → register_in m (cond loads (with_status_if s w) s) n ≡ register_in m s n
status_read_by m s n w false = refl
status_read_by m s n None true = refl
status_read_by m s n (Some w) true = refl

status_read : (m : Mode) (s : State) (t : BlockTransfer) (ws : List ℕ) (n : ℕ) → register_in m (with_block_status s t ws) n ≡ register_in m s n
status_read m s t ws n = status_read_by m s n _ _

placed_read : (m : Mode) (s : State) (f : ℕ → ℕ) (list r : ℕ) → length s.file ≡ 26 → r < 15 → bit_of list r ≡ true
    → register_in m (with_loaded m s (registers_of_list list) (map f (registers_of_list list))) r ≡ f r
unfolding registers_of_list
placed_read m s f list r l h e = let low : nat_lt r 16 ≡ true = grind (arith, nat_tests) in placed m s f list 16 r l h ∙ rw (low, e) refl

pub loads_in_order : LoadsInOrder
loads_in_order owned t s end b c i loads e r h listed_r =
    let m = bank_of s t in
    let z = with_block_base (with_next_pc s) t (block_base s t) in
    let ws = memory_words_at b (block_start s t) (transferred_count t) in
    ap (λ q. register_in (bank_of s t) q r) (load_left owned t s end b c loads e) ∙ status_read m (with_loaded m z (registers_of_list t.list) ws) t ws r
    ∙ ap (λ vs. register_in (bank_of s t) (with_loaded (bank_of s t) (with_block_base (with_next_pc s) t (block_base s t)) (registers_of_list t.list) vs) r)
    (words_listed b (block_start s t) t.list)
    ∙ placed_read m z (word_of b (block_start s t) t.list) t.list r (base_size s t (block_base s t) i.size) h listed_r

stepped_word : (mode : BlockMode) (x n : ℕ) → stepped_base mode x n < 2 ^ 32
stepped_word IncrementAfter x n = omega arith
stepped_word IncrementBefore x n = omega arith
stepped_word DecrementAfter x n = omega arith
stepped_word DecrementBefore x n = omega arith

one_of : (b : Bool) (y z : ℕ) → y < 2 ^ 32 → z < 2 ^ 32 → cond b y z < 2 ^ 32
one_of true y z h g = h
one_of false y z h g = g

value_word : (s : State) (t : BlockTransfer) (r : ℕ) → IsCore s → block_value s t r < 2 ^ 32
value_word s t r i = one_of _ _ _ (stepped_word t.mode (plain_operand s t.rn 2) (transferred_count t)) (status_word (bank_of s t) s r 3 i)

all_values : (s : State) (t : BlockTransfer) (xs : List ℕ) → IsCore s → AreWords (map (block_value s t) xs)
all_values s t [] i = tt
all_values s t (x ∷ xs) i = (value_word s t x i, all_values s t xs i)

values_back : (s : State) (t : BlockTransfer) (b : Bytes) (a : ℕ) → IsCore s → memory_words_at (with_words b a (block_values s t)) a (transferred_count t) ≡ map (block_value s t) (registers_of_list t.list)
values_back s t b a i =
    let vs = map (block_value s t) (registers_of_list t.list) in
    ap (λ k. memory_words_at (with_words b a vs) a k) (sym (length-map (registers_of_list t.list) (block_value s t))) ∙ words_back b a vs (all_values s t (registers_of_list t.list) i)

pub stores_in_order : StoresInOrder
stores_in_order owned t s end b c i stores e =
    ap (λ d. memory_words_at d (block_start s t) (transferred_count t)) (store_left owned t s end b c stores e).1 ∙ values_back s t b (block_start s t) i

pub ruleset in_order = (loads_in_order, stores_in_order)
