-- Words stored are the words loaded, and the whole way there and back.
use Rattle.std.proofs.Common.{◌≡◌, ◌≢◌, ◌⊎◌, ℕ, zero, suc, ◌+◌, ◌*◌, ◌/◌, ◌%◌, ◌<◌, ◌≤◌, ◌^◌, Bool, true, false, cond, ◌&&◌, nat_lt, nat_eq, List, [], ◌∷◌, ◌++◌, length, map, refl, ap, sym, ◌∙◌, arith, Option, Some, None, Result, Ok, Err, inl, inr, append-nil}
use Rattle.std.proofs.lemmas.Bool.Decides.{nat_tests}
use Rattle.std.proofs.lemmas.List.{map-append, length-map}
use Rattle.address_map.specs.Outcome.{bind}
use Rattle.arm_core.specs.Word.{bit_of}
use Rattle.arm_core.specs.Fault.{Fault}
use Rattle.address_map.specs.Bytes.{Bytes, word_at, word_start, with_word, with_word_at, ok_unless_fault}
use Rattle.arm_decode.specs.declared.action.Action.TheVariants as action
use Rattle.arm_decode.specs.declared.action.BlockTransfer.{BlockTransfer}
use Rattle.arm_decode.specs.declared.address.BlockMode.{BlockMode}
use Rattle.arm_decode.specs.declared.address.BlockMode.TheVariants.{DecrementAfter, IncrementAfter, DecrementBefore, IncrementBefore}
use Rattle.arm_core.specs.declared.psr.Mode.{Mode}
use Rattle.arm_core.specs.State.{State, IsCore, register_in}
use Rattle.arm_core.specs.Effect.{with_next_pc, plain_operand}
use Rattle.arm_step.specs.Words.{memory_words_at, with_words}
use Rattle.arm_core.specs.Listed.{listed_below, registers_of_list}
use Rattle.arm_step.specs.Blocks.{lowest, stepped_base, transferred_count, block_start, block_base, bank_of, with_block_base, with_loaded, with_block_status, block_loaded, stores_new_base, block_value, block_values, block_stored, result_of_block_transfer}
use Rattle.arm_step.specs.Step.{result_of_action, or_fault}
use Rattle.arm_step.specs.Back.{PutsAway, opposite, brought_back, ComesBack}
use Rattle.arm_core.proofs.Listing.{few_of_all}
use Rattle.arm_core.proofs.OperandWords.{is_word}
use Rattle.arm_step.proofs.Restoring.{placed, same_read, size_kept, no_pc, and_false}

-- a byte below the words keeps its value
below_kept : (b : Bytes) (a x : ℕ) (ws : List ℕ) → x < a → (with_words b a ws).at x ≡ b.at x
unfolding with_words
below_kept b a x [] h = refl
below_kept b a x (w ∷ ws) h =
    let further : x < a + 4 = omega arith in
    let zero_off : nat_eq x a ≡ false = grind (arith, nat_tests) in
    let one_off : nat_eq x (a + 1) ≡ false = grind (arith, nat_tests) in
    let two_off : nat_eq x (a + 2) ≡ false = grind (arith, nat_tests) in
    let three_off : nat_eq x (a + 3) ≡ false = grind (arith, nat_tests) in
    below_kept (with_word b a w) (a + 4) x ws further ∙ rw (zero_off, one_off, two_off, three_off) refl

off : (x y : ℕ) → x ≢ y → nat_eq x y ≡ false
off x y d = grind (arith, nat_tests)

on : (x : ℕ) → nat_eq x x ≡ true
on x = grind (arith, nat_tests)

byte_0 : (f : ℕ → ℕ) (a w : ℕ) → with_word_at f a w a ≡ w % 256
byte_0 f a w = rw (on a) refl

byte_1 : (f : ℕ → ℕ) (a w : ℕ) → with_word_at f a w (a + 1) ≡ w / 256 % 256
byte_1 f a w = rw (off (a + 1) a (λ e. omega arith), on (a + 1)) refl

byte_2 : (f : ℕ → ℕ) (a w : ℕ) → with_word_at f a w (a + 2) ≡ w / 65536 % 256
byte_2 f a w = rw (off (a + 2) a (λ e. omega arith), off (a + 2) (a + 1) (λ e. omega arith), on (a + 2)) refl

byte_3 : (f : ℕ → ℕ) (a w : ℕ) → with_word_at f a w (a + 3) ≡ w / 16777216 % 256
byte_3 f a w = rw (off (a + 3) a (λ e. omega arith), off (a + 3) (a + 1) (λ e. omega arith), off (a + 3) (a + 2) (λ e. omega arith), on (a + 3)) refl

four_bytes : (w : ℕ) → w < 2 ^ 32 → w % 256 + 256 * (w / 256 % 256 + 256 * (w / 65536 % 256 + 256 * (w / 16777216 % 256))) ≡ w
four_bytes w h = omega arith

word_of_bytes : (f : ℕ → ℕ) (a p q r s w : ℕ) → f a ≡ p → f (a + 1) ≡ q → f (a + 2) ≡ r → f (a + 3) ≡ s → p + 256 * (q + 256 * (r + 256 * s)) ≡ w → word_at f a ≡ w
word_of_bytes f a p q r s w i j k l e = omega arith

first_back : (b : Bytes) (a w : ℕ) (ws : List ℕ) → w < 2 ^ 32 → word_at (with_words (with_word b a w) (a + 4) ws).at a ≡ w
first_back b a w ws h =
    let kept = λ (x : ℕ) (g : x < a + 4). below_kept (with_word b a w) (a + 4) x ws g in
    word_of_bytes (with_words (with_word b a w) (a + 4) ws).at a _ _ _ _ w
    (kept a (omega arith) ∙ byte_0 b.at a w) (kept (a + 1) (omega arith) ∙ byte_1 b.at a w)
    (kept (a + 2) (omega arith) ∙ byte_2 b.at a w) (kept (a + 3) (omega arith) ∙ byte_3 b.at a w) (four_bytes w h)

abbrev pub AreWords : List ℕ → Type 0
AreWords [] = Unit {0}
AreWords (w ∷ ws) = (w < 2 ^ 32) × AreWords ws

pub words_back : (b : Bytes) (a : ℕ) (ws : List ℕ) → AreWords ws → memory_words_at (with_words b a ws) a (length ws) ≡ ws
unfolding memory_words_at with_words
words_back b a [] h = refl
words_back b a (w ∷ ws) h =
    ap (λ x. x ∷ memory_words_at (with_words (with_word b a w) (a + 4) ws) (a + 4) (length ws)) (first_back b a w ws h.0)
    ∙ ap (λ xs. w ∷ xs) (words_back (with_word b a w) (a + 4) ws h.1)

-- the addresses there and back
start_again : (mode : BlockMode) (x k : ℕ) → x < 2 ^ 32 → k ≤ 16 → lowest (opposite mode) (stepped_base mode x k) k ≡ lowest mode x k
start_again IncrementAfter x k h g = omega arith
start_again IncrementBefore x k h g = omega arith
start_again DecrementAfter x k h g = omega arith
start_again DecrementBefore x k h g = omega arith

base_again : (mode : BlockMode) (x k : ℕ) → x < 2 ^ 32 → k ≤ 16 → stepped_base (opposite mode) (stepped_base mode x k) k ≡ x
base_again IncrementAfter x k h g = omega arith
base_again IncrementBefore x k h g = omega arith
base_again DecrementAfter x k h g = omega arith
base_again DecrementBefore x k h g = omega arith

-- what is stored of a listed register is the register
value_is : (s : State) (t : BlockTransfer) (r : ℕ) → PutsAway t → bit_of t.list r ≡ true → block_value s t r ≡ register_in s.psr.mode s r
value_is s t r p e =
    let other : nat_eq r t.rn ≡ false = off r t.rn (λ f. let both : bit_of t.list r ≡ bit_of t.list t.rn = ap (bit_of t.list) f in cc (p.apart, e, both)) in
    let no : nat_eq r 15 ≡ false = off r 15 (λ f. let both : bit_of t.list r ≡ bit_of t.list 15 = ap (bit_of t.list) f in cc (p.without_pc, e, both)) in
    let old : (stores_new_base t && nat_eq r t.rn) ≡ false = rw other (and_false (stores_new_base t)) in
    rw (old, p.plain, no) refl

joined_maps : (f g : ℕ → ℕ) (xs : List ℕ) (n : ℕ) → map f xs ≡ map g xs → f n ≡ g n → map f (xs ++ n ∷ []) ≡ map g (xs ++ n ∷ [])
joined_maps f g xs n h e = map-append f xs (n ∷ []) ∙ ap (λ ys. ys ++ f n ∷ []) h ∙ ap (λ y. map g xs ++ y ∷ []) e ∙ sym (map-append g xs (n ∷ []))

one_value : (s : State) (t : BlockTransfer) (xs : List ℕ) (n : ℕ) (r : Bool) → bit_of t.list n ≡ r → PutsAway t
    → map (block_value s t) xs ≡ map (register_in s.psr.mode s) xs
    → map (block_value s t) (xs ++ cond r (n ∷ []) []) ≡ map (register_in s.psr.mode s) (xs ++ cond r (n ∷ []) [])
one_value s t xs n true e p h = joined_maps (block_value s t) (register_in s.psr.mode s) xs n h (value_is s t n p e)
one_value s t xs n false e p h = rw (append-nil xs) h

values_are : (s : State) (t : BlockTransfer) (n : ℕ) → PutsAway t → map (block_value s t) (listed_below n t.list) ≡ map (register_in s.psr.mode s) (listed_below n t.list)
unfolding listed_below
values_are s t zero p = refl
values_are s t (suc n) p = one_value s t (listed_below n t.list) n (bit_of t.list n) refl p (values_are s t n p)

all_words : (s : State) (xs : List ℕ) → IsCore s → AreWords (map (register_in s.psr.mode s) xs)
all_words s [] c = tt
all_words s (x ∷ xs) c = (c.words _, all_words s xs c)

-- what the two transfers left
from_fault : (r : Result (State × Bytes) Fault) (w : State × Bytes) → or_fault r ≡ Ok w → r ≡ Ok w
from_fault (Ok v) w e = cc
from_fault (Err f) w e = absurd (cc)

ok_eq : (v w : State × Bytes) (r : Result (State × Bytes) Fault) → r ≡ Ok v → r ≡ Ok w → v ≡ w
ok_eq v w r e g = cc

from_store : (f : Option Fault) (x c : Bytes) (s out : State) → bind {B = State × Bytes} (ok_unless_fault f x) (λ d. Ok (s, d)) ≡ Ok (out, c) → (out ≡ s) × (c ≡ x)
from_store None x c s out e = let q = ok_eq (out, c) (s, x) _ e refl in (ap (λ w. w.0) q, ap (λ w. w.1) q)
from_store (Some f) x c s out e = absurd (cc)

from_load : (f : Option Fault) (ws : List ℕ) (g : List ℕ → State) (c d : Bytes) (end : State) → bind {B = State × Bytes} (ok_unless_fault f ws) (λ v. Ok (g v, c)) ≡ Ok (end, d) → end ≡ g ws
from_load None ws g c d end e = ap (λ w. w.0) (ok_eq (end, d) (g ws, c) _ e refl)
from_load (Some f) ws g c d end e = absurd (cc)

stored_by : (loads : Bool) (r q : Result (State × Bytes) Fault) (w : State × Bytes) → loads ≡ false → or_fault (cond loads r q) ≡ Ok w → q ≡ Ok w
stored_by true r q w h e = absurd (cc)
stored_by false r q w h e = from_fault q w e

pub store_left : (owned : ℕ → Bool) (t : BlockTransfer) (s out : State) (b c : Bytes) → t.loads ≡ false → result_of_action owned s b (action.BlockTransfer t) ≡ Ok (out, c)
    → (out ≡ with_block_base (with_next_pc s) t (block_base s t)) × (c ≡ with_words b (block_start s t) (block_values s t))
unfolding result_of_action result_of_block_transfer
store_left owned t s out b c h e = from_store _ _ c _ out (stored_by t.loads (block_loaded s b t) _ (out, c) h e)

loaded_by : (loads : Bool) (r q : Result (State × Bytes) Fault) (w : State × Bytes) → loads ≡ true → or_fault (cond loads r q) ≡ Ok w → r ≡ Ok w
loaded_by true r q w h e = from_fault r w e
loaded_by false r q w h e = absurd (cc)

pub load_left : (owned : ℕ → Bool) (u : BlockTransfer) (s end : State) (c d : Bytes) → u.loads ≡ true → result_of_action owned s c (action.BlockTransfer u) ≡ Ok (end, d)
    → end ≡ (let ws = memory_words_at c (block_start s u) (transferred_count u) in
    with_block_status (with_loaded (bank_of s u) (with_block_base (with_next_pc s) u (block_base s u)) (registers_of_list u.list) ws) u ws)
unfolding result_of_action result_of_block_transfer
load_left owned u s end c d h e = from_load _ _ _ c d end (loaded_by u.loads _ (block_stored owned s c u) (end, d) h e)

based : (s : State) (t : BlockTransfer) (v : ℕ) → t.writes_back ≡ true → t.rn < 15 → length s.file ≡ 26 → register_in s.psr.mode (with_block_base (with_next_pc s) t v) t.rn ≡ v
based s t v w h l = rw w (same_read s.psr.mode (with_next_pc s) t.rn v l h)

based_size : (s : State) (t : BlockTransfer) (v : ℕ) → t.writes_back ≡ true → length (with_block_base (with_next_pc s) t v).file ≡ length s.file
based_size s t v w = rw w (size_kept s.psr.mode (with_next_pc s) t.rn v)

base_read : (s : State) (r : ℕ) → r < 15 → plain_operand s r 2 ≡ register_in s.psr.mode s r
base_read s r h = rw (no_pc r h) refl

start_back : (s back : State) (t : BlockTransfer) → plain_operand s t.rn 2 < 2 ^ 32 → plain_operand back t.rn 2 ≡ block_base s t → block_start back (brought_back t) ≡ block_start s t
start_back s back t h e =
    ap (λ x. word_start (lowest (opposite t.mode) x (transferred_count t))) e ∙ ap word_start (start_again t.mode (plain_operand s t.rn 2) (transferred_count t) h (few_of_all t.list))

base_back : (s back : State) (t : BlockTransfer) → plain_operand s t.rn 2 < 2 ^ 32 → plain_operand back t.rn 2 ≡ block_base s t → block_base back (brought_back t) ≡ plain_operand s t.rn 2
base_back s back t h e =
    ap (λ x. stepped_base (opposite t.mode) x (transferred_count t)) e ∙ base_again t.mode (plain_operand s t.rn 2) (transferred_count t) h (few_of_all t.list)

values_listed : (s : State) (t : BlockTransfer) → PutsAway t → block_values s t ≡ map (register_in s.psr.mode s) (registers_of_list t.list)
unfolding registers_of_list
values_listed s t p = values_are s t 16 p

words_again : (s : State) (t : BlockTransfer) (b : Bytes) (a : ℕ) → IsCore s → memory_words_at (with_words b a (map (register_in s.psr.mode s) (registers_of_list t.list))) a (transferred_count t) ≡ map (register_in s.psr.mode s) (registers_of_list t.list)
words_again s t b a i =
    let values = map (register_in s.psr.mode s) (registers_of_list t.list) in
    ap (λ k. memory_words_at (with_words b a values) a k) (sym (length-map (registers_of_list t.list) (register_in s.psr.mode s))) ∙ words_back b a values (all_words s (registers_of_list t.list) i)

no_status : (s : State) (t : BlockTransfer) (ws : List ℕ) → PutsAway t → with_block_status s (brought_back t) ws ≡ s
no_status s t ws p = rw p.plain refl

same_bank : (s : State) (t : BlockTransfer) → PutsAway t → bank_of s (brought_back t) ≡ s.psr.mode
same_bank s t p = rw p.plain refl

all_placed : (m : Mode) (s : State) (f : ℕ → ℕ) (list q : ℕ) → length s.file ≡ 26 → q < 15 → register_in m (with_loaded m s (registers_of_list list) (map f (registers_of_list list))) q ≡ cond (nat_lt q 16 && bit_of list q) (f q) (register_in m s q)
unfolding registers_of_list
all_placed m s f list q l h = placed m s f list 16 q l h

listed_read : (x : Bool) (q : ℕ) (y z : ℕ) → q < 15 → x ≡ true → cond (nat_lt q 16 && x) y z ≡ y
listed_read x q y z h e = let low : nat_lt q 16 ≡ true = grind (arith, nat_tests) in rw (low, e) refl

unlisted_read : (x : Bool) (q : ℕ) (y z : ℕ) → q < 15 → x ≡ false → cond (nat_lt q 16 && x) y z ≡ z
unlisted_read x q y z h e = let low : nat_lt q 16 ≡ true = grind (arith, nat_tests) in rw (low, e) refl

read_end : (s based_state : State) (t : BlockTransfer) (n : ℕ) → PutsAway t → length based_state.file ≡ 26 → register_in s.psr.mode based_state t.rn ≡ register_in s.psr.mode s t.rn
    → n < 15 → (n ≡ t.rn) ⊎ (bit_of t.list n ≡ true)
    → register_in s.psr.mode (with_loaded s.psr.mode based_state (registers_of_list t.list) (map (register_in s.psr.mode s) (registers_of_list t.list))) n ≡ register_in s.psr.mode s n
read_end s z t n p l e h (inl i) =
    all_placed s.psr.mode z (register_in s.psr.mode s) t.list n l h ∙ unlisted_read (bit_of t.list n) n _ _ h (ap (bit_of t.list) i ∙ p.apart)
    ∙ ap (register_in s.psr.mode z) i ∙ e ∙ ap (register_in s.psr.mode s) (sym i)
read_end s z t n p l e h (inr i) =
    all_placed s.psr.mode z (register_in s.psr.mode s) t.list n l h ∙ listed_read (bit_of t.list n) n _ _ h i

pub comes_back : ComesBack
comes_back owned t s out back end b c d p i j e mode base f n h which =
    let m = s.psr.mode in
    let u = brought_back t in
    let went = store_left owned t s out b c p.stores e in
    let came = load_left owned (brought_back t) back end c d refl f in
    let word : plain_operand s t.rn 2 < 2 ^ 32 = rw (base_read s t.rn p.base) (is_word s s.psr.mode t.rn i) in
    let there : register_in s.psr.mode out t.rn ≡ block_base s t =
    ap (λ z. register_in s.psr.mode z t.rn) went.0 ∙ based s t (block_base s t) p.moves_base p.base i.size in
    let here : plain_operand back t.rn 2 ≡ block_base s t =
    base_read back t.rn p.base ∙ ap (λ q. register_in q back t.rn) mode ∙ base ∙ there in
    let bytes : c ≡ with_words b (block_start s t) (map (register_in s.psr.mode s) (registers_of_list t.list)) = went.1 ∙ ap (with_words b (block_start s t)) (values_listed s t p) in
    let words : memory_words_at c (block_start back (brought_back t)) (transferred_count t) ≡ map (register_in s.psr.mode s) (registers_of_list t.list) =
    ap (λ x. memory_words_at c x (transferred_count t)) (start_back s back t word here) ∙ ap (λ y. memory_words_at y (block_start s t) (transferred_count t)) bytes
    ∙ words_again s t b (block_start s t) i in
    let z = with_block_base (with_next_pc back) (brought_back t) (block_base back (brought_back t)) in
    let size = based_size back (brought_back t) (block_base back (brought_back t)) p.moves_base ∙ j.size in
    let again : register_in s.psr.mode (with_block_base (with_next_pc back) (brought_back t) (block_base back (brought_back t))) t.rn ≡ register_in s.psr.mode s t.rn =
    ap (λ q. register_in q (with_block_base (with_next_pc back) (brought_back t) (block_base back (brought_back t))) t.rn) (sym mode)
    ∙ based back (brought_back t) (block_base back (brought_back t)) p.moves_base p.base j.size ∙ base_back s back t word here ∙ base_read s t.rn p.base in
    let state : end ≡ with_loaded s.psr.mode z (registers_of_list t.list) (map (register_in s.psr.mode s) (registers_of_list t.list)) =
    came ∙ no_status _ t (memory_words_at c (block_start back (brought_back t)) (transferred_count (brought_back t))) p ∙ ap (λ q. with_loaded q z (registers_of_list t.list) (memory_words_at c (block_start back (brought_back t)) (transferred_count t))) (same_bank back t p ∙ mode)
    ∙ ap (λ ws. with_loaded s.psr.mode z (registers_of_list t.list) ws) words in
    ap (λ q. register_in s.psr.mode q n) state ∙ read_end s z t n p size again h which
