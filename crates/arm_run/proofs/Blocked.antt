-- LDM and STM lead on.
use Rattle.std.proofs.Common.{◌≡◌, ◌<◌, ◌≤◌, ◌&&◌, ◌+◌, ◌-◌, ◌*◌, ◌/◌, ◌%◌, ◌^◌, ℕ, zero, suc, Bool, true, false, cond, not, nat_eq, List, [], ◌∷◌, ◌++◌, length, map, slice_get, None, Result, Ok, inl, inr, refl, sym, ◌∙◌, ap, subst, arith, if◌then◌else◌}
use Rattle.std.proofs.lemmas.Bool.{cases_lt}
use Rattle.std.proofs.lemmas.Bool.Decides.{nat_tests}
use Rattle.std.proofs.lemmas.List.{map-append}
use Rattle.arm_core.specs.Outcome.{bind}
use Rattle.arm_core.specs.Word.{bit_of, field}
use Rattle.arm_core.specs.Fault.{Fault}
use Rattle.arm_step.specs.Bytes.{Bytes, word_start}
use Rattle.arm_core.specs.Fields.{block_transfer_in}
use Rattle.arm_core.specs.Names.{block_mode_of}
use Rattle.arm_core.specs.Action.TheVariants as action
use Rattle.arm_core.specs.BlockTransfer.{BlockTransfer}
use Rattle.arm_core.specs.BlockMode.{BlockMode}
use Rattle.arm_core.specs.BlockMode.TheVariants.{DecrementAfter, IncrementAfter, DecrementBefore, IncrementBefore}
use Rattle.arm_core.specs.Condition.TheVariants as condition
use Rattle.arm_core.specs.Effect.{plain_operand, status_operand, with_next_pc, with_result}
use Rattle.arm_core.specs.Listed.{listed_below, registers_of_list}
use Rattle.arm_core.specs.State.{State, register_in, with_register}
use Rattle.arm_core.specs.declared.psr.Mode.{Mode}
use Rattle.arm_core.specs.declared.psr.Mode.TheVariants.{User}
use Rattle.arm_core.specs.declared.turn.StepEnd.{StepEnd}
use Rattle.arm_core.specs.declared.turn.StepEnd.TheVariants as turn
use Rattle.arm_core.proofs.Listing.{few_of_all}
use Rattle.arm_core.proofs.Lowest.{low_list}
use Rattle.arm_step.specs.Blocks.{lowest, stepped_base, transferred_count, block_start, block_base, loads_status, bank_of, with_block_base, with_loaded, with_block_status, with_status_if, block_loaded, stores_new_base, block_value, block_values, block_stored, result_of_block_transfer}
use Rattle.arm_step.specs.Step.{or_fault, result_of_action, result_of_step, result_of_word}
use Rattle.arm_step.specs.PageWords.{words_in}
use Rattle.arm_step.specs.Turns.{Turns}
use Rattle.arm_step.specs.Words.{with_words, words_loaded, words_store_fault}
use Rattle.arm_step.proofs.PageBlocks.{block_done}
use Rattle.arm_predecode.specs.Kinds.{goes_up, gap_below, MovesBlock}
use Rattle.arm_predecode.specs.OpValue.{OpValue}
use Rattle.arm_run.specs.Blocked.{block_base_after, lower_base, first_word, block_first, with_block_base_after, IsBlockLoaded, IsBlockStored}
use Rattle.arm_run.specs.Moved.{with_base_if}
use Rattle.arm_run.specs.Standing.{core_at, IsFetched}
use Rattle.arm_run.proofs.Carried.{carried, turns_by}
use Rattle.arm_run.proofs.OperandsRead.{first_read, other_below, status_read}
use Rattle.arm_run.proofs.Positions.{next_position}
use Rattle.arm_run.proofs.Transferred.{based_by}

-- the parts of an op as numbers
pub counted : (l u w p : Bool) (r : OpValue) (n : ℕ) → MovesBlock l u w p r → n ≡ r.rs / 4 → n ≡ length (registers_of_list r.value)
counted l u w p r n h e = omega (arith, h.size)

pub few : (l u w p : Bool) (r : OpValue) (n : ℕ) → MovesBlock l u w p r → n ≡ r.rs / 4 → n ≤ 16
few l u w p r n h e = omega (arith, h.size, few_of_all r.value)

pub list_value : (l u w p : Bool) (r : OpValue) → MovesBlock l u w p r → r.value < 2 ^ 16
list_value l u w p r h = omega (arith, h.list)

pub low_value : (l u w : Bool) (r : OpValue) → MovesBlock l u w false r → r.value < 2 ^ 15
low_value l u w r h = low_list r.value (list_value l u w false r h) h.pc

-- where the words lie, and what is written back
lowest_by : (mode : BlockMode) (base n : ℕ) → base < 2 ^ 32 → n ≤ 16 → lowest mode base n ≡ (lower_base (goes_up mode) base (4 * n) + gap_below mode) % 2 ^ 32
lowest_by IncrementAfter base n h few = omega arith
lowest_by IncrementBefore base n h few = refl
lowest_by DecrementAfter base n h few = omega arith
lowest_by DecrementBefore base n h few = omega arith

stepped_by : (mode : BlockMode) (base n : ℕ) → stepped_base mode base n ≡ block_base_after (goes_up mode) base (4 * n)
stepped_by IncrementAfter base n = refl
stepped_by IncrementBefore base n = refl
stepped_by DecrementAfter base n = refl
stepped_by DecrementBefore base n = refl

base_is : (s : State) (at : ℕ) (l u w p : Bool) (r : OpValue) → MovesBlock l u w p r → plain_operand (core_at s at) (field r.word 16 4) 2 ≡ register_in s.psr.mode s r.rn
base_is s at l u w p r h =
    first_read s at (field r.word 16 4) 2 (subst (λ (k : ℕ). k < 15) h.rn h.rn_below) ∙ ap (λ (k : ℕ). register_in s.psr.mode s k) (sym h.rn)

count_is : (l u w p : Bool) (r : OpValue) → MovesBlock l u w p r → transferred_count (block_transfer_in r.word) ≡ length (registers_of_list r.value)
count_is l u w p r h = ap (λ (x : ℕ). length (registers_of_list x)) (sym h.list)

start_is : (s : State) (at : ℕ) (l u w p : Bool) (r : OpValue) → MovesBlock l u w p r → register_in s.psr.mode s r.rn < 2 ^ 32
    → block_first u s r ≡ block_start (core_at s at) (block_transfer_in r.word)
start_is s at l u w p r h small =
    let mode : BlockMode = block_mode_of (field r.word 23 2) in
    let base : ℕ = register_in s.psr.mode s r.rn in
    let n : ℕ = length (registers_of_list r.value) in
    sym (
    ap (λ (x : ℕ). word_start (lowest mode x (transferred_count (block_transfer_in r.word)))) (base_is s at l u w p r h)
    ∙ ap (λ (k : ℕ). word_start (lowest mode base k)) (count_is l u w p r h)
    ∙ ap word_start (lowest_by mode base n small (few_of_all r.value))
    ∙ ap (λ (b : Bool). word_start ((lower_base b base (4 * n) + gap_below mode) % 2 ^ 32)) h.up
    ∙ ap (λ (k : ℕ). word_start ((lower_base u base k + gap_below mode) % 2 ^ 32)) (sym h.size)
    ∙ ap (λ (k : ℕ). first_word u base r.rs k) (sym h.gap))

after_is : (s : State) (at : ℕ) (l u w p : Bool) (r : OpValue) → MovesBlock l u w p r
    → block_base_after u (register_in s.psr.mode s r.rn) r.rs ≡ block_base (core_at s at) (block_transfer_in r.word)
after_is s at l u w p r h =
    let mode : BlockMode = block_mode_of (field r.word 23 2) in
    let base : ℕ = register_in s.psr.mode s r.rn in
    let n : ℕ = length (registers_of_list r.value) in
    sym (
    ap (λ (x : ℕ). stepped_base mode x (transferred_count (block_transfer_in r.word))) (base_is s at l u w p r h)
    ∙ ap (λ (k : ℕ). stepped_base mode base k) (count_is l u w p r h)
    ∙ stepped_by mode base n
    ∙ ap (λ (b : Bool). block_base_after b base (4 * n)) h.up
    ∙ ap (λ (k : ℕ). block_base_after u base k) (sym h.size))

-- the base written back, at the next word
based_after : (s : State) (at : ℕ) (l u w p : Bool) (r : OpValue) → MovesBlock l u w p r
    → with_block_base (with_next_pc (core_at s at)) (block_transfer_in r.word) (block_base_after u (register_in s.psr.mode s r.rn) r.rs) ≡ core_at (with_block_base_after u w s r) (at + 1)
based_after s at l u w p r h =
    let base : ℕ = block_base_after u (register_in s.psr.mode s r.rn) r.rs in
    let rn : field r.word 16 4 < 15 = subst (λ (k : ℕ). k < 15) h.rn h.rn_below in
    ap (λ (t : State). with_block_base t (block_transfer_in r.word) base) (next_position s at)
    ∙ ap (λ (b : Bool). if b then with_result (core_at s (at + 1)) (field r.word 16 4) base else core_at s (at + 1)) h.back
    ∙ based_by s (at + 1) (field r.word 16 4) base w (other_below (field r.word 16 4) 15 rn)
    ∙ ap (λ (k : ℕ). core_at (with_base_if w s k base) (at + 1)) (sym h.rn)

-- a load by its words
pub is_block_loaded : (b : Bytes) (s s' : State) (at next : ℕ) (u w : Bool) (r : OpValue) (ws : List ℕ) → register_in s.psr.mode s r.rn < 2 ^ 32
    → words_loaded b (block_first u s r) (length (registers_of_list r.value)) ≡ Ok ws
    → core_at s' next ≡ with_loaded s.psr.mode (core_at (with_block_base_after u w s r) (at + 1)) (registers_of_list r.value) ws → IsBlockLoaded b s at u w r s' next
is_block_loaded b s s' at next u w r ws small there core = record { small = small; words = ws; there = there; core = core }

-- the base where it is written back, and where not
pub base_written : (s t : State) (u w : Bool) (r : OpValue) (base : ℕ) → w ≡ true → base ≡ block_base_after u (register_in s.psr.mode s r.rn) r.rs → t ≡ with_register s r.rn base
    → t ≡ with_block_base_after u w s r
base_written s t u w r base writes is set =
    set ∙ ap (λ (x : ℕ). with_register s r.rn x) is ∙ ap (λ (b : Bool). with_base_if b s r.rn (block_base_after u (register_in s.psr.mode s r.rn) r.rs)) (sym writes)

pub base_left : (s t : State) (u w : Bool) (r : OpValue) → w ≡ false → t ≡ s → t ≡ with_block_base_after u w s r
base_left s t u w r writes same = same ∙ ap (λ (b : Bool). with_base_if b s r.rn (block_base_after u (register_in s.psr.mode s r.rn) r.rs)) (sym writes)

pub base_written_at : (s t : State) (p : ℕ) (u w : Bool) (r : OpValue) (base : ℕ) → w ≡ true → base ≡ block_base_after u (register_in s.psr.mode s r.rn) r.rs
    → t ≡ with_register (core_at s p) r.rn base → t ≡ core_at (with_block_base_after u w s r) p
base_written_at s t p u w r base writes is set =
    set ∙ ap (λ (x : State). core_at x p) (base_written s (with_register s r.rn base) u w r base writes is refl)

pub base_left_at : (s t : State) (p : ℕ) (u w : Bool) (r : OpValue) → w ≡ false → t ≡ core_at s p → t ≡ core_at (with_block_base_after u w s r) p
base_left_at s t p u w r writes same = same ∙ ap (λ (x : State). core_at x p) (base_left s s u w r writes refl)

mode_kept : (w : Bool) (s : State) (rn v : ℕ) → (with_base_if w s rn v).psr.mode ≡ s.psr.mode
mode_kept true s rn v = refl
mode_kept false s rn v = refl

-- the words of some bytes in the registers of an op's list
pub each_so : (s s' t : State) (p : ℕ) (u w : Bool) (r : OpValue) (list n : ℕ) (bytes : List ℕ) → t ≡ core_at (with_block_base_after u w s r) p → list ≡ r.value
    → n ≡ length (registers_of_list r.value) → s' ≡ with_loaded t.psr.mode t (registers_of_list list) (words_in bytes 0 (length (registers_of_list list)))
    → s' ≡ with_loaded s.psr.mode (core_at (with_block_base_after u w s r) p) (registers_of_list r.value) (words_in bytes 0 n)
each_so s s' t p u w r list n bytes based same count h =
    let b : State = core_at (with_block_base_after u w s r) p in
    h ∙ ap (λ (x : State). with_loaded x.psr.mode x (registers_of_list list) (words_in bytes 0 (length (registers_of_list list)))) based
    ∙ ap (λ (m : Mode). with_loaded m b (registers_of_list list) (words_in bytes 0 (length (registers_of_list list))))
    (mode_kept w s r.rn (block_base_after u (register_in s.psr.mode s r.rn) r.rs))
    ∙ ap (λ (l : ℕ). with_loaded s.psr.mode b (registers_of_list l) (words_in bytes 0 (length (registers_of_list l)))) same
    ∙ ap (λ (k : ℕ). with_loaded s.psr.mode b (registers_of_list r.value) (words_in bytes 0 k)) (sym count)

pub placed_so : (s s' t : State) (p : ℕ) (u w : Bool) (r : OpValue) (list n : ℕ) (bytes : List ℕ) → t ≡ with_block_base_after u w s r → list ≡ r.value
    → n ≡ length (registers_of_list r.value) → core_at s' p ≡ with_loaded t.psr.mode (core_at t p) (registers_of_list list) (words_in bytes 0 (length (registers_of_list list)))
    → core_at s' p ≡ with_loaded s.psr.mode (core_at (with_block_base_after u w s r) p) (registers_of_list r.value) (words_in bytes 0 n)
placed_so s s' t p u w r list n bytes based same count h =
    each_so s (core_at s' p) (core_at t p) p u w r list n bytes (ap (λ (x : State). core_at x p) based) same count h

-- the registers are those of the present mode, and no status is loaded
bank_is : (s : State) (l u w p : Bool) (r : OpValue) → MovesBlock l u w p r → bank_of s (block_transfer_in r.word) ≡ s.psr.mode
bank_is s l u w p r h =
    let t : BlockTransfer = block_transfer_in r.word in
    ap (λ (b : Bool). if b && not (b && (t.loads && bit_of t.list 15)) then User else s.psr.mode) h.plain

no_status : (s : State) (l u w p : Bool) (r : OpValue) (ws : List ℕ) → MovesBlock l u w p r → with_block_status s (block_transfer_in r.word) ws ≡ s
no_status s l u w p r ws h =
    let t : BlockTransfer = block_transfer_in r.word in
    let none : loads_status t ≡ false = ap (λ (b : Bool). b && (t.loads && bit_of t.list 15)) h.plain in
    ap (λ (b : Bool). if b then with_status_if s (slice_get ws (length ws - 1)) else s) none

loaded_so : (s s' : State) (at next : ℕ) (b : Bytes) (u w p : Bool) (r : OpValue) (h : MovesBlock true u w p r) (l : IsBlockLoaded b s at u w r s' next)
    → with_block_status (with_loaded (bank_of (core_at s at) (block_transfer_in r.word))
    (with_block_base (with_next_pc (core_at s at)) (block_transfer_in r.word) (block_base (core_at s at) (block_transfer_in r.word))) (registers_of_list (field r.word 0 16)) l.words)
    (block_transfer_in r.word) l.words ≡ core_at s' next
loaded_so s s' at next b u w p r h l =
    let t : State = core_at s at in
    let tr : BlockTransfer = block_transfer_in r.word in
    let regs : List ℕ = registers_of_list (field r.word 0 16) in
    no_status (with_loaded (bank_of t tr) (with_block_base (with_next_pc t) tr (block_base t tr)) regs l.words) true u w p r l.words h
    ∙ ap (λ (m : Mode). with_loaded m (with_block_base (with_next_pc t) tr (block_base t tr)) regs l.words) (bank_is t true u w p r h)
    ∙ ap (λ (x : ℕ). with_loaded s.psr.mode (with_block_base (with_next_pc t) tr x) regs l.words) (sym (after_is s at true u w p r h))
    ∙ ap (λ (x : State). with_loaded s.psr.mode x regs l.words) (based_after s at true u w p r h)
    ∙ ap (λ (x : ℕ). with_loaded s.psr.mode (core_at (with_block_base_after u w s r) (at + 1)) (registers_of_list x) l.words) (sym h.list)
    ∙ sym l.core

loads : (owned : ℕ → Bool) (s s' : State) (at next : ℕ) (b : Bytes) (u w p : Bool) (r : OpValue) → MovesBlock true u w p r → IsBlockLoaded b s at u w r s' next
    → result_of_word owned (core_at s at) b r.word ≡ Ok (core_at s' next, b)
unfolding result_of_action result_of_block_transfer
loads owned s s' at next b u w p r h l =
    let t : State = core_at s at in
    let tr : BlockTransfer = block_transfer_in r.word in
    let there : words_loaded b (block_start t tr) (transferred_count tr) ≡ Ok l.words =
    ap (λ (x : ℕ). words_loaded b x (transferred_count tr)) (sym (start_is s at true u w p r h l.small))
    ∙ ap (λ (n : ℕ). words_loaded b (block_first u s r) n) (count_is true u w p r h) ∙ l.there in
    carried owned t b condition.Always (action.BlockTransfer tr) r h.does refl
    ∙ ap (λ (f : Bool). let o : Result (State × Bytes) StepEnd = or_fault (if f then block_loaded t b tr else block_stored owned t b tr) in o) h.loads
    ∙ ap (λ (x : Result (List ℕ) Fault). let o : Result (State × Bytes) StepEnd = or_fault (bind x (λ ws. let v : Result (State × Bytes) Fault = Ok (
      with_block_status (with_loaded (bank_of t tr) (with_block_base (with_next_pc t) tr (block_base t tr)) (registers_of_list tr.list) ws) tr ws,
      b,
    ) in v)) in o) there
    ∙ ap (λ (x : State). let o : Result (State × Bytes) StepEnd = Ok (x, b) in o) (loaded_so s s' at next b u w p r h l)

pub loads_block : (owned : ℕ → Bool) (s s' : State) (at next : ℕ) (b : Bytes) (u w p : Bool) (r : OpValue) → MovesBlock true u w p r → IsFetched b at r.word
    → IsBlockLoaded b s at u w r s' next → Turns (core_at s at, b) (result_of_step owned (core_at s at) b) turn.Done (core_at s' next, b)
loads_block owned s s' at next b u w p r h fetched l =
    turns_by _ (core_at s at, b) (core_at s' next, b) (fetched owned s ∙ loads owned s s' at next b u w p r h l)

-- the values that are stored, register by register
same_one : (f g : ℕ → ℕ) (n : ℕ) (b has : Bool) → b ≡ has → (b ≡ true → f n ≡ g n) → map f (cond has (n ∷ []) []) ≡ map g (cond has (n ∷ []) [])
same_one f g n b true e h = ap (λ (x : ℕ). x ∷ []) (h e)
same_one f g n b false e h = refl

same_values : (f g : ℕ → ℕ) (list n : ℕ) → ((k : ℕ) → k < n → bit_of list k ≡ true → f k ≡ g k) → map f (listed_below n list) ≡ map g (listed_below n list)
unfolding listed_below
same_values f g list zero h = refl
same_values f g list (suc n) h =
    let last : List ℕ = cond (bit_of list n) (n ∷ []) [] in
    map-append f (listed_below n list) last
    ∙ ap (λ (xs : List ℕ). xs ++ map f last) (same_values f g list n (λ k below. h k (omega arith)))
    ∙ ap (λ (xs : List ℕ). map g (listed_below n list) ++ xs) (same_one f g n (bit_of list n) (bit_of list n) refl (h n (omega arith)))
    ∙ sym (map-append g (listed_below n list) last)

-- a register of the list is no base that is written back, and none is R15
no_base : (w has : Bool) (list rn k : ℕ) (is : Bool) → nat_eq k rn ≡ is → (w && bit_of list rn) ≡ false → bit_of list k ≡ true → ((w && has) && is) ≡ false
no_base true true list rn k true e apart listed =
    let same : k ≡ rn = grind (arith, nat_tests) in
    let no : true ≡ false = sym listed ∙ ap (bit_of list) same ∙ apart in
    absurd (cc)
no_base true true list rn k false e apart listed = refl
no_base true false list rn k is e apart listed = refl
no_base false has list rn k is e apart listed = refl

below_pc : (list k : ℕ) → k < 16 → bit_of list 15 ≡ false → bit_of list k ≡ true → k < 15
below_pc list k h low listed = elim (cases_lt k 15) [
  | inl below ↦ below
  | inr past ↦
      let same : k ≡ 15 = omega (arith, past, h) in
      let no : true ≡ false = sym listed ∙ ap (bit_of list) same ∙ low in
      absurd (cc)
]

value_is : (s : State) (at : ℕ) (u w : Bool) (r : OpValue) (k : ℕ) → MovesBlock false u w false r → k < 16 → bit_of r.value k ≡ true
    → block_value (core_at s at) (block_transfer_in r.word) k ≡ register_in s.psr.mode s k
value_is s at u w r k h below listed =
    let t : State = core_at s at in
    let tr : BlockTransfer = block_transfer_in r.word in
    let low : k < 15 = below_pc r.value k below h.pc listed in
    let has : Bool = not (nat_eq (tr.list % 2 ^ tr.rn) 0) in
    let same : (stores_new_base tr && nat_eq k tr.rn) ≡ false =
    ap (λ (b : Bool). (b && has) && nat_eq k tr.rn) h.back
    ∙ no_base w has r.value tr.rn k (nat_eq k tr.rn) refl (ap (λ (n : ℕ). w && bit_of r.value n) (sym h.rn) ∙ h.apart) listed in
    ap (λ (b : Bool). if b then block_base t tr else status_operand (bank_of t tr) t k 3) same
    ∙ ap (λ (m : Mode). status_operand m t k 3) (bank_is t false u w false r h)
    ∙ status_read s at k 3 low

values_are : (s : State) (at : ℕ) (u w : Bool) (r : OpValue) → MovesBlock false u w false r
    → block_values (core_at s at) (block_transfer_in r.word) ≡ map (register_in s.psr.mode s) (registers_of_list r.value)
unfolding registers_of_list
values_are s at u w r h =
    let f : ℕ → ℕ = block_value (core_at s at) (block_transfer_in r.word) in
    ap (λ (x : ℕ). map f (listed_below 16 x)) (sym h.list)
    ∙ same_values f (register_in s.psr.mode s) r.value 16 (λ k below listed. value_is s at u w r k h below listed)

stores : (owned : ℕ → Bool) (s s' : State) (at : ℕ) (b b' : Bytes) (u w : Bool) (r : OpValue) → MovesBlock false u w false r → IsBlockStored owned b s u w r s' b'
    → result_of_word owned (core_at s at) b r.word ≡ Ok (core_at s' (at + 1), b')
unfolding result_of_action result_of_block_transfer
stores owned s s' at b b' u w r h l =
    let t : State = core_at s at in
    let tr : BlockTransfer = block_transfer_in r.word in
    let first : ℕ = block_first u s r in
    let base : ℕ = block_base_after u (register_in s.psr.mode s r.rn) r.rs in
    let free : words_store_fault owned b first (transferred_count tr) ≡ None =
    ap (λ (n : ℕ). words_store_fault owned b first n) (count_is false u w false r h) ∙ l.free in
    let core : with_block_base (with_next_pc t) tr base ≡ core_at s' (at + 1) =
    based_after s at false u w false r h ∙ ap (λ (x : State). core_at x (at + 1)) (sym l.core) in
    let bytes : with_words b first (block_values t tr) ≡ b' =
    ap (λ (vs : List ℕ). with_words b first vs) (values_are s at u w r h) ∙ sym l.bytes in
    carried owned t b condition.Always (action.BlockTransfer tr) r h.does refl
    ∙ ap (λ (f : Bool). let o : Result (State × Bytes) StepEnd = or_fault (if f then block_loaded t b tr else block_stored owned t b tr) in o) h.loads
    ∙ ap (λ (x : Result (State × Bytes) Fault). let o : Result (State × Bytes) StepEnd = or_fault x in o)
    (block_done owned t b tr first base (start_is s at false u w false r h l.small) (after_is s at false u w false r h) free)
    ∙ ap (λ (x : State). let o : Result (State × Bytes) StepEnd = Ok (x, with_words b first (block_values t tr)) in o) core
    ∙ ap (λ (x : Bytes). let o : Result (State × Bytes) StepEnd = Ok (core_at s' (at + 1), x) in o) bytes

pub stores_block : (owned : ℕ → Bool) (s s' : State) (at : ℕ) (b b' : Bytes) (u w : Bool) (r : OpValue) → MovesBlock false u w false r → IsFetched b at r.word
    → IsBlockStored owned b s u w r s' b' → Turns (core_at s at, b) (result_of_step owned (core_at s at) b) turn.Done (core_at s' (at + 1), b')
stores_block owned s s' at b b' u w r h fetched l =
    turns_by _ (core_at s at, b) (core_at s' (at + 1), b') (fetched owned s ∙ stores owned s s' at b b' u w r h l)
